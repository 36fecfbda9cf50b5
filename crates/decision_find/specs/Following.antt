-- The tracking of a run, as its steps are told one after another.
use Rattle.std.specs.Prelude.{◌≡◌, ℕ, ◌+◌, ◌<◌, List, ◌++◌, Some}
use Rattle.log_model.specs.Logs.{steps}
use Rattle.flow_model.specs.declared.Loc.{Loc}
use Rattle.flow_model.specs.declared.SourceByte.{SourceByte}
use Rattle.flow_model.specs.declared.StepSeen.{StepSeen}
use Rattle.flow_model.specs.Origins.{Policy, origins, step_at}
use Rattle.report_model.specs.Query.{Query, has_source, policy_of}
use Rattle.replay_model.specs.Run.{Moment, start, moment_after}
use Rattle.replayer.specs.Jobs.{Job, IsJob, trace_of}
use Rattle.taint_shadow.specs.Labels.{KeepsLabels}
use Rattle.taint_shadow.specs.Steps.{AreStanding, Holds, Becomes, after}
use Rattle.decision_find.specs.Decides.{deciding_rule}
use Rattle.decision_find.specs.Decisions.{Decision, decided_from}
use Rattle.decision_find.specs.Text.{deciding_query, decided_by}
use Rattle.decision_find.specs.declared.looks.Look.{Look}
use Rattle.decision_find.specs.declared.tracking.DecisionTracking.{DecisionTracking}
use Rattle.source_labels.specs.Words.{label_words}
use Rattle.decision_find.specs.Looks.{listed}
use Rattle.decision_find.specs.Groups.{AreGroups, HaveLabels}

-- the label of each location and of each group stands
pub record IsSound (t : DecisionTracking) : Type 0 where
  pub locations : AreStanding label_words t.labels t.places
  pub groups : HaveLabels t.labels t.groups

-- the moment of a job's run after so many steps
abbrev pub moment_of : Job → ℕ → Moment
moment_of job t = moment_after t (start job.start job.log)

abbrev pub deciding_policy : Query → Policy
deciding_policy q = policy_of (deciding_query q)

-- after so many steps of a job's run each location has its origins, and the decisions so far are counted
pub record IsTracked (q : Query) (job : Job) (t : ℕ) (tracking : DecisionTracking) : Type 0 where
  pub query : tracking.query.now ≡ q
  pub rule : tracking.rule ≡ deciding_rule q.rule
  pub sound : IsSound tracking
  pub holds : Holds label_words tracking.labels tracking.places (origins (deciding_policy q) (trace_of job) t)
  pub groups : AreGroups tracking.labels
      (decided_from (deciding_policy q) (trace_of job) t (start job.start job.log)) tracking.groups

-- ---- the parts of a step

-- the decisions of a look at these locations are counted too
pub record Notes (look : Look) (locs : List Loc) (old new : DecisionTracking) : Type 0 where
  pub keeps : KeepsLabels label_words old.labels new.labels
  pub rest : new ≡ record old { labels = new.labels; groups = new.groups }
  pub groups : (f : Loc → List SourceByte) (ds : List Decision) → Holds label_words old.labels old.places f
      → AreGroups old.labels ds old.groups → AreGroups new.labels (ds ++ listed look f locs) new.groups

-- locations have the labels that a step makes of those before it, and nothing else is changed
pub record IsTurned (step : StepSeen) (old new : DecisionTracking) : Type 0 where
  pub rest : new ≡ record old { labels = new.labels; places = new.places }
  pub labels : Becomes label_words old.labels old.places new.labels new.places
      (after label_words (record { rule = old.rule; introduces = has_source old.query.now }) step step.call)

-- ---- a step

-- a job's run makes this step, at this pc
pub record IsStepOf (job : Job) (pc : ℕ) (s : StepSeen) : Type 0 where
  pub is_job : IsJob job
  pub below : s.number < steps job.log
  pub step : step_at (trace_of job) s.number ≡ Some s
  pub at_pc : pc ≡ (moment_of job s.number).state.pc

-- where the steps before this one were followed, this one is too
abbrev pub TracksStep : ℕ → StepSeen → DecisionTracking → DecisionTracking → Type 0
TracksStep pc s old new =
    (q : Query) (job : Job) → IsStepOf job pc s → IsTracked q job s.number old → IsTracked q job (s.number + 1) new

-- ---- a run

-- the decisions of a job's run are counted
pub record HasDecisions (q : Query) (job : Job) (tracking : DecisionTracking) : Type 0 where
  pub sound : HaveLabels tracking.labels tracking.groups
  pub groups : AreGroups tracking.labels (decided_by q job.start job.log) tracking.groups
