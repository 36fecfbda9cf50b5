-- What is known of an epoch that is tracked while there is memory, and of a run that is watched as one epoch.
use Rattle.std.specs.Prelude.{◌≡◌, ℕ, ◌+◌, ◌-◌, ◌^◌, ◌<◌, ◌≤◌, List, Option, Some, None, IfSome}
use Rattle.isa.specs.declared.Instr.{Instr}
use Rattle.isa.specs.Encodings.{Fits}
use Rattle.flow_model.specs.declared.Loc.{Loc}
use Rattle.flow_model.specs.declared.StepSeen.{StepSeen}
use Rattle.flow_model.specs.Origins.{step_at}
use Rattle.report_model.specs.Query.{Query, policy_of}
use Rattle.replayer.specs.Jobs.{Job, trace_of}
use Rattle.replayer.specs.Nexts.{seen_at}
use Rattle.taint_shadow.specs.Labels.{LabelWords}
use Rattle.taint_tracking.specs.declared.tracking.Tracked.{Tracked}
use Rattle.taint_tracking.specs.declared.tracking.Tracking.{Tracking}
use Rattle.taint_tracking.specs.Courses.{IsCourse}
use Rattle.taint_tracking.specs.Following.{due_of, IsTracked, IsOfEpoch}

-- what is kept while there is no fault
abbrev pub unless_faulty : {E T : Type 0} → Option E → T → Option T
unless_faulty None t = Some t
unless_faulty (Some e) t = None

-- up to which time no point is due, and nothing is once there is a fault
abbrev pub quiet_of : {A : Type 0} → Option (Tracking A) → ℕ
quiet_of None = 2 ^ 64 - 1
quiet_of (Some t) = due_of t

module _ {A M : Type 0} (words : LabelWords A M) where
  -- the tracking, if there is one, is of the steps of a trace from the first time up to another
  abbrev pub IsOfSteps : Query → List StepSeen → ℕ → ℕ → Option (Tracking A) → Type 0
  IsOfSteps q trace first time w =
      (m : ℕ → Loc → M) → IsCourse words (policy_of q) trace first m → IfSome w (IsTracked words q trace first time m)

  -- where the steps of a trace up to one time were tracked, those up to another are
  abbrev pub Tracks : List StepSeen → ℕ → ℕ → Option (Tracking A) → Option (Tracking A) → Type 0
  Tracks trace time until old new = (q : Query) (first : ℕ) → IsOfSteps q trace first time old → IsOfSteps q trace first until new

  -- one step more is tracked, of each trace that has it
  abbrev pub TracksNext : StepSeen → Option (Tracking A) → Option (Tracking A) → Type 0
  TracksNext step old new =
      (trace : List StepSeen) → step_at trace step.number ≡ Some step → Tracks trace step.number (step.number + 1) old new

  -- so is a plain step of this instruction, at each time before one up to which it was quiet, and it is quiet as long
  pub record TracksPlain (old : Option (Tracking A)) (instr : Instr) (place : ℕ) (new : Option (Tracking A)) : Type 0 where
    pub quiet : (until : ℕ) → until < 2 ^ 64 → until ≤ quiet_of old → until ≤ quiet_of new
    pub tracks : (until t : ℕ) → until ≤ quiet_of old → t < until → Fits instr
        → TracksNext (seen_at t (record { instr = instr; place = place })) old new

  -- the tracking, if there is one, is of so many of the first steps of a trace
  abbrev pub HasTracked : Query → List StepSeen → ℕ → Option (Tracking A) → Type 0
  HasTracked q trace = IsOfSteps q trace 0

  -- no step was told yet
  abbrev pub HasBegun : Query → Option (Tracking A) → Type 0
  HasBegun q w = (trace : List StepSeen) → HasTracked q trace 0 w

  -- if it had begun, it tracks so many steps of the job now
  abbrev pub has_seen : Option (Tracking A) → Option (Tracking A) → Job → ℕ → Type 0
  has_seen was now job time = (q : Query) → HasBegun q was → HasTracked q (trace_of job) time now

  -- of the steps that it tracks, this is what was found
  abbrev pub Finds : Option (Tracking A) → Tracked A → Type 0
  Finds w t =
      (q : Query) (trace : List StepSeen) (first time : ℕ) → IsOfSteps q trace first time w
      → (m : ℕ → Loc → M) → IsCourse words (policy_of q) trace first m → IsOfEpoch words q trace first time m t
