-- The tracking of an epoch, as its steps are told one after another.
use Rattle.std.specs.Prelude.{◌≡◌, ℕ, ◌+◌, ◌-◌, ◌^◌, ◌<◌, ◌≤◌, List, [], ◌∷◌, All, Some, map}
use Rattle.isa.specs.declared.Instr.{Instr}
use Rattle.flow_model.specs.declared.Loc.{Loc}
use Rattle.flow_model.specs.declared.InnerSink.{InnerSink}
use Rattle.flow_model.specs.declared.StepSeen.{StepSeen}
use Rattle.flow_model.specs.Flow.{flow}
use Rattle.flow_model.specs.Orders.{inner_cmp}
use Rattle.flow_model.specs.Origins.{step_at}
use Rattle.flow_model.specs.Ranges.{IsInRange}
use Rattle.report_model.specs.Query.{Query, AreLocated, policy_of}
use Rattle.report_model.specs.Rows.{from_time}
use Rattle.lists.specs.Sets.{Ascends}
use Rattle.epoch_model.specs.Stretch.{sinks_of_epoch}
use Rattle.taint_shadow.specs.Labels.{LabelWords}
use Rattle.taint_shadow.specs.Steps.{AreStanding, Holds, Turned}
use Rattle.taint_tracking.specs.declared.tracking.Tracked.{Tracked}
use Rattle.taint_tracking.specs.declared.tracking.Tracking.{Tracking}
use Rattle.taint_tracking.specs.Courses.{IsCourse}
use Rattle.taint_tracking.specs.Sinks.{Notes, AreLabelled, labelled, meant, sinks_at}

-- the number of the step after which the first of these points is due: past all numbers of steps where there is none
abbrev pub number_before : List InnerSink → ℕ
number_before [] = 2 ^ 64 - 1
number_before (p ∷ ps) = p.time - 1

-- each of the n steps from time s on is in range
abbrev pub AreInRange : List StepSeen → ℕ → ℕ → Type 0
AreInRange trace s n = (i : ℕ) (step : StepSeen) → i < n → step_at trace (s + i) ≡ Some step → IsInRange step

module _ {A : Type 0} where
  -- what a tracking is of
  abbrev pub query_of : Tracking A → Query
  query_of t = t.query.now

  -- the number of the step after which its next point is due
  abbrev pub due_of : Tracking A → ℕ
  due_of t = t.due_after

  -- what it is taken apart into
  abbrev pub parts : Tracking A → Tracked A
  parts t = record { labels = t.labels; places = t.places; sinks = t.sinks }

module _ {A M : Type 0} (words : LabelWords A M) where
  -- the label of each location and of each sink stands; the points that are left ascend, and are at locations
  pub record IsSound (t : Tracking A) : Type 0 where
    pub locations : AreStanding words t.labels t.places
    pub sinks : AreLabelled words t.labels t.sinks.items
    pub points : Ascends inner_cmp t.points.now
    pub located : AreLocated t.points.now
    pub due : t.due_after ≡ number_before t.points.now

  -- the steps from the first one's time up to this time are in range; where m gives what is meant, each location means what
  -- m gives at this time, and each sink among the steps what m gives for it
  pub record IsOfEpoch (q : Query) (trace : List StepSeen) (first time : ℕ) (m : ℕ → Loc → M) (t : Tracked A) : Type 0 where
    pub in_range : AreInRange trace first (time - first)
    pub holds : Holds words t.labels t.places (m time)
    pub rows : map (labelled words t.labels) t.sinks.items ≡ map (meant m) (sinks_of_epoch q trace first (time - first))

  -- the steps from the first one's time up to this time are followed; the points after this time are left
  pub record IsTracked (q : Query) (trace : List StepSeen) (first time : ℕ) (m : ℕ → Loc → M) (t : Tracking A) : Type 0 where
    pub sound : IsSound t
    pub query : query_of t ≡ q
    pub begun : first ≤ time
    pub found : IsOfEpoch q trace first time m (parts t)
    pub left : t.points.now ≡ from_time (time + 1) q.points

  -- before its first step an epoch of each trace is tracked, whatever course is meant
  abbrev pub IsBegun : Query → ℕ → Tracking A → Type 0
  IsBegun q first t =
      (trace : List StepSeen) (m : ℕ → Loc → M) → IsCourse words (policy_of q) trace first m
      → IsTracked q trace first first m t

  -- where the steps up to one time were followed, those up to another are
  abbrev pub TracksSteps : List StepSeen → ℕ → ℕ → Tracking A → Tracking A → Type 0
  TracksSteps trace time until old new =
      (q : Query) (first : ℕ) (m : ℕ → Loc → M) → IsCourse words (policy_of q) trace first m
      → IsTracked q trace first time m old → IsTracked q trace first until m new

  -- one step more is followed, of each trace that has it
  abbrev pub TracksStep : StepSeen → Tracking A → Tracking A → Type 0
  TracksStep step old new =
      (trace : List StepSeen) → step_at trace step.number ≡ Some step
      → TracksSteps trace step.number (step.number + 1) old new

  -- ---- the parts of a step

  -- locations have the labels that a step of this instruction, which is no call, makes of those before it, and nothing else is changed
  pub record IsTurned (old : Tracking A) (instr : Instr) (place : ℕ) (new : Tracking A) : Type 0 where
    pub labels : Turned words old.labels old.places new.labels new.places (flow (query_of old).rule instr place)
    pub rest : new ≡ record old { labels = new.labels; places = new.places }

  -- the points due right after the step of this number were noted, and the later ones are left
  pub record AreNoted (number : ℕ) (old new : Tracking A) : Type 0 where
    pub noted : Notes old.places (sinks_at (number + 1) old.points.now) old.sinks.items new.sinks.items
    pub left : new.points.now ≡ from_time (number + 2) old.points.now
    pub rest : new ≡ record old { sinks = new.sinks; points = new.points; due_after = new.due_after }

  -- where the points come after the step of this number, those due right after it were noted
  abbrev pub NotesDue : ℕ → Tracking A → Tracking A → Type 0
  NotesDue number old new = All (λ p. number < p.time) old.points.now → AreNoted number old new
