-- What locations mean, over a stretch of a run.
use Rattle.std.specs.Prelude.{◌≡◌, ℕ, ◌+◌, ◌≤◌, List, Some}
use Rattle.flow_model.specs.declared.Loc.{Loc}
use Rattle.flow_model.specs.declared.StepSeen.{StepSeen}
use Rattle.flow_model.specs.Origins.{Policy, step_at}
use Rattle.taint_shadow.specs.Labels.{LabelWords}
use Rattle.taint_shadow.specs.Steps.{after}

-- m gives what each location means at each time from the first one on: at first what it means untouched, and one step of the
-- trace later what that step makes of what was meant
pub record IsCourse {A M : Type 0} (words : LabelWords A M) (policy : Policy) (trace : List StepSeen) (first : ℕ) (m : ℕ → Loc → M) : Type 0 where
  pub begins : (l : Loc) → m first l ≡ words.untouched l
  pub turns : (t : ℕ) (step : StepSeen) → first ≤ t → step_at trace t ≡ Some step
      → (l : Loc) → m (t + 1) l ≡ after words policy step step.call (m t) l
