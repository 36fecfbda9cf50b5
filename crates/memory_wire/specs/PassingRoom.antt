-- The room that is kept for what passes, so that its calls take no memory.
use Rattle.std.specs.Prelude.{◌≡◌, ◌≤◌, ◌+◌, ℕ, List, [], ◌∷◌, length, vec_capacity}
use Rattle.memory_wire.specs.declared.step.Step.{Step}
use Rattle.memory_wire.specs.declared.step.Step.TheVariants.{Received, Sent}
use Rattle.memory_wire.specs.declared.passing.Passing.TheInside.{Inside}

-- how many bytes came at these calls, and how many went
abbrev pub count_came : List Step → ℕ
count_came [] = 0
count_came (Received n ∷ steps) = n + count_came steps
count_came (Sent n ∷ steps) = count_came steps

abbrev pub count_went : List Step → ℕ
count_went [] = 0
count_went (Received n ∷ steps) = count_went steps
count_went (Sent n ∷ steps) = n + count_went steps

pub record IsRoomy (p : Inside) : Type 0 where
  pub came : count_came p.steps.items ≡ p.came
  pub within : p.came ≤ length p.bytes.items
  pub went : count_went p.steps.items ≡ length p.gone.bytes
  pub steps : length p.steps.items + p.calls_left ≤ vec_capacity p.steps
