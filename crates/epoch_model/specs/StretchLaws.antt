-- Stretches of a trace compose.
use Rattle.std.specs.Prelude.{◌≡◌, ℕ, ◌+◌, ◌<◌, List, ◌++◌, length}
use Rattle.flow_model.specs.declared.Loc.{Loc}
use Rattle.flow_model.specs.declared.Rule.{Rule}
use Rattle.flow_model.specs.declared.StepSeen.{StepSeen}
use Rattle.lists.specs.Sets.{union}
use Rattle.flow_model.specs.Orders.{source_cmp}
use Rattle.flow_model.specs.Origins.{Policy, union_over, origins, step_at}
use Rattle.epoch_model.specs.Stretch.{locations_over, past, born}

-- the origins at a time are what was born since an earlier time s, and the origins at s of what flows from there
abbrev pub OriginsCompose : Type 0
OriginsCompose = (policy : Policy) (trace : List StepSeen) (s n : ℕ) (l : Loc)
    → origins policy trace (s + n) l
    ≡ union source_cmp (born policy trace s n l) (union_over (origins policy trace s) (past policy.rule trace s n l))

-- what flows over two stretches is what flows over the first into what flows over the second
abbrev pub PastComposes : Type 0
PastComposes = (rule : Rule) (trace : List StepSeen) (r m n : ℕ) (l : Loc)
    → past rule trace r (m + n) l ≡ locations_over (past rule trace r m) (past rule trace (r + m) n l)

-- two stretches of n steps have the same steps
abbrev pub HaveSameSteps : List StepSeen → ℕ → List StepSeen → ℕ → ℕ → Type 0
HaveSameSteps trace s other r n = (i : ℕ) → i < n → step_at trace (s + i) ≡ step_at other (r + i)

-- what flows over a stretch depends on its steps alone, so an epoch may be looked at as a trace of its own
abbrev pub StretchesAreTheirSteps : Type 0
StretchesAreTheirSteps = (policy : Policy) (trace : List StepSeen) (s : ℕ) (other : List StepSeen) (r n : ℕ) (l : Loc)
    → HaveSameSteps trace s other r n
    → (past policy.rule trace s n l ≡ past policy.rule other r n l)
    × (born policy trace s n l ≡ born policy other r n l)

-- the origins over a trace in two pieces are what was born in the second, and the origins over the first of what flows
-- into the second
abbrev pub PiecesCompose : Type 0
PiecesCompose = (policy : Policy) (xs ys : List StepSeen) (n : ℕ) (l : Loc)
    → origins policy (xs ++ ys) (length xs + n) l
    ≡ union source_cmp (born policy ys 0 n l)
    (union_over (origins policy xs (length xs)) (past policy.rule ys 0 n l))
