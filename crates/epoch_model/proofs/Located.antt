-- What flows into locations are locations, where the steps are in range.
use Rattle.std.proofs.Common.{ℕ, zero, suc, ◌+◌, List, [], ◌∷◌}
use Rattle.std.specs.List.{AllByRecursion}
use Rattle.flow_model.specs.declared.Loc.{Loc}
use Rattle.flow_model.specs.declared.Rule.{Rule}
use Rattle.flow_model.specs.declared.StepSeen.{StepSeen}
use Rattle.flow_model.specs.Orders.{loc_cmp}
use Rattle.flow_model.specs.Origins.{step_at}
use Rattle.flow_model.specs.Ranges.{IsLocation, IsInRange}
use Rattle.flow_model.proofs.Located.{of_step, located-each}
use Rattle.lists.proofs.Algebra.{All-union}
use Rattle.epoch_model.specs.Stretch.{locations_over, from_step, past}

located-over : (before : Loc → List Loc) → ((l : Loc) → IsLocation l → AllByRecursion IsLocation (before l)) → (ls : List Loc) → AllByRecursion IsLocation ls
    → AllByRecursion IsLocation (locations_over before ls)
located-over before h [] a = tt
located-over before h (l ∷ []) a = h l a.0
located-over before h (l ∷ m ∷ ls) a = All-union loc_cmp IsLocation (before l) (locations_over before (m ∷ ls)) (h l a.0) (located-over before h (m ∷ ls) a.1)

located-from : (rule : Rule) (trace : List StepSeen) (t : ℕ) (l : Loc) → AllByRecursion IsInRange trace → IsLocation l → AllByRecursion IsLocation (from_step rule (step_at trace t) l)
located-from rule [] t l r h = (h, tt)
located-from rule (s ∷ ss) zero l r h = located-each _ (of_step rule s s.call l (r.0).fits h)
located-from rule (s ∷ ss) (suc t) l r h = located-from rule ss t l r.1 h

pub located-past : (rule : Rule) (trace : List StepSeen) (s n : ℕ) (l : Loc) → AllByRecursion IsInRange trace → IsLocation l → AllByRecursion IsLocation (past rule trace s n l)
located-past rule trace s zero l r h = (h, tt)
located-past rule trace s (suc n) l r h =
    located-over (past rule trace s n) (λ k g. located-past rule trace s n k r g) (from_step rule (step_at trace (s + n)) l) (located-from rule trace (s + n) l r h)
