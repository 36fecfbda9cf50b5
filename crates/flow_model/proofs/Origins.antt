-- Laws of origins. Crates above cite these lemmas.
use Rattle.std.proofs.Common.{◌≡◌, ℕ, zero, suc, List, [], ◌∷◌, refl}
use Rattle.std.specs.Prelude.{Option, Some, None}
use Rattle.flow_model.specs.declared.Loc.{Loc}
use Rattle.flow_model.specs.declared.SourceByte.{SourceByte}
use Rattle.flow_model.specs.declared.StepSeen.{StepSeen}
use Rattle.lists.specs.Sets.{Ascends}
use Rattle.flow_model.specs.Orders.{source_cmp}
use Rattle.flow_model.specs.Flow.{from}
use Rattle.flow_model.specs.Origins.{Policy, origins, fresh, union_over, after_step, step_at}
use Rattle.lists.proofs.Algebra.{Ascends-union}
use Rattle.flow_model.proofs.Orders.{source_total}

pub Ascends-union_over : (before : Loc → List SourceByte) → ((l : Loc) → Ascends source_cmp (before l)) → (ls : List Loc) → Ascends source_cmp (union_over before ls)
Ascends-union_over before h [] = tt
Ascends-union_over before h (l ∷ []) = h l
Ascends-union_over before h (l ∷ m ∷ ls) = Ascends-union source_total (before l) _ (Ascends-union_over before h (m ∷ ls))

pub Ascends-after_step : (policy : Policy) (step : Option StepSeen) (before : Loc → List SourceByte) → ((l : Loc) → Ascends source_cmp (before l)) → (l : Loc) → Ascends source_cmp (after_step policy step before l)
Ascends-after_step policy None before h l = h l
Ascends-after_step policy (Some step) before h l = Ascends-union source_total (fresh policy step l) _ (Ascends-union_over before h (from policy.rule step l))

pub Ascends-origins : (policy : Policy) (trace : List StepSeen) (t : ℕ) (l : Loc) → Ascends source_cmp (origins policy trace t l)
Ascends-origins policy trace zero l = tt
Ascends-origins policy trace (suc t) l = Ascends-after_step policy (step_at trace t) (origins policy trace t) (Ascends-origins policy trace t) l

-- what is no target of the step, and receives nothing, keeps its origins
pub kept : (policy : Policy) (step : StepSeen) (before : Loc → List SourceByte) (l : Loc) → from policy.rule step l ≡ l ∷ [] → fresh policy step l ≡ []
    → after_step policy (Some step) before l ≡ before l
kept policy step before l e f = rw (e, f) refl
