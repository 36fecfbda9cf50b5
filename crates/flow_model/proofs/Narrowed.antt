-- The origins by a policy that introduces fewer source bytes are those origins that it introduces. Crates above cite
-- these lemmas.
use Rattle.std.proofs.Common.{◌≡◌, ℕ, zero, suc, List, [], ◌∷◌, Bool, true, false, cond, refl, ap, ap₂, sym, ◌∙◌}
use Rattle.std.specs.Prelude.{Option, Some, None}
use Rattle.std.specs.List.{filter}
use Rattle.flow_model.specs.declared.Loc.{Loc}
use Rattle.flow_model.specs.declared.Rule.{Rule}
use Rattle.flow_model.specs.declared.SourceByte.{SourceByte}
use Rattle.flow_model.specs.declared.StepSeen.{StepSeen}
use Rattle.flow_model.specs.declared.CallSeen.{CallSeen}
use Rattle.lists.specs.Sets.{union, Ascends}
use Rattle.lists.proofs.Filters.{IsAlikeWhereTied, filter-union}
use Rattle.flow_model.specs.Orders.{source_cmp}
use Rattle.flow_model.specs.Flow.{from, is_received}
use Rattle.flow_model.specs.Origins.{Policy, origins, introduced, fresh, fresh_by, byte_at, union_over, after_step, step_at}
use Rattle.flow_model.proofs.Orders.{source_total, source_same}
use Rattle.flow_model.proofs.Origins.{Ascends-union_over, Ascends-origins}

-- any test passes the same source bytes together
alike_sources : (t : SourceByte → Bool) → IsAlikeWhereTied source_cmp t
alike_sources t a b e = ap t (source_same a b e)

module _ (few many : Policy) (rule : many.rule ≡ few.rule) (within : (b : SourceByte) → few.introduces b ≡ true → many.introduces b ≡ true) where
  -- what the lesser policy introduces of these
  abbrev narrowed : List SourceByte → List SourceByte
  narrowed xs = filter few.introduces xs

  narrowed-introduced : (b : SourceByte) → introduced few b ≡ narrowed (introduced many b)
  narrowed-introduced b = by (few.introduces b) refl (many.introduces b) refl where
    by : (c : Bool) → few.introduces b ≡ c → (d : Bool) → many.introduces b ≡ d → cond c (b ∷ []) [] ≡ narrowed (cond d (b ∷ []) [])
    by true e false f = let w = within b e in cc
    by false e false f = refl
    by c e d f = ap (λ (c : Bool). cond c (b ∷ []) []) (sym e)

  narrowed-fresh : (call : Option CallSeen) (l : Loc) → fresh_by few call l ≡ narrowed (fresh_by many call l)
  narrowed-fresh None l = refl
  narrowed-fresh (Some call) l = by (is_received call l) where
    by : (c : Bool) → cond c (introduced few (byte_at call l)) [] ≡ narrowed (cond c (introduced many (byte_at call l)) [])
    by true = narrowed-introduced (byte_at call l)
    by false = refl

  module _ (before after : Loc → List SourceByte) (ascends : (l : Loc) → Ascends source_cmp (after l)) (h : (l : Loc) → before l ≡ narrowed (after l)) where
    narrowed-over : (ls : List Loc) → union_over before ls ≡ narrowed (union_over after ls)
    narrowed-over [] = refl
    narrowed-over (l ∷ []) = h l
    narrowed-over (l ∷ m ∷ ls) = ap₂ (union source_cmp) (h l) (narrowed-over (m ∷ ls))
        ∙ sym (filter-union source_total few.introduces (alike_sources few.introduces) (after l) (union_over after (m ∷ ls)) (Ascends-union_over after ascends (m ∷ ls)))

    narrowed-step : (step : Option StepSeen) (l : Loc) → after_step few step before l ≡ narrowed (after_step many step after l)
    narrowed-step None l = h l
    narrowed-step (Some step) l =
        let many_over = union_over after (from many.rule step l) in
        let over : union_over before (from few.rule step l) ≡ narrowed many_over =
        narrowed-over (from few.rule step l) ∙ ap (λ (r : Rule). narrowed (union_over after (from r step l))) (sym rule) in
        ap₂ (union source_cmp) (narrowed-fresh step.call l) over
        ∙ sym (filter-union source_total few.introduces (alike_sources few.introduces) (fresh many step l) many_over (Ascends-union_over after ascends (from many.rule step l)))

  pub narrowed-origins : (trace : List StepSeen) (t : ℕ) (l : Loc) → origins few trace t l ≡ narrowed (origins many trace t l)
  narrowed-origins trace zero l = refl
  narrowed-origins trace (suc t) l =
      narrowed-step (origins few trace t) (origins many trace t) (Ascends-origins many trace t) (narrowed-origins trace t) (step_at trace t) l
