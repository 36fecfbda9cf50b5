-- Which source bytes are among the origins of a location after a step.
use Rattle.std.proofs.Common.{◌≡◌, ℕ, ◌+◌, List, [], ◌∷◌, Bool, true, false, refl, ap, sym, ◌∙◌, subst, inl, inr, add-one, ⊎_elim}
use Rattle.std.specs.Prelude.{Option, Some, ◌||◌, ◌⊎◌, ◌↔◌, Contains, Any}
use Rattle.std.specs.List.{list_any}
use Rattle.std.proofs.lemmas.List.Folds.{list_any_at, Any-from_list_any}
use Rattle.std.proofs.Math.Bool.{or-false, or-true}
use Rattle.flow_model.specs.declared.Loc.{Loc}
use Rattle.flow_model.specs.declared.SourceByte.{SourceByte}
use Rattle.flow_model.specs.declared.StepSeen.{StepSeen}
use Rattle.lists.specs.Sets.{has}
use Rattle.lists.proofs.Algebra.{has-union, has-Contains, Contains-has}
use Rattle.flow_model.specs.Orders.{source_cmp}
use Rattle.flow_model.specs.Flow.{from}
use Rattle.flow_model.specs.Origins.{Policy, origins, fresh, union_over, after_step}
use Rattle.flow_model.specs.OriginLaws.{OriginsFlowIn, NoneAtStart}
use Rattle.flow_model.proofs.Orders.{source_total, source_same}

-- b is in the set
abbrev pub is_in : SourceByte → List SourceByte → Bool
is_in b xs = has source_cmp b xs

pub has-union_over : (before : Loc → List SourceByte) (ls : List Loc) (b : SourceByte) → is_in b (union_over before ls) ≡ list_any (λ l. is_in b (before l)) ls
has-union_over before [] b = refl
has-union_over before (l ∷ []) b = sym (or-false (is_in b (before l)))
has-union_over before (l ∷ m ∷ ls) b =
    has-union source_total (before l) (union_over before (m ∷ ls)) b ∙ ap (λ (a : Bool). is_in b (before l) || a) (has-union_over before (m ∷ ls) b)

module _ (policy : Policy) (step : StepSeen) (before : Loc → List SourceByte) (l : Loc) (b : SourceByte) where
  -- b is fresh at l, or among what a location of `from` had
  abbrev FlowsIn : Type 0
  FlowsIn = Contains (fresh policy step l) b ⊎ Any (λ m. Contains (before m) b) (from policy.rule step l)

  flows_in : Bool
  flows_in = is_in b (fresh policy step l) || list_any (λ m. is_in b (before m)) (from policy.rule step l)

  has-after_step : is_in b (after_step policy (Some step) before l) ≡ flows_in
  unfolding flows_in
  has-after_step =
      has-union source_total (fresh policy step l) (union_over before (from policy.rule step l)) b
      ∙ ap (λ (a : Bool). is_in b (fresh policy step l) || a) (has-union_over before (from policy.rule step l) b)

  FlowsIn-from : flows_in ≡ true → FlowsIn
  unfolding flows_in
  FlowsIn-from = by (is_in b (fresh policy step l)) refl where
    by : (a : Bool) → is_in b (fresh policy step l) ≡ a → (a || list_any (λ m. is_in b (before m)) (from policy.rule step l)) ≡ true → FlowsIn
    by true e h = inl (Contains-has source_total source_same (fresh policy step l) b e)
    by false e h =
        let some = Any-from_list_any (λ m. is_in b (before m)) (from policy.rule step l) h in
        inr (some.0, some.1, some.2, some.3, Contains-has source_total source_same (before some.1) b some.4)

  flows_in-from : FlowsIn → flows_in ≡ true
  unfolding flows_in
  flows_in-from = ⊎_elim
      (λ c. ap (λ (a : Bool). a || list_any (λ m. is_in b (before m)) (from policy.rule step l)) (has-Contains source_total (fresh policy step l) b c))
      (λ some. ap (λ (a : Bool). is_in b (fresh policy step l) || a) (list_any_at (λ m. is_in b (before m)) (from policy.rule step l) some.0 some.1 some.2 (ap (λ (m : Loc). is_in b (before m)) some.3 ∙ has-Contains source_total (before some.1) b some.4))
      ∙ or-true (is_in b (fresh policy step l)))

  pub contains-after_step : Contains (after_step policy (Some step) before l) b ↔ FlowsIn
  contains-after_step = (
    λ c. FlowsIn-from (sym has-after_step ∙ has-Contains source_total (after_step policy (Some step) before l) b c),
    λ f. Contains-has source_total source_same (after_step policy (Some step) before l) b (has-after_step ∙ flows_in-from f),
  )

pub origins_flow_in : OriginsFlowIn
origins_flow_in policy trace t l b step s =
    let same : origins policy trace (t + 1) l ≡ after_step policy (Some step) (origins policy trace t) l =
    ap (λ (m : ℕ). origins policy trace m l) (add-one t) ∙ ap (λ (o : Option StepSeen). after_step policy o (origins policy trace t) l) s in
    subst (λ (xs : List SourceByte). Contains xs b ↔ (Contains (fresh policy step l) b ⊎ Any (λ m. Contains (origins policy trace t m) b) (from policy.rule step l))) (sym same)
    (contains-after_step policy step (origins policy trace t) l b)

pub none_at_start : NoneAtStart
none_at_start policy trace l = refl
