-- What is gathered, as some of it is merged and the rest waits.
use Rattle.std.proofs.Common.{◌≡◌, List, [], ◌++◌, refl, ap, sym, subst, ◌∙◌, Bool, true, false, ◌||◌}
use Rattle.std.specs.Ordering.{eq_by_cmp}
use Rattle.std.proofs.lemmas.List.Folds.{list_any-append}
use Rattle.std.proofs.Math.Bool.{or_assoc}
use Rattle.flow_model.specs.declared.SourceByte.{SourceByte}
use Rattle.flow_model.specs.Orders.{source_cmp}
use Rattle.flow_model.proofs.Orders.{source_total}
use Rattle.lists.specs.Sets.{Ascends, has, union, is_within}
use Rattle.lists.proofs.Algebra.{Ascends-union, has-union, union-within}
use Rattle.answer_sets.proofs.Members.{compared, order_is, members_by}

or_swapped : (a b c : Bool) → ((a || b) || c) ≡ ((a || c) || b)
or_swapped false true true = refl
or_swapped false false true = refl
or_swapped a b c = refl

or_turned : (a b c : Bool) → ((a || b) || c) ≡ ((b || c) || a)
or_turned true false true = refl
or_turned false false true = refl
or_turned a b c = refl

pub has-both : (xs ys : List SourceByte) (b : SourceByte) → has source_cmp b (xs ++ ys) ≡ (has source_cmp b xs || has source_cmp b ys)
has-both xs ys b = list_any-append (eq_by_cmp source_cmp b) xs ys

-- a set that the code merged
module _ (merged set new : List SourceByte) (is : new ≡ union compared merged set) where
  union_is : new ≡ union source_cmp merged set
  union_is = is ∙ ap (λ R. union R merged set) order_is

  pub merged_ascends : Ascends source_cmp set → Ascends source_cmp new
  merged_ascends a = subst (Ascends source_cmp) (sym union_is) (Ascends-union source_total merged set a)

  pub merged_has : (b : SourceByte) → has source_cmp b new ≡ (has source_cmp b merged || has source_cmp b set)
  merged_has b = ap (has source_cmp b) union_is ∙ has-union source_total merged set b

  -- what waits stays
  pub merged_more : (waiting : List SourceByte) (b : SourceByte) → has source_cmp b (new ++ waiting) ≡ (has source_cmp b (merged ++ waiting) || has source_cmp b set)
  merged_more waiting b =
      has-both new waiting b
      ∙ ap (λ (c : Bool). c || has source_cmp b waiting) (merged_has b)
      ∙ or_swapped (has source_cmp b merged) (has source_cmp b set) (has source_cmp b waiting)
      ∙ ap (λ (c : Bool). c || has source_cmp b set) (sym (has-both merged waiting b))

-- a set that is within what was merged adds nothing
pub within_more : (set merged waiting : List SourceByte) → Ascends source_cmp merged → is_within compared set merged ≡ true → (b : SourceByte)
    → has source_cmp b (merged ++ waiting) ≡ (has source_cmp b (merged ++ waiting) || has source_cmp b set)
within_more set merged waiting a within b =
    let same : union source_cmp set merged ≡ merged = union-within source_total set merged a (ap (λ R. is_within R set merged) (sym order_is) ∙ within) in
    has-both merged waiting b
    ∙ ap (λ (c : Bool). c || has source_cmp b waiting) (ap (has source_cmp b) (sym same) ∙ has-union source_total set merged b)
    ∙ or_turned (has source_cmp b set) (has source_cmp b merged) (has source_cmp b waiting)
    ∙ ap (λ (c : Bool). c || has source_cmp b set) (sym (has-both merged waiting b))

-- more source bytes wait
pub waiting_more : (merged waiting bytes : List SourceByte) (b : SourceByte)
    → has source_cmp b (merged ++ (waiting ++ bytes)) ≡ (has source_cmp b (merged ++ waiting) || has source_cmp b bytes)
waiting_more merged waiting bytes b =
    has-both merged (waiting ++ bytes) b
    ∙ ap (λ (c : Bool). has source_cmp b merged || c) (has-both waiting bytes b)
    ∙ sym (or_assoc (has source_cmp b merged) (has source_cmp b waiting) (has source_cmp b bytes))
    ∙ ap (λ (c : Bool). c || has source_cmp b bytes) (sym (has-both merged waiting b))

-- nothing waits any more
pub none_waits : (merged none waiting set : List SourceByte) → none ≡ [] → ((b : SourceByte) → has compared b set ≡ has compared b waiting) → (b : SourceByte)
    → (has source_cmp b (merged ++ none) || has source_cmp b set) ≡ has source_cmp b (merged ++ waiting)
none_waits merged none waiting set empty members b =
    ap (λ (c : Bool). c || has source_cmp b set) (has-both merged none b ∙ ap (λ (xs : List SourceByte). has source_cmp b merged || has source_cmp b xs) empty)
    ∙ nothing_more (has source_cmp b merged) (has source_cmp b set)
    ∙ ap (λ (c : Bool). has source_cmp b merged || c) (members_by set waiting members b)
    ∙ sym (has-both merged waiting b)
  where
    nothing_more : (c d : Bool) → ((c || false) || d) ≡ (c || d)
    nothing_more true d = refl
    nothing_more false d = refl
