use Rattle.std.proofs.Common.{◌≡◌, List, [], ◌∷◌, Bool, false, sym, subst, rules}
use Rattle.std.specs.List.{IsDistinct}
use Rattle.std.specs.List.Sorted.{IsSortedBy, IsPermutation}
use Rattle.std.specs.Ordering.{eq_by_cmp, is_lt}
use Rattle.std.proofs.lemmas.Bool.{false_from_ne_true}
use Rattle.lists.specs.Sets.{set_of}
use Rattle.lists.proofs.Algebra.{tied_by}
use Rattle.lists.proofs.Lists.{all-weaken}
use Rattle.lists.proofs.Sorting.{sorted-is_set_of}
use Rattle.flow_model.proofs.Orders.{point_same}
use Rattle.flow_model.proofs.Derived.{point_alike, point_compared}
use Rattle.report_model.specs.Rows.{Row, row_cmp}
use Rattle.report_model.proofs.RowLemmas.{row_total}
use Rattle.sink_collect.specs.Distinct.{AreDistinct}
use Rattle.std.proofs.lemmas.List.Sorted.{answers_always, IsPermutation-trans}
use Rattle.sink_collect.proofs.report.sort.Goals as goal

-- rows of different output bytes or points don't tie
no_tie : (r s : Row) → (r.sink ≡ s.sink → ⊥) → eq_by_cmp row_cmp r s ≡ false
no_tie r s n = false_from_ne_true _ (λ e. n (point_same r.sink s.sink (tied_by (row_cmp r s) e)))

distinct : (rs : List Row) → AreDistinct rs → IsDistinct (eq_by_cmp row_cmp) rs
unfolding IsDistinct
distinct [] a = tt
distinct (r ∷ rs) a = (all-weaken _ _ (no_tie r) rs a.0, distinct rs a.1)

-- the same test by the order that is derived for output bytes and points
abbrev is_before : Row → Row → Bool
is_before x y = is_lt (point_compared x.sink y.sink)

same_test : is_before ≡ (λ x y. is_lt (row_cmp x y))
same_test = λ i x y. is_lt (sym (point_alike x.sink y.sink) i)

sorted-is_set_of_rows : (xs ys : List Row) → AreDistinct xs → IsPermutation xs ys → IsSortedBy is_before ys → ys ≡ set_of row_cmp xs
sorted-is_set_of_rows xs ys d p s = sorted-is_set_of row_total xs ys (distinct xs d) p (subst (λ (lt : Row → Row → Bool). IsSortedBy lt ys) same_test s)

pub returns : goal.returns
returns c = λ all distinct arranged.
    let sorted = c.in_ok-sort_by_key.ensures.sorted (λ s. s.sink) (answers_always _ _ _ (λ f a r f' k. search rules)) in
    sorted-is_set_of_rows _ _ distinct (IsPermutation-trans _ _ _ arranged c.in_ok-sort_by_key.ensures.permutation) sorted
