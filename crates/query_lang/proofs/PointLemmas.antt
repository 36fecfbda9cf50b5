-- Points of a line, added one by one, and points put in order.
use Rattle.std.proofs.Common.{◌≡◌, ℕ, ◌+◌, ◌-◌, ◌≤◌, List, [], ◌∷◌, ◌++◌, refl, ap, sym, ◌∙◌, arith, Bool, subst}
use Rattle.std.specs.Prelude.{map}
use Rattle.std.specs.Cmp.{IsTotalOrder, both_ways}
use Rattle.std.specs.FinMap.{IsAntisymmetric}
use Rattle.std.specs.List.{AllByRecursion, range_with_len, dedup}
use Rattle.std.specs.List.Sorted.{IsSorted, IsPermutation, IsStrictlySortedBy}
use Rattle.std.specs.Ordering.{eq_by_cmp}
use Rattle.std.specs.declared.cmp.Ordering.{Ordering}
use Rattle.std.specs.declared.cmp.Ordering.TheVariants.{Less}
use Rattle.std.proofs.lemmas.Cmp.{eq_by_cmp_equiv}
use Rattle.std.proofs.lemmas.List.{append_assoc}
use Rattle.std.proofs.lemmas.List.FromFn.{map-range_with_len_more}
use Rattle.std.proofs.lemmas.List.Kept.{IsStrictlySortedBy-dedup, Contains-dedup, Contains-from_dedup}
use Rattle.std.proofs.lemmas.List.Sorted.{list_any-IsPermutation}
use Rattle.std.proofs.lemmas.Map.Views.{tells_apart}
use Rattle.lists.specs.Sets.{set_of, has, IsBelow, Ascends}
use Rattle.lists.proofs.Algebra.{same_list, has-set_of, Ascends-set_of, has-Contains, Contains-has}
use Rattle.flow_model.specs.declared.InnerSink.{InnerSink}
use Rattle.flow_model.specs.declared.Loc.TheVariants.{Mem}
use Rattle.report_model.specs.Grammar.{byte_point, points_of_memory}

-- ---- one more point of a line

-- one more of the values of f, after those so far
pub one_more : (f : ℕ → InnerSink) (old before new : List InnerSink) (n : ℕ) → before ≡ old ++ map f (range_with_len 0 n) → new ≡ before ++ f n ∷ []
    → new ≡ old ++ map f (range_with_len 0 (n + 1))
one_more f old before new n so_far pushed =
    rw (pushed, so_far, map-range_with_len_more f 0 n n (omega arith)) (append_assoc old (map f (range_with_len 0 n)) (f n ∷ []))

pub one_more_byte : (old before new : List InnerSink) (first place past time : ℕ) → first ≤ place → past ≡ place + 1 → before ≡ old ++ points_of_memory first (place - first) time
    → new ≡ before ++ (record { time = time; loc = Mem place }) ∷ [] → new ≡ old ++ points_of_memory first (past - first) time
one_more_byte old before new first place past time from end so_far pushed =
    let here : first + (place - first) ≡ place = omega arith in
    let count : (place - first) + 1 ≡ past - first = omega arith in
    let pushed_here : new ≡ before ++ byte_point first time (place - first) ∷ [] =
    pushed ∙ ap (λ (p : ℕ). before ++ (record { time = time; loc = Mem p }) ∷ []) (sym here) in
    subst (λ (n : ℕ). new ≡ old ++ points_of_memory first n time) count (one_more (byte_point first time) old before new (place - first) so_far pushed_here)

-- ---- points in order, each once

module _ {K : Type 0} {R : K → K → Ordering} (o : IsTotalOrder R) (same : IsAntisymmetric R) {E : K → K → Bool} (ties : (x y : K) → E x y ≡ eq_by_cmp R x y) where
  below_from : (x : K) (ys : List K) → AllByRecursion (λ y. R x y ≡ Less) ys → IsBelow R x ys
  below_from x [] h = tt
  below_from x (y ∷ ys) h = (h.0, below_from x ys h.1)

  ascends_from : (xs : List K) → IsStrictlySortedBy R xs → Ascends R xs
  unfolding IsStrictlySortedBy
  ascends_from [] h = tt
  ascends_from (x ∷ xs) h = (below_from x xs h.0, ascends_from xs h.1)

  tied_by : E ≡ eq_by_cmp R
  tied_by = λ i x y. ties x y i

  -- what is kept of equal neighbours has the same members
  has-dedup : (xs : List K) (q : K) → has R q (dedup (eq_by_cmp R) xs) ≡ has R q xs
  has-dedup xs q = both_ways _ _
      (λ h. has-Contains o xs q (Contains-from_dedup (eq_by_cmp R) xs q (Contains-has o same (dedup (eq_by_cmp R) xs) q h)))
      (λ h. has-Contains o (dedup (eq_by_cmp R) xs) q (Contains-dedup (eq_by_cmp_equiv o) (tells_apart same) xs q (Contains-has o same xs q h)))

  -- a list that is sorted, and of whose equal neighbours one is kept, is its set
  pub sorted_each_once : (xs ys zs : List K) → IsPermutation xs ys → IsSorted R ys → zs ≡ dedup E ys → zs ≡ set_of R xs
  sorted_each_once xs ys zs moved sorted kept =
      kept ∙ ap (λ (F : K → K → Bool). dedup F ys) tied_by
      ∙ same_list o same (dedup (eq_by_cmp R) ys) (set_of R xs)
      (ascends_from _ (IsStrictlySortedBy-dedup o (λ x y. refl) ys sorted)) (Ascends-set_of o xs)
      (λ q. has-dedup ys q ∙ sym (list_any-IsPermutation (eq_by_cmp R q) xs ys moved) ∙ sym (has-set_of o xs q))
