-- What is left of two sets from a place on: the first member of their union, and whether one is within the other.
-- Crates above cite these lemmas.
use Rattle.std.proofs.Common.{◌≡◌, ℕ, ◌+◌, ◌<◌, ◌≤◌, List, [], ◌∷◌, ◌++◌, length, get_or, drop, refl, ap, ap₂, sym, ◌∙◌, subst, arith, append_assoc, append-nil, ⊎_elim, nat_eq, Bool, true, false}
use Rattle.std.specs.Prelude.{◌||◌, ◌&&◌, Result, Ok, Err, is_ok}
use Rattle.std.specs.List.Sorted.{IsBinarySearchResult, IsNonDecreasingBy, IsSearchInRange}
use Rattle.std.specs.Cmp.{IsTotalOrder, alike_right, tied_back}
use Rattle.std.specs.Ordering.{eq_by_cmp, is_eq, ordering_index}
use Rattle.std.specs.declared.cmp.Ordering.{Ordering}
use Rattle.std.specs.declared.cmp.Ordering.TheVariants.{Less, Equal, Greater}
use Rattle.std.proofs.lemmas.Bool.{cases_lt}
use Rattle.std.proofs.lemmas.Bool.Decides.{nat_tests}
use Rattle.std.proofs.lemmas.List.{drop_all, drop_more, get_or_default}
use Rattle.std.proofs.lemmas.List.Folds.{list_any_at, Any-from_list_any}
use Rattle.lists.specs.Sets.{union, has, is_within, IsBelow, Ascends}
use Rattle.lists.proofs.Algebra.{Ascends-drop, less_first, greater_first, tie_first, union-nil, none_below, below_chain, IsBelow-tied, less_turned, greater_turned, Ascends-at, tied_by}

-- one more member of a list that makes a whole with what is left
more : {K : Type 0} (all : List K) (x : K) (left rest whole : List K) → left ≡ x ∷ rest → all ++ left ≡ whole → (all ++ x ∷ []) ++ rest ≡ whole
more all x left rest whole e h = append_assoc all (x ∷ []) rest ∙ ap (λ (zs : List _). all ++ zs) (sym e) ∙ h

module _ {K : Type 0} {R : K → K → Ordering} (o : IsTotalOrder R) where
  -- where y is below each of the first list, it makes no difference to whether that is within a set
  within_above : (y : K) (zs ys : List K) → IsBelow R y zs → is_within R zs (y ∷ ys) ≡ is_within R zs ys
  within_above y [] ys b = refl
  within_above y (z ∷ zs) ys b = ap₂ (λ (r : Ordering) (q : Bool). (is_eq r || has R z ys) && q) (less_turned o y z b.0) (within_above y zs ys b.1)

  -- x is the member at i of one set, and y that at j of another
  module _ (xs ys : List K) (i j : ℕ) (x y : K) (a : Ascends R xs) (b : Ascends R ys) (h : i < length xs) (k : j < length ys)
      (at_i : x ≡ get_or xs i x) (at_j : y ≡ get_or ys j y) where
    left_is : drop i xs ≡ x ∷ drop (i + 1) xs
    left_is = drop_more xs i x h ∙ ap (λ (z : K). z ∷ drop (i + 1) xs) (sym at_i)

    right_is : drop j ys ≡ y ∷ drop (j + 1) ys
    right_is = drop_more ys j y k ∙ ap (λ (z : K). z ∷ drop (j + 1) ys) (sym at_j)

    left_ascends : Ascends R (x ∷ drop (i + 1) xs)
    left_ascends = subst (Ascends R) left_is (Ascends-drop o i xs a)

    right_ascends : Ascends R (y ∷ drop (j + 1) ys)
    right_ascends = subst (Ascends R) right_is (Ascends-drop o j ys b)

    -- the members so far and the union of what is left make the whole, also with one more of them
    module _ (all whole : List K) (m : all ++ union R (drop i xs) (drop j ys) ≡ whole) where
      more_of_left : R x y ≡ Less → (all ++ x ∷ []) ++ union R (drop (i + 1) xs) (drop j ys) ≡ whole
      more_of_left e = more all x _ _ whole
          (ap₂ (union R) left_is right_is ∙ less_first o x y _ _ e left_ascends right_ascends ∙ ap (λ (zs : List K). x ∷ union R (drop (i + 1) xs) zs) (sym right_is)) m

      more_of_right : R x y ≡ Greater → (all ++ y ∷ []) ++ union R (drop i xs) (drop (j + 1) ys) ≡ whole
      more_of_right e = more all y _ _ whole
          (ap₂ (union R) left_is right_is ∙ greater_first o x y _ _ e left_ascends ∙ ap (λ (zs : List K). y ∷ union R zs (drop (j + 1) ys)) (sym left_is)) m

      more_of_both : R x y ≡ Equal → (all ++ y ∷ []) ++ union R (drop (i + 1) xs) (drop (j + 1) ys) ≡ whole
      more_of_both e = more all y _ _ whole (ap₂ (union R) left_is right_is ∙ tie_first o x y _ _ e left_ascends) m

      -- the member that is pushed is read once more than where it is compared
      pushed : (zs : List K) (n : ℕ) (z w : K) → n < length zs → z ≡ get_or zs n z → w ≡ get_or zs n w → (new rest : List K) → new ≡ all ++ z ∷ [] → (all ++ w ∷ []) ++ rest ≡ whole → new ++ rest ≡ whole
      pushed zs n z w l p q new rest e g = ap (λ (us : List K). us ++ rest) (e ∙ ap (λ (u : K). all ++ u ∷ []) (p ∙ get_or_default zs n z w l ∙ sym q)) ∙ g

      pub left_pushed : (z : K) (new : List K) → z ≡ get_or xs i z → new ≡ all ++ z ∷ [] → Less ≡ R x y → new ++ union R (drop (i + 1) xs) (drop j ys) ≡ whole
      left_pushed z new p e r = pushed xs i z x h p at_i new _ e (more_of_left (sym r))

      pub right_pushed : (z : K) (new : List K) → z ≡ get_or ys j z → new ≡ all ++ z ∷ [] → Greater ≡ R x y → new ++ union R (drop i xs) (drop (j + 1) ys) ≡ whole
      right_pushed z new p e r = pushed ys j z y k p at_j new _ e (more_of_right (sym r))

      pub both_pushed : (z : K) (new : List K) → z ≡ get_or ys j z → new ≡ all ++ z ∷ [] → Equal ≡ R x y → new ++ union R (drop (i + 1) xs) (drop (j + 1) ys) ≡ whole
      both_pushed z new p e r = pushed ys j z y k p at_j new _ e (more_of_both (sym r))

    -- what is left of one set is within what is left of the other, by how their first members compare
    pub not_within : R x y ≡ Less → is_within R (drop i xs) (drop j ys) ≡ false
    not_within e = ap₂ (is_within R) left_is right_is
        ∙ ap (λ (q : Bool). q && is_within R (drop (i + 1) xs) (y ∷ drop (j + 1) ys)) (none_below o x (y ∷ drop (j + 1) ys) (e, below_chain o x y _ e right_ascends.0))

    pub within_after : R x y ≡ Greater → is_within R (drop i xs) (drop j ys) ≡ is_within R (drop i xs) (drop (j + 1) ys)
    within_after e = let f = greater_turned o x y e in
        ap₂ (is_within R) left_is right_is ∙ within_above y (x ∷ drop (i + 1) xs) (drop (j + 1) ys) (f, below_chain o y x _ f left_ascends.0)
        ∙ ap (λ (zs : List K). is_within R zs (drop (j + 1) ys)) (sym left_is)

    pub within_both : R x y ≡ Equal → is_within R (drop i xs) (drop j ys) ≡ is_within R (drop (i + 1) xs) (drop (j + 1) ys)
    within_both e = ap₂ (is_within R) left_is right_is
        ∙ ap₂ (λ (r : Ordering) (q : Bool). (is_eq r || has R x (drop (j + 1) ys)) && q) e
        (within_above y (drop (i + 1) xs) (drop (j + 1) ys) (IsBelow-tied o x y _ e left_ascends.0))

  -- where one of two sets has nothing left, what is left of the other is the rest of the union
  module _ (all xs ys whole : List K) (i j : ℕ) (m : all ++ union R (drop i xs) (drop j ys) ≡ whole) where
    pub rest_of_right : length xs ≤ i → (all ++ drop i xs) ++ drop j ys ≡ whole
    rest_of_right h = ap (λ (zs : List K). (all ++ zs) ++ drop j ys) (drop_all i xs h) ∙ ap (λ (zs : List K). zs ++ drop j ys) (append-nil all)
        ∙ ap (λ (zs : List K). all ++ union R zs (drop j ys)) (sym (drop_all i xs h)) ∙ m

    pub rest_of_left : Ascends R xs → length ys ≤ j → (all ++ drop i xs) ++ drop j ys ≡ whole
    rest_of_left a h = ap (λ (zs : List K). (all ++ drop i xs) ++ zs) (drop_all j ys h) ∙ append-nil (all ++ drop i xs)
        ∙ ap (λ (zs : List K). all ++ zs) (sym (union-nil o (drop i xs) (Ascends-drop o i xs a)))
        ∙ ap (λ (zs : List K). all ++ union R (drop i xs) zs) (sym (drop_all j ys h)) ∙ m

  -- nothing left is within any set, and no more than that is within a set with nothing left
  nothing_within : (xs ys : List K) (i : ℕ) → length xs ≤ i → is_within R (drop i xs) ys ≡ true
  nothing_within xs ys i h = ap (λ (zs : List K). is_within R zs ys) (drop_all i xs h)

  within_nothing : (xs ys : List K) (i j : ℕ) (x : K) → i < length xs → length ys ≤ j → is_within R (drop i xs) (drop j ys) ≡ false
  within_nothing xs ys i j x h k = ap₂ (is_within R) (drop_more xs i x h) (drop_all j ys k)

  pub all_found : (xs ys : List K) (i j : ℕ) → i ≤ length xs → length ys ≤ j → nat_eq i (length xs) ≡ is_within R (drop i xs) (drop j ys)
  all_found [] ys i j h k = (let e : nat_eq i 0 ≡ true = grind (arith, nat_tests) in e) ∙ sym (nothing_within [] (drop j ys) i (omega arith))
  all_found (x ∷ xs) ys i j h k = by (nat_eq i (length (x ∷ xs))) refl where
    by : (b : Bool) → nat_eq i (length (x ∷ xs)) ≡ b → b ≡ is_within R (drop i (x ∷ xs)) (drop j ys)
    by true e = let l : length (x ∷ xs) ≤ i = grind (arith, nat_tests) in sym (nothing_within (x ∷ xs) (drop j ys) i l)
    by false e = let l : i < length (x ∷ xs) = grind (arith, nat_tests) in sym (within_nothing (x ∷ xs) ys i j x l k)

  -- ---- what a binary search answers

  at_most_two : (r : Ordering) → ordering_index r ≤ 2
  at_most_two Less = omega arith
  at_most_two Equal = omega arith
  at_most_two Greater = omega arith

  rises : (x y q : K) → R x y ≡ Less → ordering_index (R x q) ≤ ordering_index (R y q)
  rises x y q e = by (R y q) refl where
    none : R x q ≡ Less → (n : ℕ) → ordering_index (R x q) ≤ n
    none f n = let zero_is : ordering_index (R x q) ≡ 0 = ap ordering_index f in omega arith

    by : (r : Ordering) → R y q ≡ r → ordering_index (R x q) ≤ ordering_index (R y q)
    by Less f = none (o.trans x y q e f) _
    by Equal f = none (sym (alike_right o y q x f) ∙ e) _
    by Greater f = let two_is : ordering_index (R y q) ≡ 2 = ap ordering_index f in omega (arith, at_most_two (R x q))

  -- against a member or any other key, a set's members rise
  pub rising : (xs : List K) (q : K) → Ascends R xs → IsNonDecreasingBy (λ y. ordering_index (R y q)) xs
  rising xs q a m n d le w =
      ⊎_elim (λ less. rises _ _ q (Ascends-at o xs m n d a less w))
      (λ equal. let same : n ≡ m = omega arith in subst (λ (p : ℕ). ordering_index (R (get_or xs m d) q) ≤ ordering_index (R (get_or xs p d) q)) (sym same) (omega arith))
      (cases_lt m n)

  pub searched : (xs : List K) (q : K) → Ascends R xs → (r : Result ℕ ℕ) → IsSearchInRange r (length xs) → IsBinarySearchResult (λ y. R y q) xs r → is_ok r ≡ has R q xs
  searched xs q a (Ok i) l h = sym (list_any_at (eq_by_cmp R q) xs i q l (ap is_eq (tied_back o _ q (h q))))
  searched xs q a (Err i) l h = by (has R q xs) refl where
    by : (b : Bool) → has R q xs ≡ b → false ≡ b
    by false e = refl
    by true e =
        let found = Any-from_list_any (eq_by_cmp R q) xs e in
        let y = found.1 in
        let parted = h (rising xs q a) in
        let ties : R (get_or xs found.0 y) q ≡ Equal = ap (λ (z : K). R z q) found.3 ∙ tied_back o q y (tied_by (R q y) found.4) in
        ⊎_elim (λ less. let before = parted.0 found.0 y (omega arith) less in cc) (λ more. let after = parted.1 found.0 y more found.2 in cc) (cases_lt found.0 i)
