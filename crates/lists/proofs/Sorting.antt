-- A list of which no two members tie, once it is sorted, is its set. Crates above cite these lemmas.
use Rattle.std.proofs.Common.{◌≡◌, ℕ, zero, suc, ◌+◌, ◌<◌, List, [], ◌∷◌, length, get_or, refl, ap, sym, ◌∙◌, subst, arith, inl, inr, ⊎_elim, true, false}
use Rattle.std.specs.Prelude.{◌⊎◌, Contains}
use Rattle.std.specs.List.{AllByRecursion, IsDistinct}
use Rattle.std.specs.List.Sorted.{IsSorted, IsPermutation}
use Rattle.std.specs.Cmp.{IsTotalOrder, IsStrictWeakOrder, tied_itself, tied_back}
use Rattle.std.specs.Ordering.{eq_by_cmp, is_eq, is_lt}
use Rattle.std.specs.declared.cmp.Ordering.{Ordering}
use Rattle.std.specs.declared.cmp.Ordering.TheVariants.{Less, Equal, Greater}
use Rattle.std.proofs.lemmas.List.Sorted.{Contains-permutation, IsPermutation-sym, ranks_by, sorted_far}
use Rattle.std.proofs.lemmas.Map.Keys.{IsDistinct-IsPermutation}
use Rattle.lists.specs.Sets.{inserted, placed, set_of, IsBelow, Ascends}
use Rattle.lists.proofs.Algebra.{Ascends-set_of, All-set_of, greater_turned, less_turned}

-- q is one of the list
abbrev IsIn : {K : Type 0} → K → List K → Type 0
IsIn q [] = ⊥
IsIn q (x ∷ xs) = (x ≡ q) ⊎ IsIn q xs

module _ {K : Type 0} where
  in_at : (q : K) (xs : List K) (k : ℕ) → k < length xs → get_or xs k q ≡ q → IsIn q xs
  in_at q [] k l e = absurd (omega arith)
  in_at q (x ∷ xs) zero l e = inl e
  in_at q (x ∷ xs) (suc k) l e = inr (in_at q xs k (omega arith) e)

  contains_of : (q : K) (xs : List K) → IsIn q xs → Contains xs q
  contains_of q [] h = absurd h
  contains_of q (x ∷ xs) (inl e) = (0, omega arith, e)
  contains_of q (x ∷ xs) (inr h) = let m = contains_of q xs h in (suc m.0, omega (arith, m.1), m.2)

  in_permutation : (q : K) (xs ys : List K) → IsPermutation xs ys → IsIn q xs → IsIn q ys
  in_permutation q xs ys p h = let m = Contains-permutation xs ys q p (contains_of q xs h) in in_at q ys m.0 m.1 m.2

module _ {K : Type 0} {R : K → K → Ordering} (o : IsTotalOrder R) where
  below_each : (x q : K) (ys : List K) → IsBelow R x ys → IsIn q ys → R x q ≡ Less
  below_each x q [] b h = absurd h
  below_each x q (y ∷ ys) b (inl e) = ap (R x) (sym e) ∙ b.0
  below_each x q (y ∷ ys) b (inr h) = below_each x q ys b.1 h

  not_below : (x y : K) → R x y ≡ Less → x ≡ y → ⊥
  not_below x y e same = let tie : R x y ≡ Equal = ap (R x) (sym same) ∙ tied_itself o x in let no : Less ≡ Equal = sym e ∙ tie in cc

  same_first : (x y : K) (xs ys : List K) → IsBelow R x xs → IsBelow R y ys → IsIn x (y ∷ ys) → IsIn y (x ∷ xs) → x ≡ y
  same_first x y xs ys a b (inl e) g = sym e
  same_first x y xs ys a b (inr h) (inl e) = e
  same_first x y xs ys a b (inr h) (inr g) = let p = below_each y x ys b h in let q = less_turned o x y (below_each x y xs a g) in cc

  in_tail : (x q : K) (xs ys : List K) → IsBelow R x xs → IsIn q xs → IsIn q (x ∷ ys) → IsIn q ys
  in_tail x q xs ys a h (inl e) = absurd (not_below x q (below_each x q xs a h) e)
  in_tail x q xs ys a h (inr g) = g

  -- two ascending lists of the same elements are equal
  same_elements : (xs ys : List K) → Ascends R xs → Ascends R ys → ((q : K) → IsIn q xs → IsIn q ys) → ((q : K) → IsIn q ys → IsIn q xs) → xs ≡ ys
  same_elements [] [] a b f g = refl
  same_elements [] (y ∷ ys) a b f g = absurd (g y (inl refl))
  same_elements (x ∷ xs) [] a b f g = absurd (f x (inl refl))
  same_elements (x ∷ xs) (y ∷ ys) a b f g = by (same_elements xs ys a.1 b.1) (same_first x y xs ys a.0 b.0 (f x (inl refl)) (g y (inl refl))) where
    by : (((q : K) → IsIn q xs → IsIn q ys) → ((q : K) → IsIn q ys → IsIn q xs) → xs ≡ ys) → x ≡ y → x ∷ xs ≡ y ∷ ys
    by ih e =
        let b' : IsBelow R x ys = subst (λ (z : K). IsBelow R z ys) (sym e) b.0 in
        let f' : (q : K) → IsIn q xs → IsIn q (x ∷ ys) = λ q h. subst (λ (z : K). IsIn q (z ∷ ys)) (sym e) (f q (inr h)) in
        let g' : (q : K) → IsIn q ys → IsIn q (x ∷ xs) = λ q h. g q (inr h) in
        let rest : xs ≡ ys = ih (λ q h. in_tail x q xs ys a.0 h (f' q h)) (λ q h. in_tail x q ys xs b' h (g' q h)) in
        cc

  -- ---- the set of a list of which no two tie

  abbrev TiesNone : K → List K → Type 0
  TiesNone x ys = AllByRecursion (λ y. eq_by_cmp R x y ≡ false) ys

  in_inserted : (q x : K) (ys : List K) → IsIn q (inserted R x ys) → IsIn q (x ∷ ys)
  in_inserted q x [] h = h
  in_inserted q x (y ∷ ys) h = by (in_inserted q x ys) (R x y) h where
    by : (IsIn q (inserted R x ys) → IsIn q (x ∷ ys)) → (r : Ordering) → IsIn q (placed r x y ys (inserted R x ys)) → IsIn q (x ∷ y ∷ ys)
    by ih Less h = h
    by ih Equal h = inr h
    by ih Greater (inl e) = inr (inl e)
    by ih Greater (inr h) = ⊎_elim (λ e. inl e) (λ g. inr (inr g)) (ih h)

  inserted_has : (q x : K) (ys : List K) → TiesNone x ys → IsIn q (x ∷ ys) → IsIn q (inserted R x ys)
  inserted_has q x [] t h = h
  inserted_has q x (y ∷ ys) t h = by (inserted_has q x ys t.1) (R x y) t.0 h where
    by : (IsIn q (x ∷ ys) → IsIn q (inserted R x ys)) → (r : Ordering) → is_eq r ≡ false → IsIn q (x ∷ y ∷ ys) → IsIn q (placed r x y ys (inserted R x ys))
    by ih Less n h = h
    by ih Equal n h = cc
    by ih Greater n (inl e) = inr (ih (inl e))
    by ih Greater n (inr (inl e)) = inl e
    by ih Greater n (inr (inr h)) = inr (ih (inr h))

  in_set_of : (q : K) (xs : List K) → IsIn q (set_of R xs) → IsIn q xs
  in_set_of q [] h = h
  in_set_of q (x ∷ xs) h = ⊎_elim (λ e. inl e) (λ g. inr (in_set_of q xs g)) (in_inserted q x (set_of R xs) h)

  set_of_has : (q : K) (xs : List K) → IsDistinct (eq_by_cmp R) xs → IsIn q xs → IsIn q (set_of R xs)
  unfolding IsDistinct
  set_of_has q [] d h = h
  set_of_has q (x ∷ xs) d h =
      inserted_has q x (set_of R xs) (All-set_of R (λ y. eq_by_cmp R x y ≡ false) xs d.0) (⊎_elim (λ e. inl e) (λ g. inr (set_of_has q xs d.1 g)) h)

  -- ---- a sorted list of which no two tie ascends

  is_less : (x y : K) → is_lt (R y x) ≡ false → is_eq (R x y) ≡ false → R x y ≡ Less
  is_less x y n m = by (R x y) refl where
    by : (r : Ordering) → R x y ≡ r → r ≡ Less
    by Less e = refl
    by Equal e = let t : is_eq (R x y) ≡ true = ap is_eq e in cc
    by Greater e = let t : is_lt (R y x) ≡ true = ap is_lt (greater_turned o x y e) in cc

  below_from : (x : K) (ys : List K) → ((k : ℕ) (d : K) → k < length ys → is_lt (R (get_or ys k d) x) ≡ false) → TiesNone x ys → IsBelow R x ys
  below_from x [] f t = tt
  below_from x (y ∷ ys) f t = (is_less x y (f 0 y (omega arith)) t.0, below_from x ys (λ k d l. f (suc k) d (omega (arith, l))) t.1)

  order : IsStrictWeakOrder (λ (x y : K). is_lt (R x y))
  order = ranks_by o (λ x. x)

  Ascends-sorted : (xs : List K) → IsSorted R xs → IsDistinct (eq_by_cmp R) xs → Ascends R xs
  unfolding IsDistinct
  Ascends-sorted [] s d = tt
  Ascends-sorted (x ∷ xs) s d = (
    below_from x xs (λ k e l. sorted_far (λ y z. is_lt (R y z)) order (x ∷ xs) s 0 (suc k) e (omega arith) (omega (arith, l))) d.0,
    Ascends-sorted xs (λ k e low l. sorted_far (λ y z. is_lt (R y z)) order (x ∷ xs) s (suc k) (suc (k + 1)) e (omega arith) (omega (arith, l))) d.1,
  )

  flips : (x y : K) → eq_by_cmp R x y ≡ eq_by_cmp R y x
  flips x y = by (R x y) refl where
    by : (r : Ordering) → R x y ≡ r → is_eq (R x y) ≡ is_eq (R y x)
    by Less e = ap is_eq e ∙ sym (ap is_eq (less_turned o x y e))
    by Equal e = ap is_eq e ∙ sym (ap is_eq (tied_back o x y e))
    by Greater e = ap is_eq e ∙ sym (ap is_eq (greater_turned o x y e))

  -- a list of which no two members tie, once sorted, is the set of its members
  pub sorted-is_set_of : (xs ys : List K) → IsDistinct (eq_by_cmp R) xs → IsPermutation xs ys → IsSorted R ys → ys ≡ set_of R xs
  sorted-is_set_of xs ys d p s =
      let back = IsPermutation-sym xs ys p in
      same_elements ys (set_of R xs) (Ascends-sorted ys s (IsDistinct-IsPermutation (eq_by_cmp R) flips xs ys p d)) (Ascends-set_of o xs)
      (λ q h. set_of_has q xs d (in_permutation q ys xs back h)) (λ q h. in_permutation q xs ys p (in_set_of q xs h))
