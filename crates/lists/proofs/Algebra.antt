-- The algebra of sets that are ascending lists without repeats. Crates above cite these lemmas.
use Rattle.std.proofs.Common.{◌≡◌, ℕ, zero, suc, ◌<◌, length, get_or, drop, arith, List, [], ◌∷◌, ◌++◌, refl, ap, sym, ◌∙◌, subst, Bool, true, false}
use Rattle.std.specs.Prelude.{◌||◌, ◌&&◌, Contains}
use Rattle.std.specs.List.{AllByRecursion}
use Rattle.std.specs.Cmp.{IsTotalOrder, alike_right, tied_itself}
use Rattle.std.specs.Ordering.{eq_by_cmp, ordering_reverse, is_eq}
use Rattle.std.specs.FinMap.{IsAntisymmetric}
use Rattle.std.specs.declared.cmp.Ordering.{Ordering}
use Rattle.std.specs.declared.cmp.Ordering.TheVariants.{Less, Equal, Greater}
use Rattle.std.proofs.Math.Bool.{or_assoc, or_self_left}
use Rattle.std.proofs.lemmas.List.Folds.{list_any_at}
use Rattle.std.proofs.lemmas.Map.Views.{Contains-from_any}
use Rattle.lists.proofs.Tests.{true-false, or-swapped}
use Rattle.lists.specs.Sets.{union, inserted, placed, set_of, has, is_within, IsBelow, Ascends}

pub tied_by : (r : Ordering) → is_eq r ≡ true → r ≡ Equal
tied_by Less e = true-false (sym e)
tied_by Equal e = refl
tied_by Greater e = true-false (sym e)

module _ {K : Type 0} {R : K → K → Ordering} (o : IsTotalOrder R) where
  pub has-inserted : (x : K) (ys : List K) (q : K) → has R q (inserted R x ys) ≡ (eq_by_cmp R q x || has R q ys)
  has-inserted x [] q = refl
  has-inserted x (y ∷ ys) q = by (has-inserted x ys q) (R x y) refl where
    by : has R q (inserted R x ys) ≡ (eq_by_cmp R q x || has R q ys) → (r : Ordering) → R x y ≡ r → has R q (placed r x y ys (inserted R x ys)) ≡ (eq_by_cmp R q x || has R q (y ∷ ys))
    by ih Less e = refl
    by ih Equal e = sym (or_self_left (eq_by_cmp R q y) _) ∙ ap (λ (b : Bool). b || (eq_by_cmp R q y || has R q ys)) (sym (ap (is_eq) (alike_right o x y q e)))
    by ih Greater e = ap (λ (b : Bool). eq_by_cmp R q y || b) ih ∙ or-swapped (eq_by_cmp R q y) (eq_by_cmp R q x) (has R q ys)

  pub has-union : (xs ys : List K) (q : K) → has R q (union R xs ys) ≡ (has R q xs || has R q ys)
  has-union [] ys q = refl
  has-union (x ∷ xs) ys q = has-inserted x (union R xs ys) q ∙ ap (λ (b : Bool). eq_by_cmp R q x || b) (has-union xs ys q) ∙ sym (or_assoc (eq_by_cmp R q x) (has R q xs) (has R q ys))

  pub IsBelow-inserted : (x z : K) (ys : List K) → R x z ≡ Less → IsBelow R x ys → IsBelow R x (inserted R z ys)
  IsBelow-inserted x z [] e b = (e, tt)
  IsBelow-inserted x z (y ∷ ys) e b = by (IsBelow-inserted x z ys e b.1) (R z y) where
    by : IsBelow R x (inserted R z ys) → (r : Ordering) → IsBelow R x (placed r z y ys (inserted R z ys))
    by ih Less = (e, b)
    by ih Equal = b
    by ih Greater = (b.0, ih)

  pub IsBelow-append : (x : K) (xs ys : List K) → IsBelow R x xs → IsBelow R x ys → IsBelow R x (xs ++ ys)
  IsBelow-append x [] ys h k = k
  IsBelow-append x (y ∷ xs) ys h k = (h.0, IsBelow-append x xs ys h.1 k)

  pub below_chain : (x y : K) (ys : List K) → R x y ≡ Less → IsBelow R y ys → IsBelow R x ys
  below_chain x y [] e b = tt
  below_chain x y (z ∷ zs) e b = (o.trans x y z e b.0, below_chain x y zs e b.1)

  pub greater_turned : (x y : K) → R x y ≡ Greater → R y x ≡ Less
  greater_turned x y e = o.antisymm y x ∙ ap ordering_reverse e

  pub less_turned : (x y : K) → R x y ≡ Less → R y x ≡ Greater
  less_turned x y e = o.antisymm y x ∙ ap ordering_reverse e

  pub Ascends-inserted : (x : K) (ys : List K) → Ascends R ys → Ascends R (inserted R x ys)
  Ascends-inserted x [] a = (tt, tt)
  Ascends-inserted x (y ∷ ys) a = by (Ascends-inserted x ys a.1) (R x y) refl where
    by : Ascends R (inserted R x ys) → (r : Ordering) → R x y ≡ r → Ascends R (placed r x y ys (inserted R x ys))
    by ih Less e = ((e, below_chain x y ys e a.0), a)
    by ih Equal e = a
    by ih Greater e = (IsBelow-inserted y x ys (greater_turned x y e) a.0, ih)

  pub Ascends-union : (xs ys : List K) → Ascends R ys → Ascends R (union R xs ys)
  Ascends-union [] ys a = a
  Ascends-union (x ∷ xs) ys a = Ascends-inserted x (union R xs ys) (Ascends-union xs ys a)

  pub IsBelow-union : (x : K) (xs ys : List K) → IsBelow R x xs → IsBelow R x ys → IsBelow R x (union R xs ys)
  IsBelow-union x [] ys a b = b
  IsBelow-union x (z ∷ zs) ys a b = IsBelow-inserted x z (union R zs ys) a.0 (IsBelow-union x zs ys a.1 b)

  -- what ties with x is below whatever x is below
  pub IsBelow-tied : (x y : K) (zs : List K) → R x y ≡ Equal → IsBelow R x zs → IsBelow R y zs
  IsBelow-tied x y [] e b = tt
  IsBelow-tied x y (z ∷ zs) e b = (sym (o.congr x y z e) ∙ b.0, IsBelow-tied x y zs e b.1)

  pub inserted_below : (x : K) (ys : List K) → IsBelow R x ys → inserted R x ys ≡ x ∷ ys
  inserted_below x [] b = refl
  inserted_below x (y ∷ ys) b = ap (λ (r : Ordering). placed r x y ys (inserted R x ys)) b.0

  pub union-nil : (xs : List K) → Ascends R xs → union R xs [] ≡ xs
  union-nil [] a = refl
  union-nil (x ∷ xs) a = ap (inserted R x) (union-nil xs a.1) ∙ inserted_below x xs a.0

  -- how a union begins, as the first members of both sets compare
  first_of_right : (y : K) (xs ys : List K) → IsBelow R y xs → union R xs (y ∷ ys) ≡ y ∷ union R xs ys
  first_of_right y [] ys b = refl
  first_of_right y (x ∷ xs) ys b =
      ap (inserted R x) (first_of_right y xs ys b.1) ∙ ap (λ (r : Ordering). placed r x y (union R xs ys) (inserted R x (union R xs ys))) (less_turned y x b.0)

  pub less_first : (x y : K) (xs ys : List K) → R x y ≡ Less → Ascends R (x ∷ xs) → Ascends R (y ∷ ys) → union R (x ∷ xs) (y ∷ ys) ≡ x ∷ union R xs (y ∷ ys)
  less_first x y xs ys e a b = inserted_below x (union R xs (y ∷ ys)) (IsBelow-union x xs (y ∷ ys) a.0 (e, below_chain x y ys e b.0))

  pub greater_first : (x y : K) (xs ys : List K) → R x y ≡ Greater → Ascends R (x ∷ xs) → union R (x ∷ xs) (y ∷ ys) ≡ y ∷ union R (x ∷ xs) ys
  greater_first x y xs ys e a = first_of_right y (x ∷ xs) ys (greater_turned x y e, below_chain y x xs (greater_turned x y e) a.0)

  pub tie_first : (x y : K) (xs ys : List K) → R x y ≡ Equal → Ascends R (x ∷ xs) → union R (x ∷ xs) (y ∷ ys) ≡ y ∷ union R xs ys
  tie_first x y xs ys e a =
      ap (inserted R x) (first_of_right y xs ys (IsBelow-tied x y xs e a.0)) ∙ ap (λ (r : Ordering). placed r x y (union R xs ys) (inserted R x (union R xs ys))) e

  pub Ascends-set_of : (xs : List K) → Ascends R (set_of R xs)
  Ascends-set_of [] = tt
  Ascends-set_of (x ∷ xs) = Ascends-inserted x (set_of R xs) (Ascends-set_of xs)

  pub has-set_of : (xs : List K) (q : K) → has R q (set_of R xs) ≡ has R q xs
  has-set_of [] q = refl
  has-set_of (x ∷ xs) q = has-inserted x (set_of R xs) q ∙ ap (λ (b : Bool). eq_by_cmp R q x || b) (has-set_of xs q)

  pub none_below : (x : K) (ys : List K) → IsBelow R x ys → has R x ys ≡ false
  none_below x [] b = refl
  none_below x (y ∷ ys) b = ap (λ (r : Ordering). is_eq r || has R x ys) b.0 ∙ none_below x ys b.1

  first_has : (x : K) (xs : List K) → has R x (x ∷ xs) ≡ true
  first_has x xs = ap (λ (r : Ordering). is_eq r || has R x xs) (tied_itself o x)

  pub Ascends-drop : (n : ℕ) (xs : List K) → Ascends R xs → Ascends R (drop n xs)
  Ascends-drop zero xs a = a
  Ascends-drop (suc n) [] a = a
  Ascends-drop (suc n) (x ∷ xs) a = Ascends-drop n xs a.1

  at_below : (x : K) (ys : List K) (i : ℕ) (d : K) → IsBelow R x ys → i < length ys → R x (get_or ys i d) ≡ Less
  at_below x [] i d b h = absurd (omega arith)
  at_below x (y ∷ ys) zero d b h = b.0
  at_below x (y ∷ ys) (suc i) d b h = at_below x ys i d b.1 (omega arith)

  -- each member is below each later one
  pub Ascends-at : (xs : List K) (i j : ℕ) (d : K) → Ascends R xs → i < j → j < length xs → R (get_or xs i d) (get_or xs j d) ≡ Less
  Ascends-at [] i j d a less h = absurd (omega arith)
  Ascends-at (x ∷ xs) zero zero d a less h = absurd (omega arith)
  Ascends-at (x ∷ xs) zero (suc j) d a less h = at_below x xs j d a.0 (omega arith)
  Ascends-at (x ∷ xs) (suc i) zero d a less h = absurd (omega arith)
  Ascends-at (x ∷ xs) (suc i) (suc j) d a less h = Ascends-at xs i j d a.1 (omega arith) (omega arith)

  -- a member inserted again changes nothing
  pub inserted_member : (x : K) (ys : List K) → Ascends R ys → has R x ys ≡ true → inserted R x ys ≡ ys
  inserted_member x [] a h = true-false (sym h)
  inserted_member x (y ∷ ys) a h = by (inserted_member x ys a.1) (R x y) refl where
    by : (has R x ys ≡ true → inserted R x ys ≡ ys) → (r : Ordering) → R x y ≡ r → placed r x y ys (inserted R x ys) ≡ y ∷ ys
    by ih Less e = true-false (sym h ∙ none_below x (y ∷ ys) (e, below_chain x y ys e a.0))
    by ih Equal e = refl
    by ih Greater e = ap (λ (zs : List K). y ∷ zs) (ih (sym (ap (λ (r : Ordering). is_eq r || has R x ys) e) ∙ h))

  -- nor does a set whose members are all there
  pub union-within : (xs ys : List K) → Ascends R ys → is_within R xs ys ≡ true → union R xs ys ≡ ys
  union-within [] ys a h = refl
  union-within (x ∷ xs) ys a h = by (union-within xs ys a) (has R x ys) refl h where
    by : (is_within R xs ys ≡ true → union R xs ys ≡ ys) → (b : Bool) → has R x ys ≡ b → (b && is_within R xs ys) ≡ true → inserted R x (union R xs ys) ≡ ys
    by ih true e g = ap (inserted R x) (ih g) ∙ inserted_member x ys a e
    by ih false e g = true-false (sym g)

  -- a member of the list itself is a member by the order
  pub has-Contains : (xs : List K) (q : K) → Contains xs q → has R q xs ≡ true
  has-Contains xs q m = list_any_at (eq_by_cmp R q) xs m.0 q m.1 (ap (eq_by_cmp R q) m.2 ∙ ap is_eq (tied_itself o q))

  module _ (same : IsAntisymmetric R) where
    pub Contains-has : (xs : List K) (q : K) → has R q xs ≡ true → Contains xs q
    Contains-has xs q = Contains-from_any {eq = eq_by_cmp R} (λ x y e. same x y (tied_by (R x y) e)) q xs

    -- where x is below both tails, the tails have the same members
    tails : (x : K) (xs ys : List K) → IsBelow R x xs → IsBelow R x ys → ((q : K) → has R q (x ∷ xs) ≡ has R q (x ∷ ys)) → (q : K) → has R q xs ≡ has R q ys
    tails x xs ys a b h q = by (eq_by_cmp R q x) refl where
      at_x : (p : K) → R p x ≡ Equal → (zs : List K) → IsBelow R x zs → has R p zs ≡ false
      at_x p e zs c = subst (λ (z : K). has R z zs ≡ false) (sym (same p x e)) (none_below x zs c)

      by : (b0 : Bool) → eq_by_cmp R q x ≡ b0 → has R q xs ≡ has R q ys
      by true e = at_x q (tied_by (R q x) e) xs a ∙ sym (at_x q (tied_by (R q x) e) ys b)
      by false e = sym (ap (λ (c : Bool). c || has R q xs) e) ∙ h q ∙ ap (λ (c : Bool). c || has R q ys) e

    pub same_list : (xs ys : List K) → Ascends R xs → Ascends R ys → ((q : K) → has R q xs ≡ has R q ys) → xs ≡ ys
    same_list [] [] a b h = refl
    same_list [] (y ∷ ys) a b h = true-false (sym (first_has y ys) ∙ sym (h y))
    same_list (x ∷ xs) [] a b h = true-false (sym (first_has x xs) ∙ h x)
    same_list (x ∷ xs) (y ∷ ys) a b h = by (same_list xs ys a.1 b.1) (R x y) refl where
      by : (((q : K) → has R q xs ≡ has R q ys) → xs ≡ ys) → (r : Ordering) → R x y ≡ r → x ∷ xs ≡ y ∷ ys
      by ih Less e = true-false (sym (first_has x xs) ∙ h x ∙ none_below x (y ∷ ys) (e, below_chain x y ys e b.0))
      by ih Greater e = true-false (sym (first_has y ys) ∙ sym (h y) ∙ none_below y (x ∷ xs) (greater_turned x y e, below_chain y x xs (greater_turned x y e) a.0))
      by ih Equal e = subst (λ (z : K). IsBelow R z ys → ((q : K) → has R q (x ∷ xs) ≡ has R q (z ∷ ys)) → x ∷ xs ≡ z ∷ ys) (same x y e)
          (λ c g. ap (λ (zs : List K). x ∷ zs) (ih (tails x xs ys a.0 c g))) b.0 h

    or_flip : (b c : Bool) → (b || c) ≡ (c || b)
    or_flip true true = refl
    or_flip true false = refl
    or_flip false true = refl
    or_flip false false = refl

    pub union_comm : (xs ys : List K) → Ascends R xs → Ascends R ys → union R xs ys ≡ union R ys xs
    union_comm xs ys a b = same_list _ _ (Ascends-union xs ys b) (Ascends-union ys xs a) (λ q. has-union xs ys q ∙ or_flip (has R q xs) (has R q ys) ∙ sym (has-union ys xs q))

    pub union_assoc : (xs ys zs : List K) → Ascends R ys → Ascends R zs → union R xs (union R ys zs) ≡ union R (union R xs ys) zs
    union_assoc xs ys zs b c = same_list _ _ (Ascends-union xs _ (Ascends-union ys zs c)) (Ascends-union (union R xs ys) zs c)
        (λ q. has-union xs (union R ys zs) q ∙ ap (λ (d : Bool). has R q xs || d) (has-union ys zs q) ∙ sym (or_assoc (has R q xs) (has R q ys) (has R q zs))
        ∙ ap (λ (d : Bool). d || has R q zs) (sym (has-union xs ys q)) ∙ sym (has-union (union R xs ys) zs q))

-- what holds of each member of the parts holds of each of the whole
module _ {K : Type 0} (R : K → K → Ordering) (P : K → Type 0) where
  pub All-inserted : (x : K) (ys : List K) → P x → AllByRecursion P ys → AllByRecursion P (inserted R x ys)
  All-inserted x [] p h = (p, tt)
  All-inserted x (y ∷ ys) p h = by (All-inserted x ys p h.1) (R x y) where
    by : AllByRecursion P (inserted R x ys) → (r : Ordering) → AllByRecursion P (placed r x y ys (inserted R x ys))
    by ih Less = (p, h)
    by ih Equal = h
    by ih Greater = (h.0, ih)

  pub All-union : (xs ys : List K) → AllByRecursion P xs → AllByRecursion P ys → AllByRecursion P (union R xs ys)
  All-union [] ys h g = g
  All-union (x ∷ xs) ys h g = All-inserted x (union R xs ys) h.0 (All-union xs ys h.1 g)

  pub All-set_of : (xs : List K) → AllByRecursion P xs → AllByRecursion P (set_of R xs)
  All-set_of [] h = tt
  All-set_of (x ∷ xs) h = All-inserted x (set_of R xs) h.0 (All-set_of xs h.1)
