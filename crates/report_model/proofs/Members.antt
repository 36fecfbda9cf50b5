-- Some element of a list, by recursion, and what that comes to of lists that are mapped, filtered and joined.
use Rattle.std.proofs.Common.{◌≡◌, ℕ, nat_eq, slice_index_or, zero, suc, ◌+◌, ◌<◌, ◌≤◌, List, [], ◌∷◌, ◌++◌, Bool, true, false, cond, refl, sym, subst, inl, inr, arith, map, length}
use Rattle.std.specs.Prelude.{◌⊎◌, Contains, Any}
use Rattle.std.proofs.lemmas.Bool.{eqb-true, eqb-false}
use Rattle.std.specs.List.{filter, range_with_len, AllByRecursion}

module _ {X : Type 0} where
  -- P holds of some element
  abbrev pub Some_in : (X → Type 0) → List X → Type 0
  Some_in P [] = ⊥
  Some_in P (x ∷ xs) = P x ⊎ Some_in P xs

  from_place : (P : X → Type 0) (xs : List X) (k : ℕ) (x : X) → k < length xs → slice_index_or xs k x ≡ x → P x → Some_in P xs
  from_place P [] k x lt e p = absurd (omega arith)
  from_place P (y ∷ ys) zero x lt e p = inl (subst P (sym e) p)
  from_place P (y ∷ ys) (suc k) x lt e p = inr (from_place P ys k x (omega arith) e p)

  pub some-Any : (P : X → Type 0) (xs : List X) → Any P xs → Some_in P xs
  some-Any P xs a = from_place P xs a.0 a.1 a.2 a.3 a.4

  pub Any-some : (P : X → Type 0) (xs : List X) → Some_in P xs → Any P xs
  Any-some P [] h = absurd h
  Any-some P (y ∷ ys) (inl p) = (0, y, omega arith, refl, p)
  Any-some P (y ∷ ys) (inr h) = let a = Any-some P ys h in (suc a.0, a.1, omega (arith, a.2), a.3, a.4)

  pub some-Contains : (xs : List X) (x : X) → Contains xs x → Some_in (λ y. y ≡ x) xs
  some-Contains xs x c = from_place (λ y. y ≡ x) xs c.0 x c.1 c.2 refl

  pub Contains-some : (xs : List X) (x : X) → Some_in (λ y. y ≡ x) xs → Contains xs x
  Contains-some [] x h = absurd h
  Contains-some (y ∷ ys) x (inl e) = (0, omega arith, e)
  Contains-some (y ∷ ys) x (inr h) = let c = Contains-some ys x h in (suc c.0, omega (arith, c.1), c.2)

  pub some-each : (P Q : X → Type 0) → ((x : X) → P x → Q x) → (xs : List X) → Some_in P xs → Some_in Q xs
  some-each P Q f [] h = absurd h
  some-each P Q f (x ∷ xs) (inl p) = inl (f x p)
  some-each P Q f (x ∷ xs) (inr h) = inr (some-each P Q f xs h)

  pub some-gives : (P : X → Type 0) (Q : Type 0) → ((x : X) → P x → Q) → (xs : List X) → Some_in P xs → Q
  some-gives P Q f [] h = absurd h
  some-gives P Q f (x ∷ xs) (inl p) = f x p
  some-gives P Q f (x ∷ xs) (inr h) = some-gives P Q f xs h

  -- what holds of some element, and what holds of each, holds of one both
  pub some-each-too : (P Q : X → Type 0) (xs : List X) → Some_in P xs → AllByRecursion Q xs → Some_in (λ x. P x × Q x) xs
  some-each-too P Q [] h e = absurd h
  some-each-too P Q (x ∷ xs) (inl p) e = inl (p, e.0)
  some-each-too P Q (x ∷ xs) (inr h) e = inr (some-each-too P Q xs h e.1)

  pub some-append : (P : X → Type 0) (xs ys : List X) → Some_in P (xs ++ ys) → Some_in P xs ⊎ Some_in P ys
  some-append P [] ys h = inr h
  some-append P (x ∷ xs) ys (inl p) = inl (inl p)
  some-append P (x ∷ xs) ys (inr h) = elim (some-append P xs ys h) [ inl a ↦ inl (inr a) | inr b ↦ inr b ]

  pub some-left : (P : X → Type 0) (xs ys : List X) → Some_in P xs → Some_in P (xs ++ ys)
  some-left P [] ys h = absurd h
  some-left P (x ∷ xs) ys (inl p) = inl p
  some-left P (x ∷ xs) ys (inr h) = inr (some-left P xs ys h)

  pub some-right : (P : X → Type 0) (xs ys : List X) → Some_in P ys → Some_in P (xs ++ ys)
  some-right P [] ys h = h
  some-right P (x ∷ xs) ys h = inr (some-right P xs ys h)

  pub filter-some : (P : X → Type 0) (t : X → Bool) (xs : List X) → Some_in P (filter t xs) → Some_in (λ x. (t x ≡ true) × P x) xs
  filter-some P t [] h = absurd h
  filter-some P t (x ∷ xs) h = by (filter-some P t xs) (t x) refl h where
    by : (Some_in P (filter t xs) → Some_in (λ y. (t y ≡ true) × P y) xs) → (b : Bool) → t x ≡ b → Some_in P (cond b (x ∷ filter t xs) (filter t xs)) → Some_in (λ y. (t y ≡ true) × P y) (x ∷ xs)
    by rest true e (inl p) = inl (e, p)
    by rest true e (inr g) = inr (rest g)
    by rest false e g = inr (rest g)

  pub some-filter : (P : X → Type 0) (t : X → Bool) (xs : List X) → Some_in (λ x. (t x ≡ true) × P x) xs → Some_in P (filter t xs)
  some-filter P t [] h = absurd h
  some-filter P t (x ∷ xs) (inl p) = by (t x) p.0 where
    by : (b : Bool) → b ≡ true → Some_in P (cond b (x ∷ filter t xs) (filter t xs))
    by true e = inl p.1
    by false e = cc
  some-filter P t (x ∷ xs) (inr h) = by (some-filter P t xs h) (t x) where
    by : Some_in P (filter t xs) → (b : Bool) → Some_in P (cond b (x ∷ filter t xs) (filter t xs))
    by rest true = inr rest
    by rest false = rest

module _ {X Y : Type 0} where
  pub map-some : (P : Y → Type 0) (f : X → Y) (xs : List X) → Some_in P (map f xs) → Some_in (λ x. P (f x)) xs
  map-some P f [] h = absurd h
  map-some P f (x ∷ xs) (inl p) = inl p
  map-some P f (x ∷ xs) (inr h) = inr (map-some P f xs h)

  pub some-map : (P : Y → Type 0) (f : X → Y) (xs : List X) → Some_in (λ x. P (f x)) xs → Some_in P (map f xs)
  some-map P f [] h = absurd h
  some-map P f (x ∷ xs) (inl p) = inl p
  some-map P f (x ∷ xs) (inr h) = inr (some-map P f xs h)

-- a number is among those of a range
pub some-range : (a n d : ℕ) → a ≤ d → d < a + n → Some_in (λ i. i ≡ d) (range_with_len a n)
some-range a zero d le lt = absurd (omega arith)
some-range a (suc n) d le lt = by (some-range (a + 1) n d) (nat_eq a d) refl where
  by : (a + 1 ≤ d → d < a + 1 + n → Some_in (λ i. i ≡ d) (range_with_len (a + 1) n)) → (b : Bool) → nat_eq a d ≡ b → Some_in (λ i. i ≡ d) (a ∷ range_with_len (a + 1) n)
  by rest true e = inl (eqb-true a d e)
  by rest false e = let other = eqb-false a d e in inr (rest (omega (arith, other)) (omega arith))
