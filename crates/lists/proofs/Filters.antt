-- What a test keeps of a set, and sets that are mapped. Crates above cite these lemmas.
use Rattle.std.proofs.Common.{◌≡◌, List, [], ◌∷◌, Bool, true, false, cond, map, refl, ap, sym, ◌∙◌}
use Rattle.std.specs.Prelude.{◌||◌, ◌&&◌}
use Rattle.std.specs.List.{filter}
use Rattle.std.specs.Cmp.{IsTotalOrder}
use Rattle.std.specs.Ordering.{eq_by_cmp}
use Rattle.std.specs.declared.cmp.Ordering.{Ordering}
use Rattle.std.specs.declared.cmp.Ordering.TheVariants.{Less, Equal, Greater}
use Rattle.lists.specs.Sets.{union, inserted, placed, set_of, has, IsBelow, Ascends}
use Rattle.lists.proofs.Algebra.{Ascends-union, Ascends-set_of, inserted_below, below_chain, tied_by}

-- a test that what ties passes together
abbrev pub IsAlikeWhereTied : {K : Type 0} → (K → K → Ordering) → (K → Bool) → Type 0
IsAlikeWhereTied {K} R t = (x y : K) → R x y ≡ Equal → t x ≡ t y

module _ {K : Type 0} (R : K → K → Ordering) (t : K → Bool) where
  pub IsBelow-filter : (x : K) (ys : List K) → IsBelow R x ys → IsBelow R x (filter t ys)
  IsBelow-filter x [] b = tt
  IsBelow-filter x (y ∷ ys) b = by (IsBelow-filter x ys b.1) (t y) where
    by : IsBelow R x (filter t ys) → (c : Bool) → IsBelow R x (cond c (y ∷ filter t ys) (filter t ys))
    by ih true = (b.0, ih)
    by ih false = ih

  pub Ascends-filter : (xs : List K) → Ascends R xs → Ascends R (filter t xs)
  Ascends-filter [] a = tt
  Ascends-filter (x ∷ xs) a = by (Ascends-filter xs a.1) (t x) where
    by : Ascends R (filter t xs) → (c : Bool) → Ascends R (cond c (x ∷ filter t xs) (filter t xs))
    by ih true = (IsBelow-filter x xs a.0, ih)
    by ih false = ih

module _ {K : Type 0} {R : K → K → Ordering} (o : IsTotalOrder R) (t : K → Bool) (alike : IsAlikeWhereTied R t) where
  -- the set with x, where the test keeps x
  abbrev inserted_if : Bool → K → List K → List K
  inserted_if c x ys = cond c (inserted R x ys) ys

  filter-inserted : (x : K) (ys : List K) → Ascends R ys → filter t (inserted R x ys) ≡ inserted_if (t x) x (filter t ys)
  filter-inserted x [] a = by (t x) where
    by : (c : Bool) → cond c (x ∷ []) [] ≡ inserted_if c x []
    by true = refl
    by false = refl
  filter-inserted x (y ∷ ys) a = by (filter-inserted x ys a.1) (R x y) refl where
    less : R x y ≡ Less → (c : Bool) → cond c (x ∷ filter t (y ∷ ys)) (filter t (y ∷ ys)) ≡ inserted_if c x (filter t (y ∷ ys))
    less e true = sym (inserted_below o x (filter t (y ∷ ys)) (IsBelow-filter R t x (y ∷ ys) (e, below_chain o x y ys e a.0)))
    less e false = refl

    equal : R x y ≡ Equal → (c : Bool) → cond c (y ∷ filter t ys) (filter t ys) ≡ inserted_if c x (cond c (y ∷ filter t ys) (filter t ys))
    equal e true = sym (ap (λ (r : Ordering). placed r x y (filter t ys) (inserted R x (filter t ys))) e)
    equal e false = refl

    greater : R x y ≡ Greater → (c d : Bool) → cond d (y ∷ inserted_if c x (filter t ys)) (inserted_if c x (filter t ys)) ≡ inserted_if c x (cond d (y ∷ filter t ys) (filter t ys))
    greater e true true = sym (ap (λ (r : Ordering). placed r x y (filter t ys) (inserted R x (filter t ys))) e)
    greater e true false = refl
    greater e false true = refl
    greater e false false = refl

    by : filter t (inserted R x ys) ≡ inserted_if (t x) x (filter t ys) → (r : Ordering) → R x y ≡ r → filter t (placed r x y ys (inserted R x ys)) ≡ inserted_if (t x) x (filter t (y ∷ ys))
    by ih Less e = less e (t x)
    by ih Equal e = equal e (t y) ∙ ap (λ (c : Bool). inserted_if c x (filter t (y ∷ ys))) (sym (alike x y e))
    by ih Greater e = ap (λ (zs : List K). cond (t y) (y ∷ zs) zs) ih ∙ greater e (t x) (t y)

  -- what a test keeps of a union is the union of what it keeps of both
  pub filter-union : (xs ys : List K) → Ascends R ys → filter t (union R xs ys) ≡ union R (filter t xs) (filter t ys)
  filter-union [] ys a = refl
  filter-union (x ∷ xs) ys a = filter-inserted x (union R xs ys) (Ascends-union o xs ys a) ∙ ap (inserted_if (t x) x) (filter-union xs ys a) ∙ by (t x) where
    by : (c : Bool) → inserted_if c x (union R (filter t xs) (filter t ys)) ≡ union R (cond c (x ∷ filter t xs) (filter t xs)) (filter t ys)
    by true = refl
    by false = refl

  -- what a test keeps of the set of a list is the set of what it keeps of the list
  pub filter-set_of : (xs : List K) → filter t (set_of R xs) ≡ set_of R (filter t xs)
  filter-set_of [] = refl
  filter-set_of (x ∷ xs) = filter-inserted x (set_of R xs) (Ascends-set_of o xs) ∙ ap (inserted_if (t x) x) (filter-set_of xs) ∙ by (t x) where
    by : (c : Bool) → inserted_if c x (set_of R (filter t xs)) ≡ set_of R (cond c (x ∷ filter t xs) (filter t xs))
    by true = refl
    by false = refl

  -- a member of what a test keeps passes the test, and is a member of the whole
  pub has-filter : (xs : List K) (q : K) → has R q (filter t xs) ≡ (t q && has R q xs)
  has-filter [] q = by (t q) where
    by : (c : Bool) → false ≡ (c && false)
    by true = refl
    by false = refl
  has-filter (x ∷ xs) q = by (has-filter xs q) (eq_by_cmp R q x) refl where
    tied : t q ≡ t x → (c : Bool) → has R q (cond c (x ∷ filter t xs) (filter t xs)) ≡ c → has R q (cond c (x ∷ filter t xs) (filter t xs)) ≡ (c && true)
    tied s true e = e
    tied s false e = e

    other : (h : Bool) → h ≡ has R q (filter t xs) → eq_by_cmp R q x ≡ false → (c : Bool) → has R q (cond c (x ∷ filter t xs) (filter t xs)) ≡ h
    other h s e true = ap (λ (b : Bool). b || has R q (filter t xs)) e ∙ sym s
    other h s e false = sym s

    first : eq_by_cmp R q x ≡ true → (c : Bool) → t q ≡ c → has R q (filter t xs) ≡ (t q && has R q xs) → has R q (cond c (x ∷ filter t xs) (filter t xs)) ≡ c
    first e true s ih = ap (λ (b : Bool). b || has R q (filter t xs)) e
    first e false s ih = ih ∙ ap (λ (b : Bool). b && has R q xs) s

    by : has R q (filter t xs) ≡ (t q && has R q xs) → (b : Bool) → eq_by_cmp R q x ≡ b → has R q (filter t (x ∷ xs)) ≡ (t q && (b || has R q xs))
    by ih true e = let s = alike q x (tied_by (R q x) e) in tied s (t x) (first e (t x) s ih) ∙ ap (λ (c : Bool). c && true) (sym s)
    by ih false e = other (t q && has R q xs) (sym ih) e (t x)

-- a map that leaves the order alone turns the set of a list into the set of the mapped list
module _ {K L : Type 0} (R : K → K → Ordering) (S : L → L → Ordering) (f : K → L) (same : (x y : K) → S (f x) (f y) ≡ R x y) where
  map-inserted : (x : K) (ys : List K) → map f (inserted R x ys) ≡ inserted S (f x) (map f ys)
  map-inserted x [] = refl
  map-inserted x (y ∷ ys) = by (map-inserted x ys) (R x y) ∙ ap (λ (r : Ordering). placed r (f x) (f y) (map f ys) (inserted S (f x) (map f ys))) (sym (same x y)) where
    by : map f (inserted R x ys) ≡ inserted S (f x) (map f ys) → (r : Ordering) → map f (placed r x y ys (inserted R x ys)) ≡ placed r (f x) (f y) (map f ys) (inserted S (f x) (map f ys))
    by ih Less = refl
    by ih Equal = refl
    by ih Greater = ap (λ (zs : List L). f y ∷ zs) ih

  pub map-set_of : (xs : List K) → map f (set_of R xs) ≡ set_of S (map f xs)
  map-set_of [] = refl
  map-set_of (x ∷ xs) = map-inserted x (set_of R xs) ∙ ap (inserted S (f x)) (map-set_of xs)
