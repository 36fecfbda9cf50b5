-- Lists: what is true of each item, items by number, and lists that are joined. Crates above cite these lemmas.
use Rattle.std.proofs.Common.{◌≡◌, ℕ, zero, suc, ◌+◌, ◌<◌, Bool, true, false, Some, List, [], ◌∷◌, ◌++◌, map, length, take, drop, get_or, slice_get, refl, ap, ap₂, ◌∙◌, arith, append_assoc}
use Rattle.std.specs.Prelude.{◌||◌, cond}
use Rattle.std.specs.List.{AllByRecursion, filter, list_any}
use Rattle.std.proofs.lemmas.List.{drop_more}

-- ---- what is true of each item

pub all-append : {X : Type 0} (P : X → Type 0) (xs ys : List X) → AllByRecursion P xs → AllByRecursion P ys → AllByRecursion P (xs ++ ys)
all-append P [] ys h g = g
all-append P (x ∷ xs) ys h g = (h.0, all-append P xs ys h.1 g)

pub all-parts : {X : Type 0} (P : X → Type 0) (xs ys : List X) → AllByRecursion P (xs ++ ys) → AllByRecursion P xs × AllByRecursion P ys
all-parts P [] ys h = (tt, h)
all-parts P (x ∷ xs) ys h = let rest = all-parts P xs ys h.1 in ((h.0, rest.0), rest.1)

pub all-weaken : {X : Type 0} (P Q : X → Type 0) → ((x : X) → P x → Q x) → (xs : List X) → AllByRecursion P xs → AllByRecursion Q xs
all-weaken P Q f [] h = tt
all-weaken P Q f (x ∷ xs) h = (f x h.0, all-weaken P Q f xs h.1)

-- those that a test keeps pass it, and have what each had
pub all-filter : {X : Type 0} (P : X → Type 0) (t : X → Bool) (xs : List X) → AllByRecursion P xs → AllByRecursion (λ x. (t x ≡ true) × P x) (filter t xs)
all-filter P t [] h = tt
all-filter P t (x ∷ xs) h = by (all-filter P t xs h.1) (t x) refl where
  by : AllByRecursion (λ y. (t y ≡ true) × P y) (filter t xs) → (b : Bool) → t x ≡ b → AllByRecursion (λ y. (t y ≡ true) × P y) (cond b (x ∷ filter t xs) (filter t xs))
  by rest true e = ((e, h.0), rest)
  by rest false e = rest

pub all-map : {X Y : Type 0} (P : Y → Type 0) (f : X → Y) (xs : List X) → AllByRecursion (λ x. P (f x)) xs → AllByRecursion P (map f xs)
all-map P f [] h = tt
all-map P f (x ∷ xs) h = (h.0, all-map P f xs h.1)

pub list_any-same : {X : Type 0} (f g : X → Bool) → ((x : X) → f x ≡ g x) → (xs : List X) → list_any f xs ≡ list_any g xs
list_any-same f g h [] = refl
list_any-same f g h (x ∷ xs) = ap₂ (λ (a b : Bool). a || b) (h x) (list_any-same f g h xs)

-- ---- items by number

pub take-slice_get : {X : Type 0} (xs : List X) (i : ℕ) (x : X) → slice_get xs i ≡ Some x → take (i + 1) xs ≡ take i xs ++ x ∷ []
take-slice_get [] i x e = cc
take-slice_get (y ∷ ys) zero x e = let same : y ≡ x = cc in ap (λ z. z ∷ []) same
take-slice_get (y ∷ ys) (suc i) x e =
    let n : suc i + 1 ≡ suc (i + 1) = omega arith in
    ap (λ (k : ℕ). take k (y ∷ ys)) n ∙ ap (λ zs. y ∷ zs) (take-slice_get ys i x e)

pub slice_get-take : {X : Type 0} (n k : ℕ) (xs : List X) → k < n → slice_get (take n xs) k ≡ slice_get xs k
slice_get-take zero k xs h = absurd (omega (arith, h))
slice_get-take (suc n) k [] h = refl
slice_get-take (suc n) zero (x ∷ xs) h = refl
slice_get-take (suc n) (suc k) (x ∷ xs) h = slice_get-take n k xs (omega (arith, h))

-- from a place within the list on it has an item and the rest
pub drop-within : {X : Type 0} (xs : List X) (i : ℕ) → i < length xs → (x : X) × (drop i xs ≡ x ∷ drop (i + 1) xs)
drop-within [] i h = absurd (omega arith)
drop-within (x ∷ xs) i h = (get_or (x ∷ xs) i x, drop_more (x ∷ xs) i x h)

-- ---- lists that are joined

-- one more text after what there is
pub append-twice : {X : Type 0} (old start more one two : List X) → one ≡ old ++ start → two ≡ one ++ more → two ≡ old ++ (start ++ more)
append-twice old start more one two d e = e ∙ ap (λ (xs : List _). xs ++ more) d ∙ append_assoc old start more

pub same-heads : {X : Type 0} (x y : X) (xs ys : List X) → x ∷ xs ≡ y ∷ ys → x ≡ y
same-heads x y xs ys e = cc

pub same-tails : {X : Type 0} (x y : X) (xs ys : List X) → x ∷ xs ≡ y ∷ ys → xs ≡ ys
same-tails x y xs ys e = cc

pub same-three : {X : Type 0} (a b c x y z : X) → a ≡ x → b ≡ y → c ≡ z → a ∷ b ∷ c ∷ [] ≡ x ∷ y ∷ z ∷ []
same-three a b c x y z e f g = cc
