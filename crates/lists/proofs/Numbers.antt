-- Numbers, and lists of them. Crates above cite these lemmas.
use Rattle.std.proofs.Common.{◌≡◌, ℕ, zero, suc, ◌<◌, Bool, true, if◌then◌else◌, ◌==◌, nat_lt, List, [], ◌∷◌, length, get_or, refl, ap, arith}
use Rattle.std.specs.List.{AllByRecursion, list_all}
use Rattle.std.proofs.lemmas.Bool.{and_parts, ltb-true, eq-eqb}

-- a number is itself
pub if-itself : {X : Type 0} (n : ℕ) (x y : X) → (if n == n then x else y) ≡ x
if-itself n x y = ap (λ (b : Bool). if b then x else y) (eq-eqb n n refl)

-- lists of numbers below a bound
pub all-below : (n : ℕ) (xs : List ℕ) → list_all (λ v. nat_lt v n) xs ≡ true → AllByRecursion (λ v. v < n) xs
all-below n [] e = tt
all-below n (x ∷ xs) e = let both = and_parts (nat_lt x n) (list_all (λ v. nat_lt v n) xs) e in (ltb-true x n both.0, all-below n xs both.1)

pub get_or-below : (n : ℕ) (xs : List ℕ) → 0 < n → AllByRecursion (λ v. v < n) xs → (k : ℕ) → get_or xs k 0 < n
get_or-below n [] z h k = z
get_or-below n (x ∷ xs) z h zero = h.0
get_or-below n (x ∷ xs) z h (suc k) = get_or-below n xs z h.1 k

-- three numbers, as the arguments of a call
pub three-get_or : (xs : List ℕ) → length xs ≡ 3 → xs ≡ get_or xs 0 0 ∷ get_or xs 1 0 ∷ get_or xs 2 0 ∷ []
three-get_or [] e = absurd (omega (arith, e))
three-get_or (a ∷ []) e = absurd (omega (arith, e))
three-get_or (a ∷ b ∷ []) e = absurd (omega (arith, e))
three-get_or (a ∷ b ∷ c ∷ []) e = refl
three-get_or (a ∷ b ∷ c ∷ d ∷ xs) e = absurd (omega (arith, e))
