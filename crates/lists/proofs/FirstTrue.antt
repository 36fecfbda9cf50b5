-- A table of tests, of which the first n were made. Crates above cite these lemmas.
use Rattle.std.proofs.Common.{◌≡◌, ℕ, zero, suc, Bool, true, false, if◌then◌else◌, List, [], ◌∷◌, take, drop, Option, Some, None, refl}
use Rattle.lists.specs.FirstTrue.{first_true}

module _ {X : Type 0} where
  -- where the first tests are all false, the rest decides
  pub first_true-none : (n : ℕ) (rows : List (Bool × X)) → first_true (take n rows) ≡ None → first_true rows ≡ first_true (drop n rows)
  first_true-none zero rows e = refl
  first_true-none (suc n) [] e = refl
  first_true-none (suc n) (row ∷ rows) e = by_head row.0 (first_true-none n rows) e where
    by_head : (b : Bool) → (first_true (take n rows) ≡ None → first_true rows ≡ first_true (drop n rows)) → (if b then Some row.1 else first_true (take n rows)) ≡ None → (if b then Some row.1 else first_true rows) ≡ first_true (drop n rows)
    by_head true more e = cc
    by_head false more e = more e

  -- a name that the first tests give stands
  pub first_true-some : (n : ℕ) (rows : List (Bool × X)) (x : X) → first_true (take n rows) ≡ Some x → first_true rows ≡ Some x
  first_true-some zero rows x e = cc
  first_true-some (suc n) [] x e = cc
  first_true-some (suc n) (row ∷ rows) x e = by_head row.0 (first_true-some n rows x) e where
    by_head : (b : Bool) → (first_true (take n rows) ≡ Some x → first_true rows ≡ Some x) → (if b then Some row.1 else first_true (take n rows)) ≡ Some x → (if b then Some row.1 else first_true rows) ≡ Some x
    by_head true more e = e
    by_head false more e = more e

  -- where no name is given, the second test is false
  pub second_false : (a b : Bool) (x y : X) (rest : Option X) → (if a then Some x else (if b then Some y else rest)) ≡ None → b ≡ false
  second_false true b x y rest e = cc
  second_false false true x y rest e = cc
  second_false false false x y rest e = refl

  -- where no name is given, the first test is false, and the others give none
  pub none-if : (b : Bool) (x : X) (o : Option X) → (if b then Some x else o) ≡ None → (b ≡ false) × (o ≡ None)
  none-if true x o e = absurd cc
  none-if false x o e = (refl, e)
