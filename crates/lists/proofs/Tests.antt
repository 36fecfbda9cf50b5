-- Tests and orders. Crates above cite these lemmas.
use Rattle.std.proofs.Common.{◌≡◌, Bool, true, false, ◌||◌, refl, sym}

pub true-false : {A : Type 0} → true ≡ false → A
true-false e = cc

-- tests of which each is true where the other is
pub same-tests : (a b : Bool) → (a ≡ true → b ≡ true) → (b ≡ true → a ≡ true) → a ≡ b
same-tests true b f g = sym (f refl)
same-tests false true f g = g refl
same-tests false false f g = refl

pub or-swapped : (a b c : Bool) → (a || (b || c)) ≡ (b || (a || c))
or-swapped true true c = refl
or-swapped true false c = refl
or-swapped false b c = refl
