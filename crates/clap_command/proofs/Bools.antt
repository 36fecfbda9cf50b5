-- Tests joined by `||`.
use Rattle.std.proofs.Common.{◌≡◌, refl, true, false, Bool, ◌||◌}

pub or_false : (a b : Bool) → b ≡ false → (a || b) ≡ true → a ≡ true
or_false true b n e = refl
or_false false b n e = cc
