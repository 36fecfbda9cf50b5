-- Counts that stand still at their type's end.
use Rattle.std.proofs.Common.{◌≡◌, ℕ, ◌+◌, ◌^◌, ◌<◌, ◌≤◌, arith}
use Rattle.record_model.specs.Counts.{capped}

pub capped_small : (n : ℕ) → n < 2 ^ 64 → capped n ≡ n
capped_small n h = omega arith

-- a count that is small is right
pub capped_is : (n : ℕ) → capped n ≤ 2 ^ 26 → n ≡ capped n
capped_is n h = omega arith

pub capped_add : (a b : ℕ) → capped (capped a + b) ≡ capped (a + b)
capped_add a b = omega arith
