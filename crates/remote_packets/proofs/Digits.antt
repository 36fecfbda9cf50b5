-- Hexadecimal digits, one by one.
use Rattle.std.proofs.Common.{ℕ, ◌^◌, ◌<◌, ◌≤◌, lit<, arith}
use Rattle.std.proofs.Math.Nat.{pow-le-pow_right}

-- behind fewer than eight digits there is room for one more
pub room : (value i : ℕ) → value < 16 ^ i → i < 8 → value < 268435456
room value i small within =
    let most : 16 ^ i ≤ 16 ^ 7 = pow-le-pow_right (lit< tt) {j = 7} (omega arith) in
    omega (arith, most)
