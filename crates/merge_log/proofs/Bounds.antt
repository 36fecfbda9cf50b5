-- Where the bits of a mask begin, and where they end.
use Rattle.std.proofs.Common.{◌≡◌, ℕ, zero, suc, ◌-◌, ◌<◌, ◌≤◌, ◌^◌, arith}
use Rattle.std.specs.Int.{bit_at, w64, trailing_zeros}
use Rattle.std.proofs.lemmas.Nat.{leading_length}
use Rattle.std.proofs.lemmas.Nat.Bits.{bit_at-zero, bit_at-trailing_zeros, bit_at_above}
use lib.Count.{count_leading_zeros}

pub bits_from : (mask r : ℕ) → mask < 2 ^ 64 → r < trailing_zeros w64 mask → bit_at mask r ≡ 0
bits_from zero r h k = bit_at-zero r
bits_from (suc n) r h k = (bit_at-trailing_zeros w64 (suc n) (omega arith) h).2 r k

pub bits_below : (mask r : ℕ) → mask < 2 ^ 64 → 64 - count_leading_zeros 64 mask ≤ r → bit_at mask r ≡ 0
bits_below mask r h k =
    let m = leading_length 64 mask h in
    bit_at_above mask m.0 r m.2 (omega (arith, m.1, k))
