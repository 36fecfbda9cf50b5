-- The immediates: the bits of one that has room in n bits, and the one of n bits.
use Rattle.std.proofs.Common.{◌≡◌, ℕ, ◌%◌, ◌^◌, ◌<◌, ℤ, arith}
use Rattle.std.proofs.lemmas.Int.{ints}
use Rattle.isa.specs.Words.{signed}
use Rattle.isa.specs.Encodings.{low, IsImmediate}

pub signed_12 : (imm : ℤ) → IsImmediate 12 1 imm → signed 12 (low 12 imm) ≡ imm
signed_12 imm is = grind (arith, ints)

pub signed_13 : (imm : ℤ) → IsImmediate 13 2 imm → (low 13 imm % 2 ≡ 0) × (signed 13 (low 13 imm) ≡ imm)
signed_13 imm is = grind (arith, ints)

pub signed_21 : (imm : ℤ) → IsImmediate 21 2 imm → (low 21 imm % 2 ≡ 0) × (signed 21 (low 21 imm) ≡ imm)
signed_21 imm is = grind (arith, ints)

pub signed_32 : (imm : ℤ) → IsImmediate 32 (2 ^ 12) imm → (low 32 imm % 2 ^ 12 ≡ 0) × (signed 32 (low 32 imm) ≡ imm)
signed_32 imm is = grind (arith, ints)

pub low_12 : (v : ℕ) → v < 2 ^ 12 → (low 12 (signed 12 v) ≡ v) × IsImmediate 12 1 (signed 12 v)
low_12 v small = grind (arith, ints)

pub low_13 : (v : ℕ) → v < 2 ^ 13 → v % 2 ≡ 0 → (low 13 (signed 13 v) ≡ v) × IsImmediate 13 2 (signed 13 v)
low_13 v small even = grind (arith, ints)

pub low_21 : (v : ℕ) → v < 2 ^ 21 → v % 2 ≡ 0 → (low 21 (signed 21 v) ≡ v) × IsImmediate 21 2 (signed 21 v)
low_21 v small even = grind (arith, ints)

pub low_32 : (v : ℕ) → v < 2 ^ 32 → v % 2 ^ 12 ≡ 0 → (low 32 (signed 32 v) ≡ v) × IsImmediate 32 (2 ^ 12) (signed 32 v)
low_32 v small even = grind (arith, ints)
