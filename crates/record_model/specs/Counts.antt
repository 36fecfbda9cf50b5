-- Counts as numbers of 64 bits.
use Rattle.std.specs.Prelude.{ℕ, ◌-◌, ◌^◌, min}

-- a count stands still at its type's end
abbrev pub capped : ℕ → ℕ
capped n = min n (2 ^ 64 - 1)
