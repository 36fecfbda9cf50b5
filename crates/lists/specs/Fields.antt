-- The numbers at a place of some bytes, the lowest byte first.
use Rattle.std.specs.Prelude.{ℕ, List, take, drop}
use Rattle.std.specs.Int.{w16, w32, from_le_bytes}

-- the number of two bytes
abbrev pub half_at : List ℕ → ℕ → ℕ
half_at bytes i = from_le_bytes w16 (take 2 (drop i bytes))

-- the number of four bytes
abbrev pub word_at : List ℕ → ℕ → ℕ
word_at bytes i = from_le_bytes w32 (take 4 (drop i bytes))
