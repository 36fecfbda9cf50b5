-- Counts in words, which wrap round.
use Rattle.std.specs.Prelude.{ℕ, ◌+◌, ◌-◌, ◌%◌, ◌^◌}

-- the word that shows a count
abbrev pub word_of : ℕ → ℕ
word_of count = count % 2 ^ 64

-- how far the word a is past the word b
abbrev pub distance : ℕ → ℕ → ℕ
distance a b = (a + (2 ^ 64 - b)) % 2 ^ 64
