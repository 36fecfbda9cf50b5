-- The input: bytes of a linear congruential generator, that of Knuth's MMIX.
use Rattle.std.specs.Prelude.{ℕ, zero, suc, ◌+◌, ◌*◌, ◌/◌, ◌%◌, ◌^◌, List, [], ◌∷◌}

abbrev pub next_state : ℕ → ℕ
next_state s = (s * 6364136223846793005 + 1442695040888963407) % 2 ^ 64

-- the byte of a state: its eight highest bits
abbrev pub byte_of : ℕ → ℕ
byte_of s = s / 2 ^ 56

-- the bytes of the n states that follow this one
abbrev pub bytes_after : ℕ → ℕ → List ℕ
bytes_after zero s = []
bytes_after (suc n) s = byte_of (next_state s) ∷ bytes_after n (next_state s)

-- eight bytes for each message that the steps have time for, and for one more: a message takes 27 steps at least
abbrev pub input_length : ℕ → ℕ
input_length steps = 8 * (steps / 27 + 1)

-- the seed is the state before the first
abbrev pub input : ℕ → ℕ → List ℕ
input seed steps = bytes_after (input_length steps) seed
