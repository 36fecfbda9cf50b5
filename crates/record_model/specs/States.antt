-- The states that a run reaches.
use Rattle.std.specs.Prelude.{◌≡◌, ℕ, ◌+◌, ◌^◌, ◌<◌, ◌≤◌, length, slice_index}
use Rattle.isa.specs.Machine.{State, reg}

-- what is true of each state that a run reaches: 32 registers of words, of which the first is 0, and a window of bytes
-- that ends in the address space
pub record IsSound (s : State) : Type 0 where
  pub count : length s.registers ≡ 32
  pub first : reg s 0 ≡ 0
  pub words : (r : ℕ) → reg s r < 2 ^ 32
  pub bytes : (k : ℕ) → slice_index s.memory k < 2 ^ 8
  pub ends : s.base + length s.memory ≤ 2 ^ 32
