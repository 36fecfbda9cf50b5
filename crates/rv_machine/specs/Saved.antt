-- A state, and what it is without the bytes of its window.
use Rattle.std.specs.Prelude.{ℕ, List, length}
use Rattle.isa.specs.Machine.{State}

-- a state without the bytes of its window: the pc, the registers, the window's lowest address and its size in bytes
pub record RestOfState : Type 0 where
  pub pc : ℕ
  pub registers : List ℕ
  pub base : ℕ
  pub size : ℕ

-- all of a state but the bytes of its window
abbrev pub rest_of : State → RestOfState
rest_of s = record { pc = s.pc; registers = s.registers; base = s.base; size = length s.memory }

-- the state with these bytes in its window, and all else as said
abbrev pub put_together : List ℕ → RestOfState → State
put_together bytes rest = record { pc = rest.pc; registers = rest.registers; base = rest.base; memory = bytes }
