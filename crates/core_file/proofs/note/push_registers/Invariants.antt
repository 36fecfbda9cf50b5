use Rattle.std.proofs.Common.{◌≡◌, ◌-◌, ◌++◌}
use Rattle.replayer.specs.Positions.{state_at}
use Rattle.core_file.proofs.Registers.{first_registers}
use Rattle.core_file.proofs.note.push_registers.Given as goal

-- the pc, and the registers so far
abbrev pub invariant-loop-number : goal.invariant-loop-number
invariant-loop-number l = l.file.items ≡ l.fn.file.items ++ first_registers (state_at l.cursor) (l.number - 1)
