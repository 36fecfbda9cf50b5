use Rattle.std.proofs.Common.{◌≡◌}
use Rattle.std.specs.List.{flat_map, range_with_len}
use Rattle.replayer.specs.Positions.{state_at}
use Rattle.debug_model.specs.States.{register_bytes}
use Rattle.debug_session.proofs.registers.all_bytes.Given as goal

-- the bytes of the registers so far
abbrev pub invariant-loop-number : goal.invariant-loop-number
invariant-loop-number l = l.bytes.items ≡ flat_map (register_bytes (state_at l.here)) (range_with_len 0 l.number)
