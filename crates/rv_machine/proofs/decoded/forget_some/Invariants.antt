use Rattle.std.proofs.Common.{◌/◌}
use Rattle.rv_machine.specs.Decoded.{AreForgotten}
use Rattle.rv_machine.proofs.decoded.forget_some.Given as goal

abbrev pub invariant-loop-number : goal.invariant-loop-number
invariant-loop-number l = AreForgotten l.fn.slots l.slots (l.offset / 4) l.number
