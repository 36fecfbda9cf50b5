use Rattle.std.proofs.Common.{map}
use Rattle.epoch_node.specs.Cores.{core_of}
use Rattle.jet_core.proofs.Doing.{DoneTo}
use Rattle.jet_core.proofs.line.Line.is_done.Given as goal

abbrev pub invariant-loop-core : goal.invariant-loop-core
invariant-loop-core g l = DoneTo l.core-index (map core_of l.self.cores.items)
