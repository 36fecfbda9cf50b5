use Rattle.epoch_node.specs.Cores.{core_of}
use Rattle.epoch_node.specs.Keeping.{KeepsCore}
use Rattle.run_tests.proofs.cores.turn_all.Given as goal

abbrev pub invariant-loop : goal.invariant-loop
invariant-loop l = KeepsCore (core_of l.core) l.links
