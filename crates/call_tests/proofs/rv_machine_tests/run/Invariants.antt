use Rattle.std.proofs.Common.{◌≡◌, false}
use Rattle.call_tests.proofs.rv_machine_tests.run.Given as goal

abbrev pub invariant-loop : goal.invariant-loop
invariant-loop g l = l.machine.waits ≡ false
