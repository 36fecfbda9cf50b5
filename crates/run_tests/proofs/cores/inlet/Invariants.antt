use Rattle.std.proofs.Common.{◌≡◌, []}
use Rattle.run_tests.proofs.cores.inlet.Given as goal

abbrev pub invariant-loop-message : goal.invariant-loop-message
invariant-loop-message g l = l.link.got ≡ []
