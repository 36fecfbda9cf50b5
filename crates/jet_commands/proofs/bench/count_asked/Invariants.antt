use Rattle.std.proofs.Common.{◌≡◌, take}
use Rattle.jet_commands.specs.Bench.{asked_in_all}
use Rattle.jet_commands.proofs.bench.count_asked.Given as goal

abbrev pub invariant-loop-crossing : goal.invariant-loop-crossing
invariant-loop-crossing l = l.count ≡ asked_in_all (take l.crossing-index l.crossed)
