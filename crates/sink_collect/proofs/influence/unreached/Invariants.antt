use Rattle.std.proofs.Common.{◌≡◌, [], take}
use Rattle.sink_collect.specs.Reaching.{stretches}
use Rattle.sink_collect.proofs.influence.unreached.Given as goal

abbrev pub invariant-loop-range : goal.invariant-loop-range
invariant-loop-range l = l.reaches.items ≡ stretches [] (take l.range-index l.ranges)
