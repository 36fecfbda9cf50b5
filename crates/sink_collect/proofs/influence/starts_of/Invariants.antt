use Rattle.std.proofs.Common.{◌≡◌, map, take}
use Rattle.sink_collect.specs.Places.{start_of}
use Rattle.sink_collect.proofs.influence.starts_of.Given as goal

abbrev pub invariant-loop-range : goal.invariant-loop-range
invariant-loop-range l = l.starts.items ≡ map start_of (take l.range-index l.ranges)
