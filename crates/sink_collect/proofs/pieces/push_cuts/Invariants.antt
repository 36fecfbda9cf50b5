use Rattle.std.proofs.Common.{◌≡◌, ◌++◌, take}
use Rattle.std.specs.List.{flat_map}
use Rattle.sink_collect.specs.Places.{ends_of}
use Rattle.sink_collect.proofs.pieces.push_cuts.Given as goal

-- the ends of the ranges so far
abbrev pub invariant-loop-range : goal.invariant-loop-range
invariant-loop-range l = l.cuts.items ≡ l.initial.cuts.items ++ flat_map ends_of (take l.range-index l.range-items)
