use Rattle.std.proofs.Common.{◌≡◌, ◌<◌, ◌≤◌, length, get_or, take}
use Rattle.std.specs.List.{flat_map}
use Rattle.source_ranges.specs.declared.SourceRange.{SourceRange}
use Rattle.source_ranges.specs.Ranges.{bytes_of}
use Rattle.sink_collect.specs.Places.{start_of}
use Rattle.sink_collect.proofs.influence.count_of.Given as goal

-- the bytes of the ranges so far are no more than the places before the next one
abbrev pub invariant-loop-range : goal.invariant-loop-range
invariant-loop-range l = record {
  count_is : l.count ≡ length (flat_map bytes_of (take l.range-index l.ranges));
  few : (d : SourceRange) → l.range-index < length l.ranges → l.count ≤ start_of (get_or l.ranges l.range-index d);
}
