use Rattle.std.proofs.Common.{◌≡◌, map, take}
use Rattle.std.specs.List.{flat_map}
use Rattle.source_ranges.specs.Ranges.{bytes_of}
use Rattle.sink_collect.specs.Reaching.{with_sink}
use Rattle.sink_collect.proofs.influence.add_row.Given as goal

abbrev pub invariant-loop-range : goal.invariant-loop-range
invariant-loop-range l = l.reaches ≡ map (with_sink l.row.sink (flat_map bytes_of (take l.range-index l.range-items))) l.initial.reaches
