use Rattle.std.proofs.Common.{◌≡◌, take}
use Rattle.std.specs.Prelude.{All}
use Rattle.std.specs.List.{flat_map}
use Rattle.source_ranges.specs.Ranges.{bytes_of}
use Rattle.sink_collect.specs.Places.{IsUncut}
use Rattle.sink_collect.proofs.pieces.pieces_of.Given as goal

abbrev pub invariant-loop-range : goal.invariant-loop-range
invariant-loop-range l = record {
  bytes : flat_map bytes_of l.pieces.items ≡ flat_map bytes_of (take l.range-index l.range-items);
  uncut : All (IsUncut l.cuts.items) l.pieces.items;
}
