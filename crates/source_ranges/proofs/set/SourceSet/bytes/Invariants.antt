use Rattle.std.proofs.Common.{◌≡◌, take}
use Rattle.std.specs.List.{flat_map}
use Rattle.source_ranges.specs.Ranges.{bytes_of}
use Rattle.source_ranges.proofs.set.SourceSet.bytes.Given as goal

-- the source bytes of the ranges so far
abbrev pub invariant-loop-range : goal.invariant-loop-range
invariant-loop-range l = l.bytes.items ≡ flat_map bytes_of (take l.range-index l.range-items)
