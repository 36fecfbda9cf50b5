use Rattle.std.proofs.Common.{◌≡◌, ◌-◌, ◌^◌, length, take}
use Rattle.std.specs.Prelude.{min}
use Rattle.std.specs.List.{flat_map}
use Rattle.source_ranges.specs.Ranges.{bytes_of}
use Rattle.source_ranges.proofs.set.SourceSet.count.Given as goal

-- the source bytes of the ranges so far
abbrev pub invariant-loop-range : goal.invariant-loop-range
invariant-loop-range l = l.count ≡ min (length (flat_map bytes_of (take l.range-index l.range-items))) (2 ^ 64 - 1)
