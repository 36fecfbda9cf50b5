use Rattle.std.proofs.Common.{◌≡◌, ◌++◌, length}
use Rattle.std.specs.Prelude.{All}
use Rattle.source_ranges.specs.Kept.{IsRange}
use Rattle.source_ranges.specs.Ranges.{ranges_of}
use Rattle.source_ranges.proofs.ranges.push_ranges.Given as goal

-- what was found, and the ranges of what is left
abbrev pub invariant-loop-range : goal.invariant-loop-range
invariant-loop-range l = record {
  ranges : l.found.items ++ ranges_of l.left ≡ l.fn.found.items ++ ranges_of l.fn.sources;
  fits : All IsRange l.found.items;
}

abbrev pub decreases-loop-range : goal.decreases-loop-range
decreases-loop-range l = length l.left
