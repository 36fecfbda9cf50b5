use Rattle.std.proofs.Common.{◌≡◌, ℕ, ◌<◌, ◌≤◌, ◌++◌, length, get_or}
use Rattle.std.specs.Prelude.{All}
use Rattle.std.specs.List.{flat_map}
use Rattle.source_ranges.specs.Ranges.{bytes_of}
use Rattle.source_ranges.proofs.Kept.{range}
use Rattle.sink_collect.specs.Places.{place_on, IsUncut}
use Rattle.sink_collect.proofs.pieces.push_pieces.Given as goal

-- the pieces so far, and the bytes that are left, which begin after the cuts so far and before the next ones
abbrev pub invariant-loop-i : goal.invariant-loop-i
invariant-loop-i l = record {
  low : l.range.from ≤ l.from;
  high : l.from < l.range.past;
  bytes : flat_map bytes_of l.pieces.items ++ bytes_of (range l.range.channel l.from l.range.past) ≡ flat_map bytes_of l.initial.pieces.items ++ bytes_of l.range;
  uncut : All (IsUncut l.cuts) l.pieces.items;
  passed : (k : ℕ) → k < l.i → get_or l.cuts k 0 ≤ place_on l.range.channel l.from;
  coming : (k : ℕ) → l.i ≤ k → k < length l.cuts → place_on l.range.channel l.from < get_or l.cuts k 0;
}
