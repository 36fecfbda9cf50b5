use Rattle.std.proofs.Common.{◌≡◌, ◌+◌, ◌≤◌, ◌^◌, take}
use Rattle.source_ranges.proofs.Longest.{bytes_from}
use Rattle.source_ranges.proofs.ranges.end_of_range.Given as goal

-- the bytes so far go on from the first
abbrev pub invariant-loop-byte : goal.invariant-loop-byte
invariant-loop-byte l = record {
  few : l.past ≤ 2 ^ 32;
  past : l.past ≡ l.first.offset + 1 + l.byte-index;
  front : take l.byte-index l.more ≡ bytes_from l.first.channel (l.first.offset + 1) l.byte-index;
}
