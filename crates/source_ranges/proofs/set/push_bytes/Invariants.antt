use Rattle.std.proofs.Common.{◌≡◌, ◌++◌}
use Rattle.source_ranges.specs.Ranges.{bytes_of}
use Rattle.source_ranges.proofs.Kept.{range}
use Rattle.source_ranges.proofs.set.push_bytes.Given as goal

-- the source bytes so far, and those of the offsets that are left
abbrev pub invariant-loop-offset : goal.invariant-loop-offset
invariant-loop-offset l =
    l.bytes.items ++ bytes_of (range l.range.channel l.offset l.range.past) ≡ l.fn.bytes.items ++ bytes_of l.range
