-- Ranges of source bytes that are moved.
use Rattle.std.specs.Prelude.{ℕ, ◌+◌}
use Rattle.source_ranges.specs.declared.SourceRange.{SourceRange}

-- the range, so much further on
abbrev pub range_moved : ℕ → SourceRange → SourceRange
range_moved n r = record { channel = r.channel; from = r.from + n; past = r.past + n }
