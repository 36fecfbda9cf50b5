-- The rows of a report as a page has them: a row that goes on as the one before it is one byte of text.
use Rattle.std.specs.Prelude.{ℕ, ◌+◌, ◌==◌, Bool, true, false, ◌&&◌, if◌then◌else◌, List, [], ◌∷◌, ◌++◌, length, codes, Option, Some, None}
use Rattle.std.specs.List.{flat_map}
use Rattle.flow_model.specs.declared.Loc.{Loc}
use Rattle.flow_model.specs.declared.Loc.TheVariants.{Reg, Mem}
use Rattle.flow_model.specs.declared.SourceByte.{SourceByte}
use Rattle.flow_model.specs.declared.SinkPoint.{SinkPoint}
use Rattle.flow_model.specs.declared.SinkPoint.TheVariants.{Out, At}
use Rattle.report_model.specs.Rows.{Row}
use Rattle.report_model.specs.Text.{point_text}
use Rattle.source_ranges.specs.declared.SourceRange.{SourceRange}
use Rattle.source_ranges.specs.Ranges.{ranges_of, range_text}

-- the name of a range, after a blank
abbrev pub range_word : SourceRange → List ℕ
range_word r = codes " " ++ range_text r

-- source bytes as ranges, each as long as can be
abbrev pub ranges_text : List SourceByte → List ℕ
ranges_text sources = flat_map range_word (ranges_of sources)

-- ---- rows that go on

-- the second location is the next address
abbrev pub is_next_address : Loc → Loc → Bool
is_next_address (Mem a) (Mem b) = a + 1 == b
is_next_address (Mem a) (Reg r i) = false
is_next_address (Reg r i) (Mem b) = false
is_next_address (Reg r i) (Reg s j) = false

-- the second is the next output byte of the channel, or the next address at the same time
abbrev pub is_next : SinkPoint → SinkPoint → Bool
is_next (Out a) (Out b) = (a.channel == b.channel) && (a.offset + 1 == b.offset)
is_next (Out a) (At q) = false
is_next (At p) (Out b) = false
is_next (At p) (At q) = (p.time == q.time) && is_next_address p.loc q.loc

-- the second source byte is the first, n further on
abbrev pub is_moved : ℕ → SourceByte → SourceByte → Bool
is_moved n a b = (a.channel == b.channel) && (a.offset + n == b.offset)

-- what stands at one place in both lists is moved by n
abbrev pub each_moved : ℕ → List SourceByte → List SourceByte → Bool
each_moved n [] ys = true
each_moved n (a ∷ xs) [] = true
each_moved n (a ∷ xs) (b ∷ ys) = is_moved n a b && each_moved n xs ys

-- the second source bytes are the first, each n further on
abbrev pub are_moved : ℕ → List SourceByte → List SourceByte → Bool
are_moved n xs ys = (length xs == length ys) && each_moved n xs ys

-- a row is of the next byte, with the source bytes of the row before it, each n further on
abbrev pub goes_on : ℕ → Row → Row → Bool
goes_on n before r = is_next before.sink r.sink && are_moved n before.sources r.sources

-- ---- their text

-- a row that stands by itself: its name, its source bytes in ranges, and a line feed
abbrev pub whole_row : Row → List ℕ
whole_row r = point_text r.sink ++ ranges_text r.sources ++ 0x0a ∷ []

-- `=` where the row has the source bytes of the row before it, `+` where each is one further on; else the whole row
abbrev pub row_after : Option Row → Row → List ℕ
row_after None r = whole_row r
row_after (Some before) r =
    if goes_on 0 before r then codes "=" else
    if goes_on 1 before r then codes "+" else whole_row r

abbrev pub rows_after : Option Row → List Row → List ℕ
rows_after before [] = []
rows_after before (r ∷ rs) = row_after before r ++ rows_after (Some r) rs

abbrev pub joined_rows : List Row → List ℕ
joined_rows rs = rows_after None rs
