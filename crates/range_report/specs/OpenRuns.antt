-- The rows that a run kept in short stands for.
use Rattle.std.specs.Prelude.{◌≡◌, ℕ, zero, suc, ◌+◌, ◌^◌, ◌≤◌, true, false, List, [], ◌∷◌, ◌++◌, Option, MatchOption}
use Rattle.flow_model.specs.declared.SourceByte.{SourceByte}
use Rattle.flow_model.specs.declared.SinkByte.{SinkByte}
use Rattle.flow_model.specs.declared.SinkPoint.TheVariants.{Out}
use Rattle.report_model.specs.Rows.{Row}
use Rattle.source_ranges.specs.Ranges.{byte_on}
use Rattle.range_report.specs.Runs.{is_moved, is_run}
use Rattle.range_report.specs.Text.{sources_of}
use Rattle.range_report.specs.declared.runs.MovedRun.{MovedRun}
use Rattle.range_report.specs.declared.runs.RowRun.{RowRun}
use Rattle.range_report.specs.declared.runs.RowRun.TheVariants.{One, Moved, Shared}
use Rattle.range_report.specs.declared.runs.Origin.{Origin}
use Rattle.range_report.specs.declared.runs.Origin.TheVariants as origin

abbrev pub row_of : ℕ → ℕ → List SourceByte → Row
row_of c o bs = record { sink = Out (record { channel = c; offset = o }); sources = bs }

abbrev pub row : SinkByte → List SourceByte → Row
row b bs = row_of b.channel b.offset bs

-- output bytes of channel c from offset o on, each from one byte of channel d from offset e on
abbrev pub moved_rows : ℕ → ℕ → ℕ → ℕ → ℕ → List Row
moved_rows c o d e zero = []
moved_rows c o d e (suc n) = row_of c o (byte_on d e ∷ []) ∷ moved_rows c (o + 1) d (e + 1) n

-- output bytes of channel c from offset o on, each from the same source bytes
abbrev pub shared_rows : ℕ → ℕ → List SourceByte → ℕ → List Row
shared_rows c o bs zero = []
shared_rows c o bs (suc n) = row_of c o bs ∷ shared_rows c (o + 1) bs n

abbrev pub rows_moved : MovedRun → List Row
rows_moved m = moved_rows m.first.channel m.first.offset m.source.channel m.source.offset m.length

abbrev pub rows_of : RowRun → List Row
rows_of (One byte sources) = row byte sources.now ∷ []
rows_of (Moved m) = rows_moved m
rows_of (Shared first sources length) = shared_rows first.channel first.offset sources.now length

-- where it isn't one row, there are two at least, and no more than offsets tell apart
abbrev pub IsOpen : RowRun → Type 0
IsOpen (One byte sources) = Unit {0}
IsOpen (Moved m) = (2 ≤ m.length) × (m.length ≤ 2 ^ 32)
IsOpen (Shared first sources length) = (2 ≤ length) × (length ≤ 2 ^ 32)

-- a run has gone on with a row
pub record IsWith (run : RowRun) (row : Row) (more : RowRun) : Type 0 where
  pub goes_on : is_run (rows_of run ++ row ∷ []) ≡ true
  pub rows : rows_of more ≡ rows_of run ++ row ∷ []
  pub fits : IsOpen more

-- a run with one more row, where both together are a run
abbrev pub GoesOn : RowRun → Row → Option RowRun → Type 0
GoesOn run row more = MatchOption more (is_run (rows_of run ++ row ∷ []) ≡ false) (IsWith run row)

-- where the bytes of these rows came from
abbrev pub IsOriginOf : List Row → Origin → Type 0
IsOriginOf rs (origin.Moved m) = (rs ≡ rows_moved m) × (1 ≤ m.length) × (m.length ≤ 2 ^ 32)
IsOriginOf rs (origin.Shared sources) = (is_moved rs ≡ false) × (sources_of rs ≡ sources.now)
