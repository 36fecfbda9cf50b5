-- What the runs of a report are: they hold its rows in order, and none can be longer.
use Rattle.std.specs.Prelude.{◌≡◌, ◌+◌, ◌≤◌, true, false, List, [], ◌∷◌, ◌++◌, length}
use Rattle.std.specs.List.{flat_map}
use Rattle.log_model.specs.declared.CallRecord.{CallRecord}
use Rattle.log_model.specs.Moved.{received, written}
use Rattle.report_model.specs.Rows.{Row}
use Rattle.source_ranges.specs.declared.SourceRange.{SourceRange}
use Rattle.source_ranges.specs.Ranges.{ranges_of}
use Rattle.range_report.specs.declared.RunKind.TheVariants.{Same}
use Rattle.range_report.specs.Runs.{output_rows, point_rows, rows_without, is_run, runs}
use Rattle.range_report.specs.Text.{first_of, sources_of, written_in, received_in, kind_of}

-- a run isn't one any more with the first row of the runs that follow it, if there are any
abbrev pub StopsBefore : List Row → List (List Row) → Type 0
StopsBefore run [] = Unit {0}
StopsBefore run ([] ∷ rest) = Unit {0}
StopsBefore run ((r ∷ rs) ∷ rest) = is_run (run ++ r ∷ []) ≡ false

-- each has a row and is a run, as long as can be
abbrev pub AreLongest : List (List Row) → Type 0
AreLongest [] = Unit {0}
AreLongest ([] ∷ rest) = ⊥
AreLongest ((r ∷ rs) ∷ rest) = (is_run (r ∷ rs) ≡ true) × StopsBefore (r ∷ rs) rest × AreLongest rest

-- these runs have the rows, in order, and each is as long as can be
pub record AreRunsOf (rs : List Row) (runs : List (List Row)) : Type 0 where
  pub rows : flat_map (λ run. run) runs ≡ rs
  pub longest : AreLongest runs

abbrev pub RunsHoldRows : Type 0
RunsHoldRows = (rs : List Row) → AreRunsOf rs (runs rs)

abbrev pub RunsAreAlone : Type 0
RunsAreAlone = (rs : List Row) (others : List (List Row)) → AreRunsOf rs others → others ≡ runs rs

-- each row stands in a run, in a line of a point, or in the number of those that have no source
abbrev pub RowsAreCounted : Type 0
RowsAreCounted = (rs : List Row)
    → length rs ≡ length (flat_map (λ run. run) (runs (output_rows rs))) + length (point_rows rs) + length (rows_without rs)

-- calls moved the bytes that a run wrote, and those of a range
pub record HasBytes (calls : List CallRecord) (run : List Row) (range : SourceRange) : Type 0 where
  pub written : (first_of run).offset + length run ≤ length (written (first_of run).channel calls)
  pub received : range.past ≤ length (received range.channel calls)

-- the sources of a run are one range, as long as it, and the bytes that were written are those that were received there
pub record HoldsRange (calls : List CallRecord) (run : List Row) : Type 0 where
  pub range : SourceRange
  pub alone : ranges_of (sources_of run) ≡ range ∷ []
  pub long : range.past ≡ range.from + length run
  pub same : HasBytes calls run range → written_in calls run ≡ received_in calls range

-- a run that is told as the same is so
abbrev pub SameHoldsRange : Type 0
SameHoldsRange = (calls : List CallRecord) (r : Row) (rs : List Row) → kind_of calls (r ∷ rs) ≡ Same → HoldsRange calls (r ∷ rs)
