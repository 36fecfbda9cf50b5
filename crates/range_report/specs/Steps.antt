-- A run that is open, and the rows that follow.
use Rattle.std.specs.Prelude.{◌≡◌, ℕ, ◌+◌, ◌≤◌, List, [], ◌∷◌, ◌++◌, length, Option, Some, None}
use Rattle.std.specs.List.{flat_map}
use Rattle.log_model.specs.declared.CallRecord.{CallRecord}
use Rattle.report_model.specs.Rows.{Row}
use Rattle.range_report.specs.Runs.{output_rows, runs_after, runs}
use Rattle.range_report.specs.Text.{run_line}
use Rattle.range_report.specs.declared.runs.RowRun.{RowRun}
use Rattle.range_report.specs.declared.runs.Step.{Step}
use Rattle.range_report.specs.declared.report.Progress.{Progress}
use Rattle.range_report.specs.OpenRuns.{rows_of, IsOpen}

abbrev pub IsOpenIfAny : Option RowRun → Type 0
IsOpenIfAny None = Unit {0}
IsOpenIfAny (Some run) = IsOpen run

abbrev pub rows_if_any : Option RowRun → List (List Row)
rows_if_any None = []
rows_if_any (Some run) = rows_of run ∷ []

-- the runs of these rows, of which the first goes on from the open one, if there is one
abbrev pub runs_from : Option RowRun → List Row → List (List Row)
runs_from None rs = runs rs
runs_from (Some run) rs = runs_after (rows_of run) rs

-- one row on: the run that it ends, if it ends one, and the one that is open now
pub record IsStep (last : Option RowRun) (row : Row) (step : Step) : Type 0 where
  pub done : IsOpenIfAny step.done
  pub next : IsOpen step.next
  pub runs : (rs : List Row) → runs_from last (row ∷ rs) ≡ rows_if_any step.done ++ runs_from (Some step.next) rs

-- the lines of the runs that are left to tell, after these rows
abbrev pub lines_left : List CallRecord → Progress → List Row → List ℕ
lines_left calls progress rs = flat_map (run_line calls) (runs_from progress.run (output_rows rs))

abbrev pub count_left : Progress → List Row → ℕ
count_left progress rs = progress.lines + length (runs_from progress.run (output_rows rs))

-- a row was taken: what was told, and what is left, come to the same
pub record IsTaken (calls : List CallRecord) (old : List ℕ) (progress : Progress) (row : Row) (new : List ℕ) (after : Progress) : Type 0 where
  pub fits : IsOpenIfAny after.run
  pub few : after.lines ≤ progress.lines + 1
  pub text : (rs : List Row) → new ++ lines_left calls after rs ≡ old ++ lines_left calls progress (row ∷ rs)
  pub count : (rs : List Row) → count_left after rs ≡ count_left progress (row ∷ rs)
