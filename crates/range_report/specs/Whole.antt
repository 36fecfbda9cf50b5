-- All lines of a report in runs, as `ranges_report` has them, of the calls of a log.
use Rattle.std.specs.Prelude.{ℕ, ◌+◌, List, ◌++◌, length}
use Rattle.log_model.specs.declared.CallRecord.{CallRecord}
use Rattle.report_model.specs.Rows.{Row}
use Rattle.range_report.specs.Runs.{output_rows, point_rows, rows_without, runs}
use Rattle.range_report.specs.Text.{run_lines, point_lines, end_line}

abbrev pub report_lines : List CallRecord → List Row → List ℕ
report_lines calls rs =
    run_lines calls rs ++ point_lines calls rs ++
    end_line (length (runs (output_rows rs)) + length (point_rows rs)) (length (rows_without rs))
