use Rattle.std.proofs.Common.{◌≡◌, ◌≤◌, ◌++◌, length, drop}
use Rattle.range_report.specs.Runs.{output_rows, runs}
use Rattle.range_report.specs.Text.{run_lines}
use Rattle.range_report.specs.Steps.{IsOpenIfAny, lines_left, count_left}
use Rattle.range_report.proofs.report.push_runs.Given as goal

-- what was told, and what is left of the rows, come to the whole
abbrev pub invariant-loop-row : goal.invariant-loop-row
invariant-loop-row l = record {
  fits : IsOpenIfAny l.progress.run;
  few : l.progress.lines ≤ l.row-index;
  text : l.out.items ++ lines_left l.moved.calls.now l.progress (drop l.row-index l.rows) ≡ l.fn.out.items ++ run_lines l.moved.calls.now l.rows;
  count : count_left l.progress (drop l.row-index l.rows) ≡ length (runs (output_rows l.rows));
}
