use Rattle.std.proofs.Common.{◌≡◌, ◌≤◌, length, take}
use Rattle.range_report.specs.Runs.{rows_without}
use Rattle.range_report.proofs.report.count_without.Given as goal

-- those of the rows so far
abbrev pub invariant-loop-row : goal.invariant-loop-row
invariant-loop-row l = record {
  count : l.count ≡ length (rows_without (take l.row-index l.rows));
  few : l.count ≤ l.row-index;
}
