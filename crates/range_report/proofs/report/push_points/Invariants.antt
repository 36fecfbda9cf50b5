use Rattle.std.proofs.Common.{◌≡◌, ◌≤◌, ◌++◌, length, take}
use Rattle.range_report.specs.Runs.{point_rows}
use Rattle.range_report.specs.Text.{point_lines}
use Rattle.range_report.proofs.report.push_points.Given as goal

-- those of the rows so far
abbrev pub invariant-loop-row : goal.invariant-loop-row
invariant-loop-row l = record {
  text : l.out.items ≡ l.fn.out.items ++ point_lines l.moved.calls.now (take l.row-index l.rows);
  count : l.lines ≡ length (point_rows (take l.row-index l.rows));
  few : l.lines ≤ l.row-index;
}
