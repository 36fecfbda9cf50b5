use Rattle.std.proofs.Common.{◌≡◌, ◌++◌, drop}
use Rattle.std.specs.Prelude.{Some}
use Rattle.page_data.specs.Rows.{rows_after, joined_rows}
use Rattle.page_data.proofs.rows.push_rows.Given as goal

-- the rows so far, and those that are left
abbrev pub invariant-loop-row : goal.invariant-loop-row
invariant-loop-row l = l.out.items ++ rows_after (Some l.before) (drop l.row-index l.rest) ≡ l.fn.out.items ++ joined_rows l.fn.rows
