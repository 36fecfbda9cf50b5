-- Each row of a report is told in one way.
use Rattle.std.proofs.Common.{◌≡◌, suc, ◌+◌, Bool, true, false, not, ◌&&◌, cond, List, [], ◌∷◌, length, refl, ap, sym, ◌∙◌, arith}
use Rattle.report_model.specs.Rows.{Row}
use Rattle.range_report.specs.Runs.{is_output, has_any, output_rows, point_rows, rows_without}
use Rattle.range_report.specs.RunLaws.{RowsAreCounted}
use Rattle.range_report.proofs.Longest.{runs_hold_rows}

parted : (rs : List Row) → length rs ≡ length (output_rows rs) + length (point_rows rs) + length (rows_without rs)
parted [] = refl
parted (r ∷ rs) = by (parted rs) (is_output r.sink) (has_any r.sources)
  where
    by : length rs ≡ length (output_rows rs) + length (point_rows rs) + length (rows_without rs) → (o a : Bool)
        → suc (length rs)
        ≡ length (cond (o && a) (r ∷ output_rows rs) (output_rows rs)) + length (cond (not o && a) (r ∷ point_rows rs) (point_rows rs))
        + length (cond (not a) (r ∷ rows_without rs) (rows_without rs))
    by h true true = omega arith
    by h false true = omega arith
    by h a b = omega arith

pub rows_are_counted : RowsAreCounted
rows_are_counted rs =
    parted rs ∙ ap (λ (outputs : List Row). length outputs + length (point_rows rs) + length (rows_without rs)) (sym (runs_hold_rows (output_rows rs)).rows)
