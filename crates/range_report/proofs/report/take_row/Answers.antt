use Rattle.std.proofs.Common.{◌≡◌, ℕ, suc, ◌+◌, Bool, true, ◌&&◌, cond, List, ◌∷◌, ◌++◌, length, Option, Some, sym, ap, ◌∙◌, arith, append_assoc}
use Rattle.std.specs.List.{flat_map}
use Rattle.report_model.specs.Rows.{Row}
use Rattle.range_report.specs.Runs.{is_output, has_any, output_rows}
use Rattle.range_report.specs.Text.{run_line}
use Rattle.range_report.specs.declared.runs.RowRun.{RowRun}
use Rattle.range_report.specs.OpenRuns.{row, rows_of}
use Rattle.range_report.specs.Steps.{rows_if_any, runs_from}
use Rattle.range_report.proofs.report.take_row.Goals as goal

-- the runs from here on, where a row of an output byte ends one
ended : (last : Option RowRun) (r own : Row) (finished : Option RowRun) (run next : RowRun) → (is_output r.sink && has_any r.sources) ≡ true → r ≡ own → finished ≡ Some run
    → ((rs : List Row) → runs_from last (own ∷ rs) ≡ rows_if_any finished ++ runs_from (Some next) rs) → (rs : List Row)
    → runs_from last (output_rows (r ∷ rs)) ≡ rows_of run ∷ runs_from (Some next) (output_rows rs)
ended last r own finished run next test is e runs rs =
    ap (λ (b : Bool). runs_from last (cond b (r ∷ output_rows rs) (output_rows rs))) test
    ∙ ap (λ (s : Row). runs_from last (s ∷ output_rows rs)) is
    ∙ runs (output_rows rs)
    ∙ ap (λ (d : Option RowRun). rows_if_any d ++ runs_from (Some next) (output_rows rs)) e

pub returns : goal.returns
returns c =
    let calls = c.args.moved.now.calls.now in
    let old = c.args.out.now.items in
    let run = c.in-Some-done.done in
    let next = c.go_on-next.result.next in
    let runs = ended c.args.progress.run c.args.row.now (row c.in-Some.byte c.in-Some.sources.now) c.go_on-next.result.done run next c.in-Some.ensures.0 c.in-Some.ensures.1 c.in-Some-done.is
    c.go_on-next.ensures.runs in
    record {
      fits = c.go_on-next.ensures.next;
      few = omega arith;
      text = λ rs.
          ap (λ (text : List ℕ). text ++ flat_map (run_line calls) (runs_from (Some next) (output_rows rs))) c.in_ok-push_run.ensures
          ∙ append_assoc old (run_line calls (rows_of run)) (flat_map (run_line calls) (runs_from (Some next) (output_rows rs)))
          ∙ ap (λ (lists : List (List Row)). old ++ flat_map (run_line calls) lists) (sym (runs rs));
      count = λ rs.
          let n = length (runs_from (Some next) (output_rows rs)) in
          let e : c.args.progress.lines + 1 + n ≡ c.args.progress.lines + suc n = omega arith in
          e ∙ ap (λ (lists : List (List Row)). c.args.progress.lines + length lists) (sym (runs rs));
    }
