use Rattle.std.proofs.Common.{◌≡◌, ◌∙◌, ap, ℕ, ◌++◌, List, length}
use Rattle.std.specs.Prelude.{codes}
use Rattle.lists.proofs.Lists.{append-twice}
use Rattle.report_model.specs.Rows.{Row}
use Rattle.run_output.specs.Summary.{number_line}
use Rattle.page_data.specs.Rows.{joined_rows}
use Rattle.replayer.specs.Jobs.{trace_of}
use Rattle.page_data.specs.Data.{asked, told_text}
use Rattle.page_data.proofs.data.push_data.Goals as goal

pub returns : goal.returns
returns c =
    let old = c.args.out.now.items in
    let first = c.extend_from_slice.new.self.items in
    let second = c.push_rows.new.out.items in
    let third = c.push_told.new.out.items in
    let report = c.args.report.now in
    let head : List ℕ = codes "jet page 1\nrows\n" in
    let told = told_text (asked c.args.query.now (trace_of c.args.job.now)) c.args.job.now.log in
    let end : List ℕ = number_line (codes "end") (length report) in
    let ends : c.push_number.new.out.items ≡ third ++ end = c.in_ok-push_number.ensures ∙ ap (λ (n : ℕ). third ++ number_line (codes "end") n) c.lines.ensures in
    let rows : second ≡ first ++ joined_rows report = c.in_ok-push_rows.ensures ∙ ap (λ (rs : List Row). first ++ joined_rows rs) c.rows.ensures in
    append-twice old (head ++ joined_rows report ++ told) end third c.push_number.new.out.items
    (append-twice old (head ++ joined_rows report) told second third
    (append-twice old head (joined_rows report) first second c.in_ok-extend_from_slice.ensures.items rows)
    c.in_ok-push_told.ensures)
    ends
