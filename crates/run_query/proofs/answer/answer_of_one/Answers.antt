use Rattle.std.proofs.Common.{◌≡◌, ◌∙◌, ap, sym, arith, ◌+◌, length}
use Rattle.report_model.specs.Rows.{rows_as_written}
use Rattle.replayer.specs.Jobs.{trace_of}
use Rattle.sink_collect.specs.Pairs.{capped}
use Rattle.run_query.specs.Crossings.{numbered}
use Rattle.run_query.proofs.Collected.{nothing_asked, work_of_one}
use Rattle.run_query.proofs.answer.answer_of_one.Goals as goal

pub returns : goal.returns
returns c cuts one =
    let q = c.args.query.now in
    let trace = trace_of c.args.job.now in
    let count : c.len.result + 4 ≡ length (rows_as_written q trace) + 4 = omega (arith, c.len.ensures, ap length c.requires, c.args.sets.ok) in
    record {
      report = c.in_ok-report.ensures;
      crossings = c.new-crossed.ensures.items ∙ ap (numbered 1) (sym (nothing_asked q trace cuts one));
      events = c.saturating_add-events.ensures ∙ ap capped (count ∙ work_of_one q trace cuts one);
    }
