use Rattle.std.proofs.Common.{List, [], ◌∷◌, ◌++◌, map, ap, sym, ◌∙◌, arith}
use Rattle.std.proofs.lemmas.List.{length-map}
use Rattle.lists.proofs.Lists.{take-slice_get}
use Rattle.report_model.specs.Rows.{Row}
use Rattle.epoch_model.specs.Join.{answer_to, resolved_row}
use Rattle.epoch_summary.specs.Summaries.{named}
use Rattle.answer_sets.proofs.Each.{row_before}
use Rattle.answer_sets.proofs.sink_rows.rows_of_sinks.Goals as goal

pub row-requires-clause-before : goal.row-requires-clause-before
row-requires-clause-before c =
    let named_sinks = map (named c.args.nodes.now) c.args.sinks.now in
    let make = resolved_row (answer_to c.args.asked.now c.args.answers.now) in
    row_before (map make named_sinks) c.deref.result.now c.loop-number.number c.last-before.result (c.deref.ensures.value ∙ c.loop-number.invariant.made)
    (omega (arith, c.loop-number-test.true, length-map named_sinks make, length-map c.args.sinks.now (named c.args.nodes.now))) c.last-before.ensures.value

pub loop-number-preserved : goal.loop-number-preserved
loop-number-preserved c = record {
  made =
      c.in_ok-push.ensures.items
      ∙ ap (λ (rows : List Row). rows ++ c.in_ok-next.next ∷ []) c.loop-number.invariant.made
      ∙ sym (take-slice_get _ c.loop-number.number c.in_ok-next.next c.in_ok-next.ensures.row);
  ahead = c.in_ok-next.ensures.ahead;
}
