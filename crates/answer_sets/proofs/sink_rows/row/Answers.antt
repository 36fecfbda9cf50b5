use Rattle.std.proofs.Common.{◌≡◌, ◌-◌, slice_get, get_or, map, ap, sym, subst, ◌∙◌, Some, arith}
use Rattle.std.specs.Prelude.{IfSome}
use Rattle.epoch_model.specs.Join.{answer_to, resolved, resolved_row}
use Rattle.merge_log.specs.Log.{AreSets}
use Rattle.taint_shadow.specs.declared.labels.Label.{Label}
use Rattle.taint_shadow.proofs.Alike.{same_label}
use Rattle.source_labels.specs.Words.{node_words}
use Rattle.epoch_summary.specs.Summaries.{named}
use Rattle.answer_sets.proofs.Each.{row_at, row_has, run_has, sets_of_label}
use Rattle.answer_sets.proofs.sink_rows.row.Goals as goal

pub returns-then-eq-clause-row : goal.returns-then-eq-clause-row
returns-then-eq-clause-row c =
    let before = answer_to c.args.asked.now c.args.answers.now in
    let nodes = c.args.nodes.now in
    let sinks = c.args.sinks.now in
    let last = c.in-Some.last.now in
    let at : slice_get (map (resolved_row before) (map (named nodes) sinks)) (c.args.number - 1) ≡ Some last =
    subst (λ o. IfSome o (λ row. slice_get (map (resolved_row before) (map (named nodes) sinks)) (c.args.number - 1) ≡ Some row.now)) c.in-Some.is c.requires.before in
    let has = row_has before nodes sinks (c.args.number - 1) _ last (omega (arith, c.requires.inside)) at ∙ ap (λ (l : Label). resolved before (node_words.means nodes l)) (same_label _ _ (sym c.if-eq.ensures)) in
    row_at before nodes sinks c.args.number _ _ c.requires.inside (c.in_ok-sources.ensures ∙ c.sources.ensures.value ∙ has) ∙ ap Some (sym c.new-then-eq.ensures)

pub returns-in-Run-clause-row : goal.returns-in-Run-clause-row
returns-in-Run-clause-row c =
    let before = answer_to c.args.asked.now c.args.answers.now in
    row_at before c.args.nodes.now c.args.sinks.now c.args.number _ _ c.requires.inside (c.of_run.ensures ∙ run_has before c.args.nodes.now (get_or c.args.sinks.now c.args.number _).label c.in-Run.run' (sym c.in-Run.is ∙ c.kind.ensures))
    ∙ ap Some (sym c.new.ensures)

pub sources_of-requires : goal.sources_of-requires
sources_of-requires c = subst AreSets (sym c.in_ok-read_sink.ensures.read) (sets_of_label c.args.nodes.now c.args.sinks.now c.args.number _)

pub returns-clause-row : goal.returns-clause-row
returns-clause-row c =
    let before = answer_to c.args.asked.now c.args.answers.now in
    row_at before c.args.nodes.now c.args.sinks.now c.args.number _ _ c.requires.inside (c.in_ok-sources-2.ensures ∙ ap (resolved before) c.in_ok-read_sink.ensures.read)
    ∙ ap Some (sym c.new-2.ensures)
