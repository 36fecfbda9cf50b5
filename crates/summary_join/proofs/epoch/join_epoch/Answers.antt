use Rattle.std.proofs.Common.{◌∙◌, ◌++◌, Bool, List, ap, map, refl, sym, subst₂}
use Rattle.merge_log.specs.declared.nodes.Entry.{Entry}
use Rattle.taint_shadow.specs.declared.labels.Label.{Label}
use Rattle.source_labels.specs.Words.{log_of}
use Rattle.epoch_summary.specs.Summaries.{sinks_of}
use Rattle.summary_join.specs.Labels.{AreNodeLabels, carried, carried_sink}
use Rattle.summary_join.specs.Needs.{AreClosed}
use Rattle.summary_join.proofs.Carrying.{epoch_joined}
use Rattle.summary_join.proofs.epoch.join_epoch.Goals as goal

pub label_nodes-requires-clause-closed : goal.label_nodes-requires-clause-closed
label_nodes-requires-clause-closed c = subst₂ AreClosed (sym (c.log.ensures ∙ ap log_of c.nodes.ensures)) (sym c.deref.ensures.value) c.args.piece.needed.closed

pub returns-clause-joined : goal.returns-clause-joined
returns-clause-joined c =
    let a = c.args in
    let table = c.in_ok-table.table.items in
    let labelled =
    subst₂ (λ (log : List Entry) (marks : List Bool). AreNodeLabels a.labels.now log a.cut.now marks c.label_nodes.new.labels table)
    (c.log.ensures ∙ ap log_of c.nodes.ensures) c.deref.ensures.value c.in_ok-table.ensures in
    epoch_joined a.labels.now c.label_nodes.new.labels a.cut.now a.piece table c.requires.cut labelled a.sinks.now.items c.add_sinks.new.sinks.items _ c.requires.sinks
    (c.in_ok-add_sinks.ensures ∙ ap (λ (ks : List Label). a.sinks.now.items ++ map (carried_sink a.cut.now ks) (sinks_of a.piece.summary)) c.deref-2.ensures.value)
    refl
    (c.carry_all.ensures ∙ ap (λ (ks : List Label). map (carried a.cut.now ks) a.piece.ends.items) c.deref-3.ensures.value)
