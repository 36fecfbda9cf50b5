use Rattle.std.proofs.Common.{◌∙◌, [], ◌++◌, ◌∷◌, List, ap₂, subst}
use Rattle.taint_shadow.specs.declared.labels.Label.{Label}
use Rattle.summary_join.specs.Labels.{IsNodeLabel}
use Rattle.summary_join.proofs.Labelling.{table_begun, table_more}
use Rattle.summary_join.proofs.nodes.label_nodes.Goals as goal

pub loop-node-init : goal.loop-node-init
loop-node-init c =
    table_begun c.args.labels.now c.args.log.now c.args.cut.now c.args.marks.now c.push.new.self.items
    (c.in_ok-push.ensures.items ∙ ap₂ (λ (ks : List Label) (k : Label). ks ++ k ∷ []) c.in_ok-table.ensures.items c.nothing.ensures)

pub loop-node-preserved : goal.loop-node-preserved
loop-node-preserved c =
    let a = c.args in
    let l = c.loop-node in
    let label = c.in_ok-label.label in
    table_more a.labels.now a.log.now a.cut.now a.marks.now l.labels c.label_node.new.labels l.table.items c.push-in-loop-node.new.self.items l.node label
    c.requires.stand l.invariant
    (subst (λ (ks : List Label). IsNodeLabel l.labels a.log.now a.cut.now a.marks.now ks l.node c.label_node.new.labels label) c.deref.ensures.value c.in_ok-label.ensures)
    c.in_ok-push-2.ensures.items
