use Rattle.std.proofs.lemmas.Result.{IfOk-weaker}
use Rattle.summary_join.proofs.Labelling.{run_labelled, source_labelled, start_labelled, union_labelled}
use Rattle.summary_join.proofs.nodes.label_node.Goals as goal

pub returns-in-Source : goal.returns-in-Source
returns-in-Source c =
    let a = c.args in
    IfOk-weaker c.source.result _ _
    (λ label h. source_labelled a.labels.now a.log.now a.cut.now a.marks.now a.table.now a.node c.in-Source.byte c.source.new.self label c.in-Source.ensures.at h)
    c.source.ensures

pub returns-in-Run : goal.returns-in-Run
returns-in-Run c =
    let a = c.args in
    IfOk-weaker c.run.result _ _
    (λ label h. run_labelled a.labels.now a.log.now a.cut.now a.marks.now a.table.now a.node _ c.run.new.self label c.in-Run.ensures.at h)
    c.run.ensures

pub returns-in-Start : goal.returns-in-Start
returns-in-Start c =
    let a = c.args in
    start_labelled a.labels.now a.log.now a.cut.now a.marks.now a.table.now a.node c.requires.cut c.in-Start.loc c.label.result c.in-Start.ensures.at c.label.ensures

pub returns-in-Union : goal.returns-in-Union
returns-in-Union c =
    let a = c.args in
    IfOk-weaker c.unite.result _ _
    (λ label h.
    union_labelled a.labels.now a.log.now a.cut.now a.marks.now a.table.now a.node c.requires.cut c.in-Union.left c.in-Union.right c.label_or_nothing-one.result c.label_or_nothing-other.result c.unite.new.self label
    c.in-Union.ensures.at c.in-Union.ensures.before c.requires.closed c.requires.below c.label_or_nothing-one.ensures c.label_or_nothing-other.ensures h)
    c.unite.ensures
