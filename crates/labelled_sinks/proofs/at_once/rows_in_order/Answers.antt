use Rattle.std.proofs.Common.{◌∙◌, refl}
use Rattle.std.proofs.lemmas.Result.{IfOk-weaker}
use Rattle.labelled_sinks.proofs.Rows.{rows_are}
use Rattle.labelled_sinks.proofs.at_once.rows_in_order.Goals as goal

pub returns : goal.returns
returns c =
    IfOk-weaker c.rows_of_sinks-3.result _ _
    (λ rows is. is ∙ rows_are c.args.labels.now c.args.sinks.now c.args.sinks.now c.nodes.result.now c.new.result c.new-2.result c.nodes.ensures refl c.new.ensures c.new-2.ensures)
    c.rows_of_sinks-3.ensures
