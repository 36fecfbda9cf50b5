use Rattle.std.proofs.Common.{◌∙◌, sym, subst}
use Rattle.lists.specs.Sets.{Ascends}
use Rattle.flow_model.specs.Orders.{source_cmp}
use Rattle.source_labels.specs.Laws.{label_laws}
use Rattle.decision_find.proofs.writing.sources_of.Goals as goal

pub of_runs-requires : goal.of_runs-requires
of_runs-requires c =
    subst (Ascends source_cmp) (sym (c.runs.ensures ∙ c.in_ok-read.ensures)) (label_laws.of_label c.args.labels.now c.args.label c.requires)
