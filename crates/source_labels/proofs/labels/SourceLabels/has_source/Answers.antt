use Rattle.std.proofs.Common.{sym, ◌∙◌}
use Rattle.taint_shadow.specs.declared.labels.LabelKind.TheVariants.{Node, Start, Run}
use Rattle.source_labels.proofs.Sources.{has_by_kind}
use Rattle.source_labels.proofs.labels.SourceLabels.has_source.Goals as goal

pub returns-in-Node : goal.returns-in-Node
returns-in-Node c = has_by_kind c.args.self.now c.args.label (Node c.in-Node.node) c.requires (sym c.in-Node.is ∙ c.kind.ensures)

pub returns-in-Start : goal.returns-in-Start
returns-in-Start c = has_by_kind c.args.self.now c.args.label (Start _) c.requires (sym c.in-Start.is ∙ c.kind.ensures)

pub returns-in-Run : goal.returns-in-Run
returns-in-Run c = has_by_kind c.args.self.now c.args.label (Run _) c.requires (sym c.in-Run.is ∙ c.kind.ensures)
