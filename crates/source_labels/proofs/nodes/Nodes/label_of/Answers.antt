use Rattle.std.proofs.Common.{arith}
use Rattle.source_labels.proofs.Kept.{node_made}
use Rattle.source_labels.proofs.nodes.Nodes.label_of.Goals as goal

pub returns : goal.returns
returns c = node_made c.args.self.now c.args.node _ (omega (arith, c.requires, c.form.ensures.log.few)) c.node.ensures c.requires
