use Rattle.summary_join.proofs.Labelling.{IsTable}
use Rattle.summary_join.proofs.nodes.label_nodes.Given as goal

-- the nodes below this one have their labels
abbrev pub invariant-loop-node : goal.invariant-loop-node
invariant-loop-node l = IsTable l.fn.labels l.log l.cut l.marks l.labels l.table.items l.node
