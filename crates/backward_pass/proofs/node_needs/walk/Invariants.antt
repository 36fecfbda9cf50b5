use Rattle.backward_pass.proofs.Walks.{IsWalking, cost}
use Rattle.backward_pass.proofs.node_needs.walk.Given as goal

abbrev pub invariant-loop-node : goal.invariant-loop-node
invariant-loop-node l = IsWalking l.log l.root l.fn.needs.items l.needs.items l.stack.items l.order.items l.starts.items

abbrev pub decreases-loop-node : goal.decreases-loop-node
decreases-loop-node l = cost l.needs.items l.stack.items
