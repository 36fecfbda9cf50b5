use Rattle.std.proofs.Common.{◌≡◌, ◌++◌}
use Rattle.std.specs.Vec.Iter.{into_iter_items}
use Rattle.epoch_turns.proofs.turning.into_tasks.Given as goal

-- the tasks so far, and of the other nodes
abbrev pub invariant-loop-node : goal.invariant-loop-node
invariant-loop-node g l = l.tasks.items ++ into_iter_items l.node-iterator ≡ l.fn.nodes.items
