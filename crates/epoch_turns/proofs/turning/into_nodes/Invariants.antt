use Rattle.std.proofs.Common.{◌≡◌, ◌++◌}
use Rattle.std.specs.Vec.Iter.{into_iter_items}
use Rattle.epoch_turns.proofs.turning.into_nodes.Given as goal

-- the nodes so far, and of the other tasks
abbrev pub invariant-loop-task : goal.invariant-loop-task
invariant-loop-task g l = l.nodes.items ++ into_iter_items l.task-iterator ≡ l.fn.tasks.items
