use Rattle.std.proofs.Common.{◌≡◌, ◌+◌, ◌≤◌, ◌++◌, vec_len, vec_capacity}
use Rattle.std.specs.Vec.Iter.{into_iter_items, into_iter_len}
use Rattle.run_board.proofs.pool.gather.Given as goal

abbrev pub invariant-loop-task : goal.invariant-loop-task
invariant-loop-task g l = record {
  items : l.finished.items ++ into_iter_items l.task-iterator ≡ l.initial.finished.items ++ l.fn.others.items;
  capacity : vec_capacity l.finished ≡ vec_capacity l.initial.finished;
  room : vec_len l.finished + into_iter_len l.task-iterator ≤ vec_capacity l.finished;
}
