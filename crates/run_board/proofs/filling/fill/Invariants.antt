use Rattle.std.proofs.Common.{◌≡◌, ◌++◌}
use Rattle.std.specs.Vec.Iter.{into_iter_items}
use Rattle.crossbeam_queue.specs.Passes.{view, IsPassOf}
use Rattle.run_board.specs.Views.{filled, whole_share}
use Rattle.run_board.proofs.filling.fill.Given as goal

abbrev pub invariant-loop-task : goal.invariant-loop-task
invariant-loop-task g l = record {
  pass : IsPassOf l.queue l.pass;
  view_is : view l.pass ≡ filled whole_share (view l.pass).starts;
  tasks : (view l.pass).starts ++ into_iter_items l.task-iterator ≡ l.fn.tasks.items;
}
