use Rattle.std.proofs.Common.{◌≡◌, ◌+◌, ◌<◌, All, length, vec_len, vec_capacity}
use Rattle.std.specs.Vec.Iter.{into_iter_items}
use Rattle.crossbeam_queue.specs.Passes.{view, IsPassOf, ruled_capacity}
use Rattle.run_board.specs.Views.{filled, whole_share}
use Rattle.run_board.specs.Workers.{IsReady, HasRoomFor, KnowsStarts, shares_of}
use Rattle.run_board.proofs.pool.make_pool.Given as goal

abbrev pub invariant-loop-finished : goal.invariant-loop-finished
invariant-loop-finished g l = record {
  pass : IsPassOf l.queue l.pass;
  view_is : view l.pass ≡ filled (view l.pass).shares (view l.fn.pass).starts;
  left : length (into_iter_items l.finished-iterator) < (view l.pass).shares;
  lists : All (HasRoomFor (ruled_capacity l.queue)) (into_iter_items l.finished-iterator);
  room : vec_len l.pool + length (into_iter_items l.finished-iterator) < vec_capacity l.pool;
  ready : All (IsReady g.T.Numbered.words (ruled_capacity l.queue) (IsPassOf l.queue)) l.pool.items;
  starts : All (KnowsStarts (view l.fn.pass).starts) l.pool.items;
  shares : shares_of l.pool.items + (view l.pass).shares ≡ whole_share;
}
