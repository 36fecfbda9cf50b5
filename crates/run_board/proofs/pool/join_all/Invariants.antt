use Rattle.std.proofs.Common.{◌≡◌, ◌+◌, All}
use Rattle.std.specs.Vec.Iter.{into_iter_items}
use Rattle.crossbeam_queue.specs.Passes.{IsPassOf, ruled_capacity}
use Rattle.run_board.specs.Workers.{IsReady, KnowsStarts, view_of, shares_of}
use Rattle.run_board.proofs.pool.join_all.Given as goal

abbrev pub invariant-loop-other : goal.invariant-loop-other
invariant-loop-other g l = record {
  ready : IsReady g.T.Numbered.words (ruled_capacity l.queue) (IsPassOf l.queue) l.worker;
  starts : KnowsStarts (view_of l.initial.worker).starts l.worker;
  others_ready : All (IsReady g.T.Numbered.words (ruled_capacity l.queue) (IsPassOf l.queue)) (into_iter_items l.other-iterator);
  others_start : All (KnowsStarts (view_of l.initial.worker).starts) (into_iter_items l.other-iterator);
  shares : (view_of l.worker).shares + shares_of (into_iter_items l.other-iterator) ≡ (view_of l.initial.worker).shares + shares_of l.fn.others.items;
}
