use Rattle.crossbeam_queue.specs.Passes.{IsPassOf, ruled_capacity}
use Rattle.run_board.specs.Workers.{IsReady, IsSameWorker}
use Rattle.run_board.proofs.turning.turn_until_empty.Given as goal

abbrev pub invariant-loop : goal.invariant-loop
invariant-loop g l = record {
  ready : IsReady g.T.Numbered.words (ruled_capacity l.queue) (IsPassOf l.queue) l.worker;
  same_worker : IsSameWorker l.initial.worker l.worker;
}
