use Rattle.std.proofs.Common.{◌≡◌, length, subst, arith}
use Rattle.crossbeam_queue.specs.Passes.{IsPassOf, ruled_capacity}
use Rattle.run_board.specs.declared.worker.Worker.{Worker}
use Rattle.run_board.specs.Workers.{IsReady, IsSameWorker}
use Rattle.run_board.proofs.Joining.{AreSameWorkers, all_know, same_shares}
use Rattle.run_board.proofs.pool.turn_at_once.Goals as goal

pub returns : goal.returns
returns g c =
    let old = c.args.pool.now in
    let new = c.for_each_mut.new.s in
    let long : length new ≡ length old = omega (arith, c.for_each_mut.auto.s) in
    let same : AreSameWorkers old new = λ k d lt.
    let e = (c.for_each_mut.ensures k d lt).1 in
    subst (λ (y : Worker g.row.T.Denot × Worker g.row.T.Denot). IsSameWorker y.0 y.1) (λ i. (e.argument_is i, e.left i)) e.call.1 in
    record {
      ready = λ k d lt.
          let e = (c.for_each_mut.ensures k d (omega (arith, long))).1 in
          subst (λ (w : Worker g.row.T.Denot). IsReady g.T.Numbered.words (ruled_capacity c.args.queue.now) (IsPassOf c.args.queue.now) w) e.left e.call.0;
      starts = all_know old new long same;
      shares = same_shares old new long same;
    }
