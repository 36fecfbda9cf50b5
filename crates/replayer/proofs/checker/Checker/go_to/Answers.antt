use Rattle.std.proofs.Common.{arith, ap}
use Rattle.log_model.specs.Logs.{end_at}
use Rattle.replay_run.specs.Runs.{RunAt}
use Rattle.replayer.proofs.Parts.{differs, has_come}
use Rattle.replayer.proofs.checker.Checker.go_to.Goals as goal

pub returns-in-Ok : goal.returns-in-Ok
returns-in-Ok g c =
    let time = ap (λ (r : RunAt). r.moment.time) c.self.view_is in
    let end = ap (λ (r : RunAt). end_at r.log.end) c.self.view_is in
    rw (← c.self.view_is) (has_come c.self.inside.run c.self.invariant (omega (arith, c.requires.later, c.requires.within)) g.W.Watcher.seen c.args.watcher.now c.args.until c.check_to.new.run c.check_to.new.watcher c.in-Ok.ensures.watched
    (omega (arith, c.in-Ok.ensures.there, c.requires.later)))

pub returns : goal.returns
returns g c =
    let time = ap (λ (r : RunAt). r.moment.time) c.self.view_is in
    let end = ap (λ (r : RunAt). end_at r.log.end) c.self.view_is in
    rw (← c.self.view_is) (differs c.self.inside.run c.self.invariant (omega (arith, c.requires.later, c.requires.within)) c.in-Err.divergence c.in-Err.ensures.watched)
