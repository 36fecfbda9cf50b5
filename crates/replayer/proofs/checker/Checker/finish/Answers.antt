use Rattle.std.proofs.Common.{◌≡◌, ◌≤◌, arith, ap, ◌∙◌, false, Ok, Err, Result}
use Rattle.log_model.specs.Logs.{Log, end_at}
use Rattle.replay_run.specs.Runs.{RunAt}
use Rattle.replayer.specs.Watching.{Seen, ArePassed, IsEndChecked}
use Rattle.replayer.specs.InParts.{IsCheckedToEnd}
use Rattle.replay_model.specs.declared.Divergence.{Divergence}
use Rattle.replayer.proofs.Parts.{differs, has_ended, same_end}
use Rattle.replayer.proofs.checker.Checker.finish.Goals as goal

to_end : {W T : Type 0} → (seen : Seen W) (before : RunAt) (goes_on : before.waits ≡ false) (h : before.moment.time ≤ end_at before.log.end) (old : W) (between : RunAt) (so_far : W) (r : Result T Divergence) (new : W)
    → ArePassed seen before old between so_far → IsEndChecked seen between so_far r new → IsCheckedToEnd seen before old r new
to_end seen before goes_on h old between so_far (Ok done) new p ended = has_ended before goes_on h seen old between so_far new p ended.0 ended.1
to_end seen before goes_on h old between so_far (Err d) new p different = differs before goes_on h d (record { there = between; passed = p.passed; different = different })

pub check_end-requires-clause-there : goal.check_end-requires-clause-there
check_end-requires-clause-there g c =
    let time = ap (λ (r : RunAt). r.moment.time) c.self.view_is in
    let own = ap (λ (r : RunAt). end_at r.log.end) c.self.view_is in
    let end = c.time_of_end-end.ensures ∙ ap end_at (c.end.ensures ∙ ap (λ (l : Log). l.end) c.log.ensures) in
    omega (arith, c.in-Ok.ensures.there, same_end c.self.inside.run c.check_to.new.run c.in-Ok.ensures.watched.passed, c.requires)

pub returns-in-Ok : goal.returns-in-Ok
returns-in-Ok g c =
    let time = ap (λ (r : RunAt). r.moment.time) c.self.view_is in
    let own = ap (λ (r : RunAt). end_at r.log.end) c.self.view_is in
    rw (← c.self.view_is) (to_end g.W.Watcher.seen c.self.inside.run c.self.invariant (omega (arith, c.requires)) c.args.watcher.now c.check_to.new.run c.check_to.new.watcher c.check_end.result c.check_end.new.watcher c.in-Ok.ensures.watched c.check_end.ensures)

pub returns : goal.returns
returns g c =
    let time = ap (λ (r : RunAt). r.moment.time) c.self.view_is in
    let own = ap (λ (r : RunAt). end_at r.log.end) c.self.view_is in
    rw (← c.self.view_is) (differs c.self.inside.run c.self.invariant (omega (arith, c.requires)) c.in-Err.divergence c.in-Err.ensures.watched)
