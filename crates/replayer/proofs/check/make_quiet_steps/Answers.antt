use Rattle.std.proofs.Common.{◌-◌, arith, ap}
use Rattle.log_model.proofs.Ends.{end_at-small}
use Rattle.replay_run.proofs.Steps.{event_within, are_later}
use Rattle.replay_run.specs.Runs.{RunAt}
use Rattle.replayer.proofs.Passing.{no_record_taken}
use Rattle.replayer.proofs.Watching.{none_passed}
use Rattle.replayer.proofs.InARow.{row_passed, row_still}
use Rattle.replayer.proofs.check.make_quiet_steps.Goals as goal

pub run_plain-requires-clause-later : goal.run_plain-requires-clause-later
run_plain-requires-clause-later g c =
    let r = c.args.run.now in
    are_later r.moment.time (c.min-until.result - c.time-time.result) r.moment.left r.log.end
    (omega (arith, c.min-until.ensures, c.time-time.ensures, c.requires.until, c.if-time-until.true))

pub run_plain-requires-clause-time : goal.run_plain-requires-clause-time
run_plain-requires-clause-time g c =
    let r = c.args.run.now in
    omega (arith, c.min-until.ensures, c.time-time.ensures, c.requires.until, c.if-time-until.true, event_within r c.form.ensures, end_at-small r.log.end c.form.ensures.form.end)

pub returns-then-time-until : goal.returns-then-time-until
returns-then-time-until g c =
    let r = c.args.run.now in
    let until = c.min-until.result in
    let row = c.run_plain.ensures in
    record {
      watched = row_passed g.W.Follower.told g.W.Follower.wants g.W.Watcher.seen g.W.Watcher.quiet g.met.W.Watcher.enough r c.form.ensures c.requires.goes_on until
          (omega (arith, c.min-until.ensures, c.requires.until, event_within r c.form.ensures, end_at-small r.log.end c.form.ensures.form.end))
          (omega (arith, c.min-until.ensures, c.requires.until)) c.args.watcher.now (omega (arith, c.min-until.ensures, c.quiet_until.ensures))
          c.run_plain.result c.run_plain.new.self c.run_plain.new.follower row.made (omega (arith, row.most, c.time-time.ensures, c.if-time-until.true)) row.rest;
      still = row_still r c.run_plain.new.self c.run_plain.result row.rest;
      within = omega (arith, c.min-until.ensures, row.most, ap (λ (x : RunAt). x.moment.time) row.rest, c.time-time.ensures, c.if-time-until.true);
    }

pub returns-else-time-until : goal.returns-else-time-until
returns-else-time-until g c =
    record {
      watched = none_passed g.W.Watcher.seen c.args.run.now c.args.watcher.now;
      still = no_record_taken c.args.run.now c.requires.goes_on;
      within = omega arith;
    }
