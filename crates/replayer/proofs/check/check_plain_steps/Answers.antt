use Rattle.std.proofs.Common.{◌≡◌, ◌<◌, arith, ap₂, sym, List}
use Rattle.std.proofs.lemmas.Result.{err_from_is_err_and}
use Rattle.log_model.specs.Logs.{Log}
use Rattle.log_model.specs.declared.CallRecord.{CallRecord}
use Rattle.replay_run.specs.Expects.{event_time}
use Rattle.replay_run.specs.Runs.{RunAt}
use Rattle.replayer.specs.CheckedSteps.{TookNoRecord}
use Rattle.replayer.proofs.Parts.{one_later}
use Rattle.replayer.proofs.Passing.{plain_before, no_record_taken, no_record_then, no_record_by, passed_then}
use Rattle.replayer.proofs.Watching.{none_passed, one_passed, watched_then}
use Rattle.replayer.proofs.check.check_plain_steps.Goals as goal

-- where no record was taken, the log has its next call, or its end, at the same time
same_event : (before after : RunAt) → TookNoRecord before after → event_time before.moment.left before.log.end ≡ event_time after.moment.left after.log.end
same_event before after still = ap₂ (λ (left : List CallRecord) (log : Log). event_time left log.end) (sym still.left) (sym still.same_log)

pub loop-run-init : goal.loop-run-init
loop-run-init g c = record {
  watched = none_passed g.W.Watcher.seen c.args.run.now c.args.watcher.now;
  still = no_record_taken c.args.run.now c.requires.goes_on;
  within = omega arith;
}

pub make_quiet_steps-requires-clause-until : goal.make_quiet_steps-requires-clause-until
make_quiet_steps-requires-clause-until g c = omega (arith, c.min-until.ensures, c.event_time.ensures, same_event c.args.run.now c.loop-run.run c.loop-run.invariant.still)

pub check_plain_step-requires-clause-plain : goal.check_plain_step-requires-clause-plain
check_plain_step-requires-clause-plain g c =
    let r = c.make_quiet_steps.new.run in
    let still = no_record_then c.args.run.now c.loop-run.run r c.loop-run.invariant.still c.make_quiet_steps.ensures.still in
    let below : r.moment.time < event_time r.moment.left r.log.end = omega (arith, c.min-until.ensures, c.event_time.ensures, same_event c.args.run.now r still, c.time-in-loop-run.ensures, c.if-time-until.false) in
    plain_before r.moment.time r.moment.left r.log.end below

pub loop-run-preserved : goal.loop-run-preserved
loop-run-preserved g c =
    let seen = g.W.Watcher.seen in
    let first = c.args.run.now in
    let was = c.args.watcher.now in
    let quiet = c.make_quiet_steps.new.run in
    let told = c.make_quiet_steps.new.watcher in
    let made = c.in_ok-check_plain_step.ensures in
    let so_far = watched_then seen first c.loop-run.run quiet was c.loop-run.watcher told c.loop-run.invariant.watched c.make_quiet_steps.ensures.watched in
    let still = no_record_then first c.loop-run.run quiet c.loop-run.invariant.still c.make_quiet_steps.ensures.still in
    let after = c.check_plain_step.new.run in
    record {
      watched = watched_then seen first quiet after was told c.check_plain_step.new.watcher so_far (one_passed seen quiet after told c.check_plain_step.new.watcher made.checked.0 made.told);
      still = no_record_then first quiet after still (no_record_by quiet after made.checked.0 made.checked.1);
      within = omega (arith, one_later quiet after made.checked.0, c.loop-run.invariant.within, c.make_quiet_steps.ensures.within, c.time-in-loop-run.ensures, c.if-time-until.false);
    }

pub returns-in_err-check_plain_step-clause-watched : goal.returns-in_err-check_plain_step-clause-watched
returns-in_err-check_plain_step-clause-watched g c =
    let p = err_from_is_err_and c.from_residual.result c.from_residual.ensures.1 in
    rw (p.1, p.2) (record {
      there = c.make_quiet_steps.new.run;
      passed = passed_then c.args.run.now c.loop-run.run c.make_quiet_steps.new.run c.loop-run.invariant.watched.passed c.make_quiet_steps.ensures.watched.passed;
      different = c.in_err-check_plain_step.ensures.checked;
    })

pub returns-then-time-until-clause-watched : goal.returns-then-time-until-clause-watched
returns-then-time-until-clause-watched g c =
    watched_then g.W.Watcher.seen c.args.run.now c.loop-run.run c.make_quiet_steps.new.run c.args.watcher.now c.loop-run.watcher c.make_quiet_steps.new.watcher
    c.loop-run.invariant.watched c.make_quiet_steps.ensures.watched

pub returns-then-time-until-clause-goes_on : goal.returns-then-time-until-clause-goes_on
returns-then-time-until-clause-goes_on g c = c.make_quiet_steps.ensures.still.goes_on

pub returns-then-time-until-clause-within : goal.returns-then-time-until-clause-within
returns-then-time-until-clause-within g c = omega (arith, c.min-until.ensures, c.loop-run.invariant.within, c.make_quiet_steps.ensures.within)

pub returns-clause-goes_on : goal.returns-clause-goes_on
returns-clause-goes_on g c = c.loop-run.invariant.still.goes_on

pub returns-clause-within : goal.returns-clause-within
returns-clause-within g c = omega (arith, c.min-until.ensures, c.loop-run.invariant.within)
