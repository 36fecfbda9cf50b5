use Rattle.std.proofs.Common.{arith, ap}
use Rattle.std.proofs.lemmas.Result.{err_from_is_err_and}
use Rattle.replay_run.specs.Runs.{RunAt}
use Rattle.replayer.specs.CheckedSteps.{IsAdvanced}
use Rattle.replayer.proofs.Parts.{one_later, not_earlier, same_end}
use Rattle.replayer.proofs.Passing.{passed_then}
use Rattle.replayer.proofs.Watching.{none_passed, one_passed, watched_then}
use Rattle.replayer.proofs.check.check_to.Goals as goal

pub loop-run-init : goal.loop-run-init
loop-run-init g c = record {
  watched = none_passed g.W.Watcher.seen c.args.run.now c.args.watcher.now;
  goes_on = c.requires.goes_on;
  later = omega arith;
  within = omega arith;
}

pub returns-in_err-check_plain_steps-clause-watched : goal.returns-in_err-check_plain_steps-clause-watched
returns-in_err-check_plain_steps-clause-watched g c =
    let p = err_from_is_err_and c.from_residual.result c.from_residual.ensures.1 in
    let d = c.in_err-check_plain_steps.ensures.watched in
    rw (p.1, p.2) (record {
      there = d.there;
      passed = passed_then c.args.run.now c.loop-run.run d.there c.loop-run.invariant.watched.passed d.passed;
      different = d.different;
    })

pub check_step-requires-clause-not_over : goal.check_step-requires-clause-not_over
check_step-requires-clause-not_over g c =
    let passed = passed_then c.args.run.now c.loop-run.run c.check_plain_steps.new.run c.loop-run.invariant.watched.passed c.in_ok-check_plain_steps.ensures.watched.passed in
    omega (arith, same_end c.args.run.now c.check_plain_steps.new.run passed, c.requires.within, c.time-in-loop-run.ensures, c.if-time-until.true)

pub returns-in-Err-clause-watched : goal.returns-in-Err-clause-watched
returns-in-Err-clause-watched g c =
    let passed = passed_then c.args.run.now c.loop-run.run c.check_plain_steps.new.run c.loop-run.invariant.watched.passed c.in_ok-check_plain_steps.ensures.watched.passed in
    record { there = c.check_plain_steps.new.run; passed = passed; different = c.in-Err.ensures.checked }

pub loop-run-smaller-in-Ok-Advanced : goal.loop-run-smaller-in-Ok-Advanced
loop-run-smaller-in-Ok-Advanced g c =
    let made : IsAdvanced c.check_plain_steps.new.run c.check_step.new.run = rw c.in-Ok-Advanced.field-0-is at c.in-Ok-Advanced.ensures.checked in
    omega (arith, one_later c.check_plain_steps.new.run c.check_step.new.run made, not_earlier c.loop-run.run c.check_plain_steps.new.run c.in_ok-check_plain_steps.ensures.watched.passed, c.time-in-loop-run.ensures, c.if-time-until.true)

pub loop-run-preserved-in-Ok-Advanced : goal.loop-run-preserved-in-Ok-Advanced
loop-run-preserved-in-Ok-Advanced g c =
    let seen = g.W.Watcher.seen in
    let first = c.args.run.now in
    let was = c.args.watcher.now in
    let plain = c.check_plain_steps.new.run in
    let after = c.check_step.new.run in
    let made : IsAdvanced plain after = rw c.in-Ok-Advanced.field-0-is at c.in-Ok-Advanced.ensures.checked in
    let told = rw c.in-Ok-Advanced.field-0-is at c.in-Ok-Advanced.ensures.told in
    let so_far = watched_then seen first c.loop-run.run plain was c.loop-run.watcher c.check_plain_steps.new.watcher c.loop-run.invariant.watched c.in_ok-check_plain_steps.ensures.watched in
    let one = one_later plain after made in
    let earlier = not_earlier c.loop-run.run plain c.in_ok-check_plain_steps.ensures.watched.passed in
    record {
      watched = watched_then seen first plain after was c.check_plain_steps.new.watcher c.check_step.new.watcher so_far (one_passed seen plain after c.check_plain_steps.new.watcher c.check_step.new.watcher made told);
      goes_on = ap (λ (r : RunAt). r.waits) made.moved;
      later = omega (arith, c.loop-run.invariant.later);
      within = omega (arith, c.time-in-loop-run.ensures, c.if-time-until.true);
    }

pub unreachable-requires : goal.unreachable-requires
unreachable-requires g c =
    let passed = passed_then c.args.run.now c.loop-run.run c.check_plain_steps.new.run c.loop-run.invariant.watched.passed c.in_ok-check_plain_steps.ensures.watched.passed in
    let ended = rw c.in-Ok-Ended.field-0-is at c.in-Ok-Ended.ensures.checked in
    let late = ended.late in
    absurd (omega (arith, same_end c.args.run.now c.check_plain_steps.new.run passed, c.requires.within, c.time-in-loop-run.ensures, c.if-time-until.true))

pub loop-run-preserved : goal.loop-run-preserved
loop-run-preserved g c =
    let seen = g.W.Watcher.seen in
    let earlier = not_earlier c.loop-run.run c.check_plain_steps.new.run c.in_ok-check_plain_steps.ensures.watched.passed in
    record {
      watched = watched_then seen c.args.run.now c.loop-run.run c.check_plain_steps.new.run c.args.watcher.now c.loop-run.watcher c.check_plain_steps.new.watcher c.loop-run.invariant.watched c.in_ok-check_plain_steps.ensures.watched;
      goes_on = c.in_ok-check_plain_steps.ensures.goes_on;
      later = omega (arith, c.loop-run.invariant.later);
      within = omega (arith, c.in_ok-check_plain_steps.ensures.within, c.loop-run.invariant.within);
    }
