use Rattle.std.proofs.Common.{◌≤◌, ◌∙◌, ap, arith, ℕ, take}
use Rattle.log_model.specs.Logs.{at_of}
use Rattle.run_beginning.proofs.Fronts.{count_more, count_stops}
use Rattle.run_beginning.proofs.parts.count_before.Goals as goal

pub returns-then-time_of_call-steps-clause-front : goal.returns-then-time_of_call-steps-clause-front
returns-then-time_of_call-steps-clause-front c =
    let calls = c.args.records.now in
    let past : c.args.steps ≤ at_of c.call-item.result = omega (arith, c.if-time_of_call-steps.true, c.time_of_call.ensures) in
    ap (λ (i : ℕ). take i calls) c.loop-call.invariant.count
    ∙ count_stops c.args.steps calls c.loop-call.call-index c.call-item.result c.loop-call-test.true c.call-item.is past c.loop-call.invariant.counted

pub loop-call-preserved : goal.loop-call-preserved
loop-call-preserved c = record {
  count = omega (arith, c.loop-call.invariant.count);
  counted = count_more c.args.steps c.args.records.now c.loop-call.call-index c.call-item.result c.loop-call-test.true c.call-item.is
      (omega (arith, c.if-time_of_call-steps.false, c.time_of_call.ensures)) c.loop-call.invariant.counted;
}
