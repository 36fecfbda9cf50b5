use Rattle.std.proofs.Common.{arith}
use Rattle.run_output.proofs.Texts.{texts_more}
use Rattle.run_output.specs.Stack.{stack_text}
use Rattle.run_output.proofs.stacks.texts_at.Goals as goal

pub loop-time-preserved : goal.loop-time-preserved
loop-time-preserved c =
    let times = c.args.times.now in
    let i = c.loop-time.time-index in
    let job = c.args.job.now in
    let made = c.in_ok-text_at.ensures in
    record {
      same_job = made.job;
      ahead = λ k later below. omega (arith, made.ahead, c.requires i k 0 (omega arith) below);
      calls = made.calls;
      texts = texts_more times i c.loop-time.texts.items _ (stack_text job.start job.log) _ c.loop-time-test.true c.in_ok-push.ensures.items made.text
          c.loop-time.invariant.texts;
    }
