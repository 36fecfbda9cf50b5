use Rattle.std.proofs.Common.{◌≡◌, reverse}
use Rattle.run_output.specs.Stack.{calls_after}
use Rattle.run_output.proofs.walk.follow_until.Given as goal

abbrev pub invariant-loop-step : goal.invariant-loop-step
invariant-loop-step l =
    let job = l.fn.cursor.job in
    record {
      here : l.cursor ≡ record { job = job; time = l._step };
      calls : reverse l.calls.items ≡ calls_after job.start job.log l._step;
    }
