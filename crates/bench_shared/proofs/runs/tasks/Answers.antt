use Rattle.std.proofs.Common.{◌∙◌, ap, map, arith}
use Rattle.bench_shared.specs.declared.countdown.Countdown.{Countdown}
use Rattle.run_board.proofs.FillOrder.{numbered_push}
use Rattle.bench_shared.proofs.runs.tasks.Goals as goal

pub loop-number-preserved : goal.loop-number-preserved
loop-number-preserved c =
    let number = λ (task : Countdown). task.number in
    let i = c.loop-number.invariant in
    record {
      numbers = ap (map number) c.in_ok-push.ensures.items ∙ numbered_push number c.loop-number.tasks.items c.new.result c.loop-number.number i.numbers c.new.ensures;
      count = omega (arith, c.in_ok-push.ensures.len, i.count);
    }
