use Rattle.std.proofs.Common.{◌<◌, arith, length}
use Rattle.summary_join.proofs.InPlace.{one_more}
use Rattle.summary_join.proofs.epoch.carry_sinks.Goals as goal

pub loop-number-preserved : goal.loop-number-preserved
loop-number-preserved c =
    let l = c.loop-number in
    let all = l.auto.sinks in
    let within : l.number < length l.sinks = omega (arith, c.loop-number-test.true, all) in
    one_more c.args.cut.now c.args.table.now c.args.sinks.now l.sinks l.number _ c.carry.result c.loop-number-test.true within l.invariant c.carry.ensures
