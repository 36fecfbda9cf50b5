use Rattle.std.proofs.Common.{arith}
use Rattle.run_beginning.proofs.Counting.{room}
use Rattle.run_beginning.proofs.need.steps_for_calls.Goals as goal

pub steps_for_call-requires-clause-room : goal.steps_for_call-requires-clause-room
steps_for_call-requires-clause-room c = λ channel below.
    let size = c.size-size.ensures in
    let here = room c.args.log.now c.records-records.result.now channel c.loop-call.call-index c.call-item.result (omega (arith, size.length, size.limit)) c.records-records.ensures c.loop-call-test.true c.call-item.is in
    let counted = c.loop-call.invariant.counted channel below in
    omega (arith, here, counted)
