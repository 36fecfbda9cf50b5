use Rattle.std.proofs.Common.{arith}
use Rattle.run_output.specs.Counts.{count_of}
use Rattle.run_output.proofs.Lines.{counted_more, text_more}
use Rattle.run_output.proofs.Room.{has_room}
use Rattle.run_output.proofs.writing.push_calls.Goals as goal

pub push_call-requires-clause-room : goal.push_call-requires-clause-room
push_call-requires-clause-room c =
    let size = c.size-size.ensures in
    has_room c.args.log.now c.records-records.result.now c.loop-call.counts c.loop-call.call-index c.call-item.result c.form.ensures (omega (arith, size.length, size.limit)) c.records-records.ensures
    c.loop-call-test.true c.call-item.is c.loop-call.invariant.counts

pub loop-call-preserved : goal.loop-call-preserved
loop-call-preserved c =
    let rs = c.records-records.result.now in
    let i = c.loop-call.call-index in
    let made = c.in_ok-push_call.ensures in
    record {
      text = text_more rs i c.call-item.result (count_of c.loop-call.counts) _ _ _ c.loop-call-test.true c.call-item.is c.loop-call.invariant.counts made.line c.loop-call.invariant.text;
      counts = counted_more rs i c.call-item.result (count_of c.loop-call.counts) (count_of c.push_call.new.counts) c.loop-call-test.true c.call-item.is c.loop-call.invariant.counts made.counted.each;
    }
