use Rattle.std.proofs.Common.{rules, arith, w32, []}
use Rattle.std.proofs.lemmas.Int.{to_z-of_z}
use Rattle.log_model.specs.declared.CallRecord.TheVariants.{Write}
use Rattle.call_record.specs.Steps.{point_of}
use Rattle.call_record.specs.Tapes.{Adds}
use Rattle.call_record.proofs.Calls.{words_are, IsGot, write_got, write_records}
use Rattle.call_record.proofs.recorder.Recorder.write.Goals as goal
use Rattle.call_record.proofs.recorder.Recorder.write.Goals.{After-unless_refused-transfer}

got : (c : After-unless_refused-transfer)
    → IsGot c.args.source.now c.args.at [] (point_of c.args.self.now)
    (Write c.args.at c.args.call.now.args c.unless_refused-transfer.result.outcome
    c.unless_refused-transfer.result.bytes.now)
got c =
    let same = to_z-of_z w32 c.refusal-refusal.result (search rules) in
    write_got c.requires.waits (record {
      refused = c.refusal-refusal.result;
      channels = c.channels.result;
      part = c.written.result.now;
      refused_is = c.refusal-refusal.ensures;
      part_is = c.written.ensures.part;
      outcome_is = rw same at c.unless_refused-transfer.ensures.outcome;
      bytes_are = rw same at c.unless_refused-transfer.ensures.bytes;
    }) c.requires.safe (omega arith)
    (words_are c.args.call.now.args (search rules) (search rules) (search rules) (search rules)) c.unless_refused-transfer.ensures.are_bytes

pub add-requires : goal.add-requires
add-requires c =
    rw (to_z-of_z w32 c.unless_refused-transfer.result.outcome (search rules))
    ((got (goal.at.add-requires c).After-unless_refused-transfer).form)

pub returns : goal.returns
returns c =
    let outcome = c.unless_refused-transfer.result.outcome in
    let bytes = c.unless_refused-transfer.result.bytes.now in
    let same = to_z-of_z w32 outcome (search rules) in
    let adds : Adds c.args.self.now.tape (Write c.args.at c.args.call.now.args outcome bytes) c.add.new.self = rw same
    at c.in_ok-add.ensures in
    let after = rw same at c.answer.ensures in
    write_records c.requires.waits (got (goal.at.returns c).After-unless_refused-transfer) after adds
