use Rattle.std.proofs.Common.{rules, arith, ◌∙◌, w32, ap, []}
use Rattle.std.proofs.lemmas.Int.{to_z-of_z}
use Rattle.log_model.specs.declared.CallRecord.TheVariants.{Read}
use Rattle.record_model.specs.Recorded.{part_of}
use Rattle.call_record.specs.Sources.{contents}
use Rattle.call_record.specs.Steps.{point_of}
use Rattle.call_record.specs.Tapes.{Adds}
use Rattle.call_record.proofs.Calls.{words_are, IsGot, IsRead, read_got, read_counts, read_moves, read_records}
use Rattle.call_record.proofs.recorder.Recorder.read.Goals as goal
use Rattle.call_record.proofs.recorder.Recorder.read.Goals.{After-unless_refused-transfer}

computed : (c : After-unless_refused-transfer)
    → IsRead c.args.source.now c.args.self.now c.args.call.now c.unless_refused-transfer.result.outcome
    c.unless_refused-transfer.result.bytes.now
computed c =
    let source = c.args.source.now in
    let same = to_z-of_z w32 c.refusal-refusal.result (search rules) in
    record {
      refused = c.refusal-refusal.result;
      channels = c.channels.result;
      part = c.part.result.now;
      refused_is = c.refusal-refusal.ensures;
      channels_are = c.channels.ensures;
      part_is = c.part.ensures.part ∙ ap (λ n. part_of (contents source.inputs.now) source.piece n c.args.call.now.args)
          c.count_of-offset.ensures;
      outcome_is = rw same at c.unless_refused-transfer.ensures.outcome;
      bytes_are = rw same at c.unless_refused-transfer.ensures.bytes;
    }

got : (c : After-unless_refused-transfer)
    → IsGot c.args.source.now c.args.at [] (point_of c.args.self.now)
    (Read c.args.at c.args.call.now.args c.unless_refused-transfer.result.outcome
    c.unless_refused-transfer.result.bytes.now)
got c =
    read_got c.requires.waits (computed c) c.requires.source c.requires.safe (omega arith)
    (words_are c.args.call.now.args (search rules) (search rules) (search rules) (search rules)) c.unless_refused-transfer.ensures.are_bytes

pub count-requires : goal.count-requires
count-requires c =
    let at = (goal.at.count-requires c).After-unless_refused-transfer in
    read_counts c.requires.waits (computed at) c.requires.source c.requires.safe (got at).form

pub add-requires : goal.add-requires
add-requires c =
    rw (to_z-of_z w32 c.unless_refused-transfer.result.outcome (search rules))
    ((got (goal.at.add-requires c).After-unless_refused-transfer).form)

pub answer-requires-clause-answers : goal.answer-requires-clause-answers
answer-requires-clause-answers c =
    let at = (goal.at.answer-requires-clause-answers c).After-unless_refused-transfer in
    (c.requires.waits.kind_is, λ some. (read_moves c.requires.waits (computed at) (got at).form some).held)

pub returns : goal.returns
returns c =
    let outcome = c.unless_refused-transfer.result.outcome in
    let bytes = c.unless_refused-transfer.result.bytes.now in
    let same = to_z-of_z w32 outcome (search rules) in
    let adds : Adds c.args.self.now.tape (Read c.args.at c.args.call.now.args outcome bytes) c.add.new.self = rw same at
    c.in_ok-add.ensures in
    let after = rw same at c.answer.ensures in
    read_records c.requires.waits (got (goal.at.returns c).After-unless_refused-transfer) after c.count.ensures adds
