use Rattle.std.proofs.Common.{rules, w32, arith, sym}
use Rattle.std.proofs.lemmas.Int.{to_z-of_z}
use mir.Val.{SFits}
use Rattle.log_model.specs.declared.CallRecord.TheVariants.{Read, Write, Clock, Other}
use Rattle.replay_model.proofs.Sizes.{records_fit_text}
use Rattle.replay_run.proofs.Counting.{after_read, after_write, after_clock, after_other, read_room, write_room}
use Rattle.replay_run.proofs.Answering.{answering, answered_is}
use Rattle.replay_run.proofs.run.Run.answer.Goals as goal
use Rattle.replay_run.proofs.run.Run.answer.Goals.{in-Read, in-Write, in-Clock, in-Other}

pub overflow_add-self-2 : goal.overflow_add-self-2
overflow_add-self-2 c = let within = c.self.invariant.within in omega (arith, c.self.invariant.small, records_fit_text c.self.inside.log.now)

pub count-offset-requires : goal.count-offset-requires
count-offset-requires c some =
    let i = c.self.inside in
    let answers = answering i.log.now i.time i.done i.machine c.args.self.now c.self.view_is c.left-left.result.now c.call-item.result
    c.requires.due c.left-left.ensures c.in-len1-up.len_at_least c.call-item.is in
    let a = answers (Read c.in-Read.at c.in-Read.args c.in-Read.moved c.in-Read.bytes) c.in-Read.is in
    let few = (a.answers.2 (omega arith)).channel in
    let room = read_room i.log.now i.time i.done i.read i.written c.self.invariant c.in-Read.at c.in-Read.args c.in-Read.moved c.in-Read.bytes a.front few in
    (omega (arith, few, c.self.invariant.form.inputs), omega arith)

pub count-offset-requires-in-Write : goal.count-offset-requires-in-Write
count-offset-requires-in-Write c some =
    let i = c.self.inside in
    let answers = answering i.log.now i.time i.done i.machine c.args.self.now c.self.view_is c.left-left.result.now c.call-item.result
    c.requires.due c.left-left.ensures c.in-len1-up.len_at_least c.call-item.is in
    let a = answers (Write c.in-Write.at c.in-Write.args c.in-Write.moved c.in-Write.bytes) c.in-Write.is in
    let few = (a.answers.2 (omega arith)).channel in
    let room = write_room i.log.now i.time i.done i.read i.written c.self.invariant c.in-Write.at c.in-Write.args c.in-Write.moved c.in-Write.bytes
    a.front few in
    (few, omega arith)

pub invariant_of-self-2 : goal.invariant_of-self-2
invariant_of-self-2 c =
    let i = c.self.inside in
    let answers = answering i.log.now i.time i.done i.machine c.args.self.now c.self.view_is c.left-left.result.now c.call-item.result
    c.requires.due c.left-left.ensures c.in-len1-up.len_at_least c.call-item.is in
    elim c.match-call.branch [
      | in-Read w ↦
          let a = answers (Read w.in-Read.at w.in-Read.args w.in-Read.moved w.in-Read.bytes) w.in-Read.is in
          let counted = after_read i.log.now i.time i.done i.read i.written c.self.invariant w.in-Read.at w.in-Read.args w.in-Read.moved w.in-Read.bytes
          a.front a.now c.self.told.0 (λ h. omega (arith, (a.answers.2 h).channel, c.self.invariant.form.inputs)) in
          rw (w.self-inside-is, w.count-offset.ensures.counted, w.len.ensures) counted
      | in-Write w ↦
          let a = answers (Write w.in-Write.at w.in-Write.args w.in-Write.moved w.in-Write.bytes) w.in-Write.is in
          let counted = after_write i.log.now i.time i.done i.read i.written c.self.invariant w.in-Write.at w.in-Write.args w.in-Write.moved w.in-Write.bytes
          a.front a.now c.self.told.1 (λ h. (a.answers.2 h).channel) in
          rw (w.self-inside-is, w.count-offset-in-Write.ensures.counted, w.len-in-Write.ensures) counted
      | in-Clock w ↦
          let a = answers (Clock w.in-Clock.at w.in-Clock.value) w.in-Clock.is in
          rw w.self-inside-is (after_clock i.log.now i.time i.done i.read i.written c.self.invariant w.in-Clock.at w.in-Clock.value a.front a.now)
      | in-Other w ↦
          let a = answers (Other w.in-Other.at w.in-Other.number) w.in-Other.is in
          rw w.self-inside-is (after_other i.log.now i.time i.done i.read i.written c.self.invariant w.in-Other.at w.in-Other.number a.front a.now)
    ]

pub returns-clause-after : goal.returns-clause-after
returns-clause-after c =
    let i = c.self.inside in
    let answers = answering i.log.now i.time i.done i.machine c.args.self.now c.self.view_is c.left-left.result.now c.call-item.result
    c.requires.due c.left-left.ensures c.in-len1-up.len_at_least c.call-item.is in
    let is = answered_is i.log.now i.time i.done i.machine c.args.self.now c.self.view_is in
    elim c.match-call.branch [
      | in-Read w ↦
          let r = Read w.in-Read.at w.in-Read.args w.in-Read.moved w.in-Read.bytes in
          let a = answers r w.in-Read.is in
          let fits : SFits w32 w.in-Read.moved = search rules in
          let after = rw (w.self-inside-is, w.answer-is, to_z-of_z w32 w.in-Read.moved fits, w.as_slice.ensures, sym a.answers.1) at c.answer-2.ensures in
          rw w.self-inside-is (is r c.answer-2.new.self a.front after)
      | in-Write w ↦
          let r = Write w.in-Write.at w.in-Write.args w.in-Write.moved w.in-Write.bytes in
          let a = answers r w.in-Write.is in
          let fits : SFits w32 w.in-Write.moved = search rules in
          let after = rw (w.self-inside-is, w.answer-is, to_z-of_z w32 w.in-Write.moved fits) at c.answer-2.ensures in
          rw w.self-inside-is (is r c.answer-2.new.self a.front after)
      | in-Clock w ↦
          let r = Clock w.in-Clock.at w.in-Clock.value in
          let a = answers r w.in-Clock.is in
          rw w.self-inside-is (is r c.answer-2.new.self a.front (rw (w.self-inside-is, w.answer-is) at c.answer-2.ensures))
      | in-Other w ↦
          let r = Other w.in-Other.at w.in-Other.number in
          let a = answers r w.in-Other.is in
          rw w.self-inside-is (is r c.answer-2.new.self a.front (rw (w.self-inside-is, w.answer-is) at c.answer-2.ensures))
    ]
