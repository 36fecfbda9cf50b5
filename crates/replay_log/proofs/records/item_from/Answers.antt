use Rattle.std.proofs.Common.{refl, ◌∙◌}
use Rattle.replay_log.proofs.Items.{tagged, is_left, read_is, cast_is}
use Rattle.replay_log.proofs.records.item_from.Goals as goal
use Rattle.replay_log.proofs.records.item_from.Goals.{in-Read+in_ok-from_slice-in-Read, in-Write+in_ok-from_slice-in-Write, in-Clock, in-Other, in-Exit, in-Trap, in-Limit}

pub bytes_read-requires-clause-left : goal.bytes_read-requires-clause-left
bytes_read-requires-clause-left c = is_left c.requires c.in-Read.is

pub returns : goal.returns
returns c =
    let h = c.requires in
    let fields = c.args.parts.now.fields.now in
    elim c.match-parts.branch [
      | in-Read+in_ok-from_slice-in-Read w ↦
          let outcome = cast_is fields w.cast_signed.result w.word_at.result w.word_at.type_inv w.cast_signed.ensures w.word_at.ensures in
          rw (w.item-is, w.arguments_of.ensures, outcome)
          (read_is h _ w.in-Read.is (w.from_vec.ensures ∙ w.in_ok-from_slice-in-Read.ensures.items ∙ w.bytes_read.ensures))
      | in-Write+in_ok-from_slice-in-Write w ↦
          let copy = w.from_vec-in-Write.ensures ∙ w.in_ok-from_slice-in-Write.ensures.items in
          let outcome = cast_is fields w.cast_signed-in-Write.result w.word_at-in-Write.result w.word_at-in-Write.type_inv w.cast_signed-in-Write.ensures w.word_at-in-Write.ensures in
          rw (w.item-is, w.arguments_of-in-Write.ensures, outcome, copy, h.bytes, tagged h w.in-Write.is, h.at, h.fields) refl
      | in-Clock w ↦ rw (w.item-is, w.long_at.ensures, tagged h w.in-Clock.is, h.at, h.fields) refl
      | in-Other w ↦ rw (w.item-is, w.word_at-in-Other.ensures, tagged h w.in-Other.is, h.at, h.fields) refl
      | in-Exit w ↦ rw (w.item-is, w.word_at-in-Exit.ensures, tagged h w.in-Exit.is, h.at, h.fields) refl
      | in-Trap w ↦ rw (w.item-is, w.word_at-in-Trap.ensures, w.word_at-in-Trap-2.ensures, tagged h w.in-Trap.is, h.at, h.fields) refl
      | in-Limit w ↦ rw (w.item-is, tagged h w.in-Limit.is, h.at) refl
    ]
