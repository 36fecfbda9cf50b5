use Rattle.std.proofs.Common.{◌∙◌, List, ap, length, subst}
use Rattle.std.proofs.lemmas.List.{take_all}
use Rattle.taint_shadow.specs.declared.labels.Label.{Label}
use Rattle.summary_join.specs.Needs.{AreNoted}
use Rattle.summary_join.proofs.Noting.{label_noted, room_with}
use Rattle.summary_join.proofs.needs.note_all.Goals as goal

pub loop-place-preserved : goal.loop-place-preserved
loop-place-preserved c =
    let a = c.args in
    let l = c.loop-place in
    record {
      room = ap length c.in_ok-note.ensures.marks ∙ room_with l.marks.items _ ∙ l.invariant.room;
      noted = λ nodes.
          label_noted nodes a.marks.now.items a.asked.now l.marks.items l.asked c.note.new.marks.items c.note.new.asked l.place a.labels.now _ c.loop-place-test.true
          c.requires l.invariant.room (l.invariant.noted nodes) c.in_ok-note.ensures.marks c.in_ok-note.ensures.asked;
    }

pub returns : goal.returns
returns c = λ nodes.
    subst (λ (ks : List Label). AreNoted nodes ks c.args.marks.now.items c.args.asked.now c.loop-place.marks.items c.loop-place.asked)
    (take_all c.loop-place.place c.args.labels.now c.loop-place-test.false) (c.loop-place.invariant.noted nodes)
