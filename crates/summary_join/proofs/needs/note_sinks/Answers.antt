use Rattle.std.proofs.Common.{◌∙◌, List, ap, length, map, subst}
use Rattle.std.proofs.lemmas.List.{take_all}
use Rattle.taint_shadow.specs.declared.labels.SinkLabel.{SinkLabel}
use Rattle.epoch_summary.specs.Summaries.{nodes_of}
use Rattle.summary_join.specs.Needs.{AreNoted}
use Rattle.summary_join.proofs.Noting.{room_with, sink_noted}
use Rattle.summary_join.proofs.needs.note_sinks.Goals as goal

pub loop-number-preserved : goal.loop-number-preserved
loop-number-preserved c =
    let a = c.args in
    let l = c.loop-number in
    record {
      room = ap length c.in_ok-note.ensures.marks ∙ room_with l.marks.items _ ∙ l.invariant.room;
      noted = λ nodes.
          sink_noted nodes a.marks.now.items a.asked.now l.marks.items l.asked c.note.new.marks.items c.note.new.asked l.number (nodes_of a.summary.now) c.sinks-sinks.result.now _ c.loop-number-test.true
          c.sinks-sinks.ensures.stand (l.invariant.room ∙ c.requires) (l.invariant.noted nodes) c.in_ok-note.ensures.marks c.in_ok-note.ensures.asked;
    }

pub returns-clause-noted : goal.returns-clause-noted
returns-clause-noted c = λ nodes.
    subst (λ (ks : List SinkLabel). AreNoted nodes (map (λ k. k.label) ks) c.args.marks.now.items c.args.asked.now c.loop-number.marks.items c.loop-number.asked)
    (take_all c.loop-number.number c.sinks-sinks.result.now c.loop-number-test.false ∙ c.sinks-sinks.ensures.sinks) (c.loop-number.invariant.noted nodes)
