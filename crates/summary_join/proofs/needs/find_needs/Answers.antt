use Rattle.std.proofs.Common.{◌∙◌, ◌≡◌, ℕ, ◌+◌, Bool, List, ap, length, map, sym, subst, arith}
use Rattle.flow_model.specs.declared.Loc.{Loc}
use Rattle.merge_log.specs.declared.nodes.Entry.{Entry}
use Rattle.merge_log.specs.Log.{AreOrdered}
use Rattle.source_labels.specs.Words.{log_of}
use Rattle.epoch_summary.specs.Summaries.{nodes_of, sinks_of}
use Rattle.summary_join.specs.Labels.{IsMarked}
use Rattle.summary_join.specs.Needs.{AreLookedAt, AreNoted}
use Rattle.summary_join.proofs.Marking.{none_marked}
use Rattle.summary_join.proofs.Needing.{all_asked, all_needed}
use Rattle.summary_join.proofs.needs.find_needs.Goals as goal

pub note_all-requires : goal.note_all-requires
note_all-requires c = λ k d inside.
    let stands = c.requires k d inside in
    let room = (c.in_ok-note_sinks.ensures.noted (nodes_of c.args.summary.now)).keeps.room in
    let log_is = ap length (c.log-log.ensures ∙ ap log_of c.nodes.ensures) in
    omega (arith, stands, room, log_is, c.size.ensures, c.in_ok-marks.ensures.len, c.in_ok-marks.marks.ok)

pub look_through-requires : goal.look_through-requires
look_through-requires c =
    let room = (c.in_ok-note_sinks.ensures.noted (nodes_of c.args.summary.now)).keeps.room in
    let more = (c.in_ok-note_all.ensures (nodes_of c.args.summary.now)).keeps.room in
    omega (arith, room, more, c.size.ensures, c.in_ok-marks.ensures.len, c.in_ok-marks.marks.ok)

pub returns : goal.returns
returns c =
    let e = c.args.summary.now in
    let nodes = nodes_of e in
    let m0 = c.in_ok-marks.marks.items in
    let m1 = c.note_sinks.new.marks.items in
    let m2 = c.note_all.new.marks.items in
    let m3 = c.look_through.new.marks.items in
    let a1 = c.note_sinks.new.asked in
    let a2 = c.note_all.new.asked in
    let a3 = c.look_through.new.asked in
    let log_is = c.log-log.ensures ∙ ap log_of c.nodes.ensures in
    let length_is = ap length log_is in
    let room : length m0 ≡ length (log_of nodes) + 1 = omega (arith, length_is, c.size.ensures, c.in_ok-marks.ensures.len, c.in_ok-marks.marks.ok) in
    let ordered = subst (AreOrdered 1) log_is c.form.ensures.log.ordered in
    let first = subst (λ (ls : List Loc). AreNoted nodes (map (λ k. k.label) (sinks_of e)) m0 ls m1 a1) c.in_ok-asked.ensures (c.in_ok-note_sinks.ensures.noted nodes) in
    let second = c.in_ok-note_all.ensures nodes in
    let third = subst (λ (log : List Entry). AreLookedAt log 0 m2 a2 m3 a3) log_is c.in_ok-look_through.ensures in
    record {
      needed = all_needed e c.args.ends.now ordered m0 m1 m2 m3 a1 a2 a3 room first second third c.in_ok-note_sinks.ensures.stand c.requires;
      asked = all_asked e c.args.ends.now ordered m0 m1 m2 m3 a1 a2 a3 room first second third
          (subst (λ (marks : List Bool). (n : ℕ) → IsMarked marks n → ⊥) (sym (c.in_ok-marks.ensures.items_if_clones_equal (λ y same. same))) (none_marked c.size.result));
    }
