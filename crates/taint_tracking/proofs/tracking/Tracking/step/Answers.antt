use Rattle.std.proofs.Common.{refl, subst}
use Rattle.report_model.specs.Query.{Query, policy_of}
use Rattle.report_model.specs.Rows.{sinks_of_step}
use Rattle.taint_shadow.specs.Steps.{Holds, after}
use Rattle.taint_tracking.specs.declared.tracking.Tracking.{Tracking}
use Rattle.taint_tracking.specs.Sinks.{Notes, chosen}
use Rattle.taint_tracking.proofs.Notes.{noted_stand, labelled_kept}
use Rattle.taint_tracking.proofs.Between.{here_written}
use Rattle.taint_tracking.proofs.Following.{one_step}
use Rattle.taint_tracking.proofs.tracking.Tracking.step.Goals as goal

pub note_due-requires : goal.note_due-requires
note_due-requires g c =
    let words = g.L.Labels.words in
    let old = c.args.self.now in
    let sound = c.requires.sound in
    let number = c.args.step.now.number in
    let written = c.collect.new.sinks.items in
    let turned = c.in_ok-step.ensures in
    let here = here_written number old.query.now c.args.step.now.call in
    let stand = noted_stand words old.labels old.places number sound.locations _ here old.sinks.items written (c.in_ok-collect.ensures number) sound.sinks in
    record {
      sound = record {
        locations = turned.standing;
        sinks = labelled_kept words old.labels c.step.new.labels written turned.keeps stand;
        points = sound.points;
        located = sound.located;
        due = sound.due;
      };
    }

pub returns-clause-followed : goal.returns-clause-followed
returns-clause-followed g c trace at q first m course here =
    let words = g.L.Labels.words in
    let old = c.args.self.now in
    let step = c.args.step.now in
    let time = step.number in
    let written = c.collect.new.sinks.items in
    let turned : Tracking _ = record old { labels = c.step.new.labels; places = c.step.new.places; sinks = c.collect.new.sinks } in
    let noted = subst (λ (k : Query). Notes old.places (chosen k (sinks_of_step time step.call)) old.sinks.items written) here.query (c.in_ok-collect.ensures time) in
    let holds = subst (λ (k : Query). Holds words turned.labels turned.places (after words (policy_of k) step step.call (m time))) here.query (c.in_ok-step.ensures.holds (m time) here.found.holds) in
    one_step words q trace first time m course old here step at c.requires.in_range written turned c.note_due.new.self noted holds c.in_ok-step.ensures.keeps refl refl refl
    c.in_ok-note_due.ensures.noted c.in_ok-note_due.ensures.sound
