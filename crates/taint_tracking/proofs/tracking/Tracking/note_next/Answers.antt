use Rattle.std.proofs.Common.{◌<◌, ◌+◌, length, get_or, refl, arith}
use Rattle.std.proofs.lemmas.List.{get_or_default}
use Rattle.flow_model.specs.declared.InnerSink.{InnerSink}
use Rattle.flow_model.specs.declared.Loc.TheVariants.{Reg}
use Rattle.report_model.proofs.Due.{left_ascend}
use Rattle.taint_tracking.proofs.Notes.{noted_stand}
use Rattle.taint_tracking.proofs.Between.{here_points}
use Rattle.taint_tracking.proofs.Following.{first_due, left_located}
use Rattle.taint_tracking.proofs.tracking.Tracking.note_next.Goals as goal

-- what stands at an index that is none
abbrev none : InnerSink
none = record { time = 0; loc = Reg 0 0 }

pub collect_due-requires-clause-none_before : goal.collect_due-requires-clause-none_before
collect_due-requires-clause-none_before g c =
    let points = c.args.self.now.points.now in
    let inside : 0 < length points = omega (arith, c.in-len1-up.len_at_least) in
    let first = get_or points 0 none in
    first_due points first inside (get_or_default points 0 none first inside) c.requires.sound.points

pub returns-clause-sound : goal.returns-clause-sound
returns-clause-sound g c =
    let t = c.args.self.now in
    let points = t.points.now in
    let time = (get_or points 0 none).time in
    let sound = c.requires.sound in
    let found = c.in_ok-self.ensures in
    let left = c.in_ok-self.field-0.now in
    record {
      locations = sound.locations;
      sinks = noted_stand g.L.Labels.words t.labels t.places time sound.locations _ (here_points time points sound.located) t.sinks.items _ found.noted sound.sinks;
      points = left_ascend (time + 1) (time + 1) left points refl found.later sound.points;
      located = left_located (time + 1) points left found.later sound.located;
      due = c.number_before-self.ensures;
    }
