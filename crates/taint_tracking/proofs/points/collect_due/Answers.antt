use Rattle.std.proofs.Common.{◌≤◌, ◌-◌, map, drop, length, get_or, sym, subst, ◌∙◌, arith}
use Rattle.std.proofs.lemmas.List.{take_all, length-drop, get_or_default}
use Rattle.flow_model.specs.declared.InnerSink.{InnerSink}
use Rattle.flow_model.specs.declared.Loc.TheVariants.{Reg}
use Rattle.report_model.specs.Rows.{point_sink}
use Rattle.report_model.proofs.Due.{AreAfter, after_due, after_all, due_are, later_are, turn_more, later_more, sinks_more}
use Rattle.taint_tracking.specs.Sinks.{Notes}
use Rattle.taint_tracking.proofs.Notes.{more_notes}
use Rattle.taint_tracking.proofs.points.collect_due.Goals as goal
use Rattle.taint_tracking.proofs.points.collect_due.Goals.{then-loop-due-test+else-points-due, else-loop-due-test}

-- what stands at an index that is none
abbrev none : InnerSink
none = record { time = 0; loc = Reg 0 0 }

pub loop-due-preserved : goal.loop-due-preserved
loop-due-preserved c =
    let time = c.args.time in
    let points = c.args.points.now in
    let places = c.args.places.now in
    let due = c.loop-due.due in
    let before = c.loop-due.invariant in
    let inside = c.loop-due-test.true in
    let first = get_or points due none in
    let here = get_or_default points due none first inside in
    let more = c.in_ok-collect_point.ensures in
    record {
      within = omega (arith, inside);
      noted = subst (λ ks. Notes places ks c.args.sinks.now.items c.collect_point.new.sinks.items) (sym (sinks_more time points due first inside here))
          (more_notes places _ _ c.args.sinks.now.items c.loop-due.sinks.items c.collect_point.new.sinks.items before.noted more);
      turn = turn_more time points due first inside here c.if-points-due.true before.turn;
      later = later_more time points due first inside here c.if-points-due.true before.later;
    }

pub returns : goal.returns
returns c =
    let time = c.args.time in
    let points = c.args.points.now in
    let due = c.loop-due.due in
    -- where the loop ends, all points that are left are later
    let after : AreAfter time (drop due points) = elim c.loop-due-test.branch [
      | then-loop-due-test+else-points-due w ↦
          let inside = w.loop-due-test.true in
          let first = get_or points due none in
          let not_sooner = c.requires.none_before due none inside in
          let not_now = w.if-points-due.false in
          after_due time points due first inside (get_or_default points due none first inside) c.requires.ascending (omega (arith, not_sooner, not_now))
      | else-loop-due-test w ↦ after_all time points due w.loop-due-test.false
    ] in
    let long : length (drop due points) ≤ length points - due = omega (arith, length-drop due points) in
    record {
      noted = subst (λ ps. Notes c.args.places.now (map point_sink ps) c.args.sinks.now.items c.loop-due.sinks.items) (sym (due_are time points due after c.loop-due.invariant.turn)) c.loop-due.invariant.noted;
      later = take_all (length points - due) (drop due points) long ∙ later_are time points due after c.loop-due.invariant.later;
    }
