use Rattle.std.proofs.Common.{◌≡◌, ◌+◌, ◌<◌, ◌^◌, map, arith, sym, subst}
use Rattle.std.specs.List.{range_with_len}
use Rattle.report_model.specs.Rows.{sink_at}
use Rattle.taint_tracking.specs.Sinks.{Notes, chosen}
use Rattle.taint_tracking.proofs.Notes.{no_notes, more_notes, one_more_byte}
use Rattle.taint_tracking.proofs.sinks.collect_written.Goals as goal

pub loop-i-init : goal.loop-i-init
loop-i-init c t = no_notes c.args.places.now c.args.sinks.now.items

pub loop-i-preserved : goal.loop-i-preserved
loop-i-preserved c t =
    let q = c.args.query.now in
    let call = c.args.call.now in
    let places = c.args.places.now in
    let i = c.loop-i.i in
    let inside = (c.requires (omega (arith, c.loop-i-test.true))).places in
    let within : call.place + i < 2 ^ 32 = omega (arith, inside, c.loop-i-test.true) in
    subst (λ (ks : _). Notes places ks c.args.sinks.now.items c.collect_byte.new.sinks.items) (sym (one_more_byte q t call i within))
    (more_notes places _ _ c.args.sinks.now.items c.loop-i.sinks.items c.collect_byte.new.sinks.items (c.loop-i.invariant t) (c.in_ok-collect_byte.ensures t))

pub returns : goal.returns
returns c t =
    let q = c.args.query.now in
    let call = c.args.call.now in
    let whole : c.loop-i.i ≡ call.length = omega (arith, c.loop-i-test.false, c.loop-i.auto.i-end) in
    subst (λ n. Notes c.args.places.now (chosen q (map (sink_at t call) (range_with_len 0 n))) c.args.sinks.now.items c.loop-i.sinks.items) whole (c.loop-i.invariant t)
