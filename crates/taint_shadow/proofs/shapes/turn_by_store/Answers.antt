use Rattle.std.proofs.Common.{refl, arith, sym, ◌∙◌}
use Rattle.flow_model.specs.declared.Rule.TheVariants.{Index}
use Rattle.flow_model.specs.Flow.{lane, with_base}
use Rattle.taint_shadow.specs.Labels.{nothing_label}
use Rattle.taint_shadow.specs.Lanes.{clean}
use Rattle.taint_shadow.proofs.Meaning.{alike_at, keeps_itself, lane_here}
use Rattle.taint_shadow.proofs.Flows.{based_here, no_labels, stored}
use Rattle.taint_shadow.proofs.Targets.{bytes_clean, memory_turned}
use Rattle.taint_shadow.proofs.shapes.turn_by_store.Goals as goal

pub returns-then-is_clean_word : goal.returns-then-is_clean_word
returns-then-is_clean_word g c =
    let words = g.A.Labels.words in
    let laws = g.met.A.Labels.laws in
    let a = c.args.labels.now in
    let p = c.args.places.now in
    let r = c.args.rs in
    let base = c.args.base in
    let place = c.args.place in
    let size = c.args.size in
    let small = c.requires.registers in
    memory_turned words a a p p c.requires.standing (keeps_itself words a) place size (λ i. with_base Index base (lane r i)) clean c.ranges.place.fits c.requires.size.1
    (stored words laws a p c.requires.standing a r base size clean clean small.0 small.1 c.requires.size.1 (λ i h. alike_at nothing_label i h ∙ sym (c.if-is_clean.ensures refl i h))
    (no_labels words laws a p c.requires.standing base size small.1 (c.if-not-is_clean.ensures refl) c.requires.size.1))
    (λ i h. based_here base (lane r i) small.1 (lane_here r i small.0 (omega (arith, h, c.requires.size.1))))
    (bytes_clean p place size c.ranges.place.fits c.requires.size.1 (c.if-is_clean_word.ensures refl))
