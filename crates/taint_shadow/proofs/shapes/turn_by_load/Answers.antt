use Rattle.std.proofs.Common.{refl, ap, sym, ◌∙◌}
use Rattle.flow_rule.specs.Shapes.{loaded_lane}
use Rattle.taint_shadow.specs.declared.lanes.Lanes.{Lanes}
use Rattle.taint_shadow.specs.Lanes.{lane_at, clean}
use Rattle.taint_shadow.proofs.Meaning.{keeps_itself}
use Rattle.taint_shadow.proofs.Flows.{clean_cut, no_labels, loaded, loaded_here}
use Rattle.taint_shadow.proofs.Targets.{register_turned}
use Rattle.taint_shadow.proofs.shapes.turn_by_load.Goals as goal

pub returns-then-are_clean : goal.returns-then-are_clean
returns-then-are_clean g c =
    let words = g.A.Labels.words in
    let laws = g.met.A.Labels.laws in
    let a = c.args.labels.now in
    let p = c.args.places.now in
    let base = c.args.base in
    let place = c.args.place in
    let size = c.args.size in
    let small = c.requires.registers.1 in
    register_turned words a a p _ c.requires.standing (keeps_itself words a) c.args.rd (loaded_lane c.args.fills base place size) clean
    (loaded words laws a p c.requires.standing a c.args.fills base place size clean clean clean small c.requires.size.0 c.requires.size.1
    (λ i h. ap (λ (x : Lanes). lane_at x i) (sym (c.if-are_clean.ensures refl)) ∙ c.in-Some.ensures i h)
    (no_labels words laws a p c.requires.standing base size small (c.if-not-is_clean.ensures refl) c.requires.size.1)
    (clean_cut words laws size c.args.fills c.requires.size.0 c.requires.size.1))
    (λ i h. loaded_here c.args.fills base place size i small) c.clear.ensures
