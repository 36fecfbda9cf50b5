use Rattle.std.proofs.Common.{subst}
use Rattle.flow_model.specs.Flow.{all_lanes}
use Rattle.flow_rule.specs.declared.shape.Mixing.TheVariants.{FirstLane}
use Rattle.flow_rule.specs.Shapes.{mixed_lanes}
use Rattle.taint_shadow.specs.declared.lanes.Lanes.{Lanes}
use Rattle.taint_shadow.specs.Lanes.{mixed_label}
use Rattle.taint_shadow.specs.Places.{kept, AreKept, with_lanes}
use Rattle.taint_shadow.specs.Steps.{meaning_at}
use Rattle.taint_shadow.proofs.Flows.{first_made, mixed_here}
use Rattle.taint_shadow.proofs.Targets.{register_turned}
use Rattle.taint_shadow.proofs.shapes.compare.Goals as goal

pub returns : goal.returns
returns g c =
    let words = g.A.Labels.words in
    let made = c.in_ok-label.ensures in
    let p = c.args.places.now in
    let r = c.args.rs1 in
    let s = c.args.rs2 in
    register_turned words _ _ p _ c.requires.standing made.keeps c.args.rd (mixed_lanes FirstLane r s) (mixed_label FirstLane c.in_ok-label.label)
    (first_made words g.met.A.Labels.laws _ (all_lanes r s 0) (meaning_at words c.args.labels.now p) c.in_ok-label.label made.made)
    (λ i h. mixed_here FirstLane r s i c.requires.registers.1 c.requires.registers.2 h)
    (subst (λ (x : Lanes). AreKept c.set_lanes.new.self (with_lanes c.args.rd x (kept p))) c.mixed.ensures c.set_lanes.ensures)
