use Rattle.flow_rule.specs.declared.shape.Mixing.TheVariants.{ShiftedLanes}
use Rattle.flow_rule.specs.Shapes.{mixed_lanes}
use Rattle.taint_shadow.specs.Lanes.{alike}
use Rattle.taint_shadow.proofs.Flows.{alike_made, mixed_here}
use Rattle.taint_shadow.proofs.Targets.{register_turned}
use Rattle.taint_shadow.proofs.shapes.shift.Goals as goal

pub returns : goal.returns
returns g c =
    let made = c.in_ok-label.ensures in
    register_turned g.A.Labels.words _ _ c.args.places.now _ c.requires.standing made.keeps c.args.rd (mixed_lanes ShiftedLanes c.args.rs1 c.args.rs2) (alike c.in_ok-label.label)
    (alike_made g.A.Labels.words g.met.A.Labels.laws _ _ c.in_ok-label.label made.made)
    (λ i h. mixed_here ShiftedLanes c.args.rs1 c.args.rs2 i c.requires.registers.1 c.requires.registers.2 h) c.set_alike.ensures
