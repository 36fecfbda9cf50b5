use Rattle.flow_rule.specs.declared.shape.Mixing.TheVariants.{EachLane}
use Rattle.flow_rule.specs.Shapes.{mixed_lanes}
use Rattle.taint_shadow.proofs.Flows.{mixed_here}
use Rattle.taint_shadow.proofs.Targets.{register_turned}
use Rattle.taint_shadow.proofs.shapes.mix_each.Goals as goal

pub returns : goal.returns
returns g c =
    let made = c.in_ok-lanes.ensures in
    register_turned g.A.Labels.words _ _ c.args.places.now _ c.requires.standing made.keeps c.args.rd (mixed_lanes EachLane c.args.rs1 c.args.rs2) c.in_ok-lanes.lanes
    made.made
    (λ i h. mixed_here EachLane c.args.rs1 c.args.rs2 i c.requires.registers.1 c.requires.registers.2 h) c.set_lanes.ensures
