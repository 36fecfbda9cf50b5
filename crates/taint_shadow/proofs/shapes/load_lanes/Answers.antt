use Rattle.flow_rule.specs.Shapes.{loaded_lane}
use Rattle.taint_shadow.proofs.Flows.{word_stands, loaded, loaded_here}
use Rattle.taint_shadow.proofs.Targets.{register_turned}
use Rattle.taint_shadow.proofs.shapes.load_lanes.Goals as goal

pub add_base-requires-clause-lanes : goal.add_base-requires-clause-lanes
add_base-requires-clause-lanes g c = word_stands g.A.Labels.words g.met.A.Labels.laws _ c.args.places.now c.requires.standing c.args.place c.args.lanes c.requires.lanes

pub returns : goal.returns
returns g c =
    let words = g.A.Labels.words in
    let laws = g.met.A.Labels.laws in
    let a = c.args.labels.now in
    let p = c.args.places.now in
    let made = c.in_ok-lanes.ensures in
    register_turned words a _ p _ c.requires.standing made.keeps c.args.rd (loaded_lane c.args.fills c.args.base c.args.place c.args.size) c.extended.result
    (loaded words laws a p c.requires.standing _ c.args.fills c.args.base c.args.place c.args.size c.args.lanes c.in_ok-lanes.lanes c.extended.result c.requires.registers.1 c.requires.size.0 c.requires.size.1 c.requires.lanes made c.extended.ensures)
    (λ i h. loaded_here c.args.fills c.args.base c.args.place c.args.size i c.requires.registers.1) c.put_lanes.ensures
