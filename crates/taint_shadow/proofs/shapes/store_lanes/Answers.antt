use Rattle.std.proofs.Common.{arith}
use Rattle.std.proofs.lemmas.Result.{on_ok_weaker}
use Rattle.flow_model.specs.declared.Rule.TheVariants.{Index}
use Rattle.flow_model.specs.Flow.{lane, with_base}
use Rattle.taint_shadow.proofs.Meaning.{lane_here, lanes_stand}
use Rattle.taint_shadow.proofs.Flows.{based_here, stored}
use Rattle.taint_shadow.proofs.Targets.{memory_turned}
use Rattle.taint_shadow.proofs.shapes.store_lanes.Goals as goal

pub add_base-requires-clause-lanes : goal.add_base-requires-clause-lanes
add_base-requires-clause-lanes g c = lanes_stand g.A.Labels.words g.met.A.Labels.laws _ _ c.requires.standing c.args.rs _ c.requires.registers.0 c.lanes.ensures

pub returns : goal.returns
returns g c =
    let words = g.A.Labels.words in
    let a = c.args.labels.now in
    let p = c.args.places.now in
    let r = c.args.rs in
    let base = c.args.base in
    let small = c.requires.registers in
    let made = c.in_ok-lanes.ensures in
    on_ok_weaker _ (λ set. memory_turned words a _ p _ c.requires.standing made.keeps c.args.place c.args.size (λ i. with_base Index base (lane r i)) c.in_ok-lanes.lanes c.ranges.place.fits c.requires.size.1
    (stored words g.met.A.Labels.laws a p c.requires.standing _ r base c.args.size c.lanes.result c.in_ok-lanes.lanes small.0 small.1 c.requires.size.1 c.lanes.ensures made)
    (λ i h. based_here base (lane r i) small.1 (lane_here r i small.0 (omega (arith, h, c.requires.size.1)))) set) c.set_word.ensures
