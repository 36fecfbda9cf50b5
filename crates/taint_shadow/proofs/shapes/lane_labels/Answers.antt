use Rattle.std.proofs.lemmas.Result.{IfOk-weaker}
use Rattle.flow_model.specs.Flow.{lane, each_lane}
use Rattle.taint_shadow.specs.Steps.{MakesFrom}
use Rattle.taint_shadow.specs.Lanes.{lane_at}
use Rattle.taint_shadow.proofs.Meaning.{lane_here, lane_made, lanes_stand, both_made}
use Rattle.taint_shadow.proofs.shapes.lane_labels.Goals as goal

pub unite_lanes-requires-clause-one : goal.unite_lanes-requires-clause-one
unite_lanes-requires-clause-one g c = lanes_stand g.A.Labels.words g.met.A.Labels.laws _ _ c.requires.standing c.args.rs1 _ c.requires.registers.0 c.lanes.ensures

pub unite_lanes-requires-clause-other : goal.unite_lanes-requires-clause-other
unite_lanes-requires-clause-other g c = lanes_stand g.A.Labels.words g.met.A.Labels.laws _ _ c.requires.standing c.args.rs2 _ c.requires.registers.1 c.lanes-2.ensures

pub returns : goal.returns
returns g c =
    let words = g.A.Labels.words in
    let laws = g.met.A.Labels.laws in
    let a = c.args.labels.now in
    let p = c.args.places.now in
    let r = c.args.rs1 in
    let s = c.args.rs2 in
    IfOk-weaker _ _ (MakesFrom words a p (each_lane r s) c.unite_lanes.new.labels) (λ z lanes. record {
      made = λ i h.
          let one = lane_made words laws a p c.requires.standing r i (lane_at c.lanes.result i) c.requires.registers.0 h (c.lanes.ensures i h) in
          let other = lane_made words laws a p c.requires.standing s i (lane_at c.lanes-2.result i) c.requires.registers.1 h (c.lanes-2.ensures i h) in
          both_made words laws a p c.requires.standing _ (lane r i) (lane s i) _ _ _ (lane_here r i c.requires.registers.0 h) (lane_here s i c.requires.registers.1 h)
          one.means other.means (lanes.made i h);
      keeps = lanes.keeps;
    }) c.unite_lanes.ensures
