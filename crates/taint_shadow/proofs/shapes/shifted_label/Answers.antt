use Rattle.std.proofs.Common.{refl, arith}
use Rattle.std.proofs.lemmas.Result.{IfOk-weaker}
use Rattle.flow_model.specs.Flow.{lane, lanes, shifted_lanes}
use Rattle.taint_shadow.specs.Steps.{MakesOver}
use Rattle.taint_shadow.proofs.Meaning.{lane_here, lanes_here, lane_made, made_kept, makes_itself, unite_made, both_made}
use Rattle.taint_shadow.proofs.shapes.shifted_label.Goals as goal

pub unite-requires-clause-left : goal.unite-requires-clause-left
unite-requires-clause-left g c = c.in_ok-all.ensures.made.stands

pub unite-requires-clause-right : goal.unite-requires-clause-right
unite-requires-clause-right g c =
    let low = lane_made g.A.Labels.words g.met.A.Labels.laws _ _ c.requires.standing c.args.rs2 0 c.lanes.result.first c.requires.registers.1 (omega arith) (c.lanes.ensures 0 (omega arith)) in
    (c.in_ok-all.ensures.keeps _ low.stands).stands

pub returns : goal.returns
returns g c =
    let words = g.A.Labels.words in
    let laws = g.met.A.Labels.laws in
    let a = c.args.labels.now in
    let p = c.args.places.now in
    let r = c.args.rs1 in
    let s = c.args.rs2 in
    let all = c.in_ok-all.ensures in
    let low = lane_made words laws a p c.requires.standing s 0 c.lanes.result.first c.requires.registers.1 (omega arith) (c.lanes.ensures 0 (omega arith)) in
    let amount = makes_itself words _ _ c.lanes.result.first (made_kept words a _ _ c.lanes.result.first all.keeps low) in
    IfOk-weaker _ _ (MakesOver words a p (shifted_lanes r s 0) c.unite.new.labels) (λ label made.
    let both = unite_made words _ _ _ _ _ _ label _ _ all amount made in
    record {
      made = both_made words laws a p c.requires.standing _ (lanes r) (lane s 0) _ _ label (lanes_here r c.requires.registers.0) (lane_here s 0 c.requires.registers.1 (omega arith)) refl refl both.made;
      keeps = both.keeps;
    }) c.unite.ensures
