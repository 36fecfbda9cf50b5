use Rattle.std.proofs.Common.{arith, sym, subst}
use Rattle.flow_rule.specs.Shapes.{mixed_lanes}
use Rattle.taint_shadow.specs.declared.lanes.Lanes.{Lanes}
use Rattle.taint_shadow.specs.Lanes.{mixed_label}
use Rattle.taint_shadow.specs.Places.{kept, AreKept, with_lanes}
use Rattle.taint_shadow.proofs.Meaning.{lane_made}
use Rattle.taint_shadow.proofs.Flows.{alike_mixed, mixed_here}
use Rattle.taint_shadow.proofs.Targets.{register_turned}
use Rattle.taint_shadow.proofs.shapes.mix.Goals as goal

pub unite-requires-clause-left : goal.unite-requires-clause-left
unite-requires-clause-left g c =
    (lane_made g.A.Labels.words g.met.A.Labels.laws _ _ c.requires.standing c.args.rs1 0 c.in-Some.one c.requires.registers.1 (omega arith) (sym (c.in-Some.ensures 0 (omega arith)))).stands

pub unite-requires-clause-right : goal.unite-requires-clause-right
unite-requires-clause-right g c =
    (lane_made g.A.Labels.words g.met.A.Labels.laws _ _ c.requires.standing c.args.rs2 0 c.in-Some-one_label.other c.requires.registers.2 (omega arith) (sym (c.in-Some-one_label.ensures 0 (omega arith)))).stands

pub returns-in-Some-one_label : goal.returns-in-Some-one_label
returns-in-Some-one_label g c =
    let words = g.A.Labels.words in
    let m = c.args.mixing in
    let r = c.args.rs1 in
    let s = c.args.rs2 in
    let made = c.in_ok-label.ensures in
    let label = c.in_ok-label.label in
    let small = c.requires.registers in
    let p = c.args.places.now in
    register_turned words _ _ p _ c.requires.standing made.keeps c.args.rd (mixed_lanes m r s) (mixed_label m label)
    (alike_mixed words g.met.A.Labels.laws _ p c.requires.standing _ m r s c.in-Some.one c.in-Some-one_label.other label small.1 small.2 c.in-Some.ensures c.in-Some-one_label.ensures made.made)
    (λ i h. mixed_here m r s i small.1 small.2 h)
    (subst (λ (x : Lanes). AreKept c.put_lanes.new.self (with_lanes c.args.rd x (kept p))) c.mixed.ensures c.put_lanes.ensures)
