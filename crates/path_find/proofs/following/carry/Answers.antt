use Rattle.std.proofs.Common.{◌<◌, ◌-◌, length, arith}
use Rattle.flow_model.proofs.Located.{target_located}
use Rattle.path_find.proofs.Tables.{label_stands, one_carried}
use Rattle.path_find.proofs.following.carry.Goals as goal

pub arrive-requires : goal.arrive-requires
arrive-requires c =
    let i = c.count-count.result - 1 - c.loop-done.done in
    let inside : i < length c.args.flow.now = omega (arith, c.count-count.ensures.value, c.loop-done-test.true) in
    (c.loop-done.invariant.keeps _ (label_stands c.args.nodes.now c.args.carriers.now c.args.flow.now c.first_labels-labels.result i inside c.first_labels-labels.ensures c.requires.standing c.requires.table)).stands

pub set-requires : goal.set-requires
set-requires c = target_located c.args.flow.now (c.count-count.result - 1 - c.loop-done.done) c.target-loc.result c.requires.table c.target-loc.ensures

pub loop-done-preserved : goal.loop-done-preserved
loop-done-preserved c = one_carried c.args.nodes.now c.args.carriers.now c.args.number c.args.flow.now c.first_labels-labels.result c.count-count.result c.loop-done.done c.loop-done.nodes c.loop-done.carriers
    c.arrive.new.self c.set.new.self c.target-loc.result c.in_ok-label.label c.count-count.ensures.value c.loop-done-test.true c.requires.table c.requires.standing c.first_labels-labels.ensures c.target-loc.ensures
    c.loop-done.invariant c.in_ok-label.ensures.made c.arrive.ensures.keeps c.in_ok-set.ensures
