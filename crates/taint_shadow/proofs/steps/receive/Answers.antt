use Rattle.std.proofs.Common.{rules, ◌≡◌, ◌≤◌, ◌+◌, ◌^◌, arith, subst}
use Rattle.report_model.specs.Query.{policy_of}
use Rattle.taint_shadow.specs.Steps.{Becomes, received}
use Rattle.taint_shadow.proofs.Received.{none_received, word_received}
use Rattle.taint_shadow.proofs.steps.receive.Goals as goal

pub loop-number-init : goal.loop-number-init
loop-number-init g c = record {
  within = omega arith;
  becomes = none_received g.A.Labels.words (policy_of c.args.query.now) c.args.call.now c.args.labels.now c.args.places.now c.requires.standing;
}

pub loop-number-preserved : goal.loop-number-preserved
loop-number-preserved g c =
    let size = c.min-size.result in
    let more = c.loop-number-test.true in
    let range = c.requires.in_range (omega (arith, more)) in
    let few : size ≤ 4 = search rules in
    let within : c.loop-number.number + size ≤ c.args.call.now.length = search rules in
    let inside : c.args.call.now.place + c.loop-number.number + size ≤ 2 ^ 32 = omega (arith, more, within, range.places) in
    record {
      within = within;
      becomes = word_received g.A.Labels.words (policy_of c.args.query.now) c.args.call.now _ _ _ _ c.loop-number.places _ c.loop-number.number size c.in_ok-lanes.lanes few within inside c.loop-number.invariant.becomes c.in_ok-lanes.ensures c.in_ok-set_word.ensures;
    }

pub returns : goal.returns
returns g c =
    let all : c.loop-number.number ≡ c.args.call.now.length = omega (arith, c.loop-number-test.false, c.loop-number.invariant.within) in
    subst (λ n. Becomes g.A.Labels.words c.args.labels.now c.args.places.now c.loop-number.labels c.loop-number.places (received g.A.Labels.words (policy_of c.args.query.now) c.args.call.now n)) all c.loop-number.invariant.becomes
