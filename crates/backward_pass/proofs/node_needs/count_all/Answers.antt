use Rattle.std.proofs.Common.{ap, sym, subst, ◌∙◌, slice_index, arith}
use Rattle.std.proofs.lemmas.List.{take_all}
use Rattle.lists.specs.Sets.{has}
use Rattle.flow_model.specs.Orders.{loc_cmp}
use Rattle.merge_log.specs.Log.{terms}
use Rattle.backward_pass.specs.Needs.{AreCountedNow, IsNeed}
use Rattle.backward_pass.proofs.Counting.{among_at, one_counted, operands_have}
use Rattle.backward_pass.proofs.node_needs.count_all.Goals as goal

pub need_of-requires-clause-above_0 : goal.need_of-requires-clause-above_0
need_of-requires-clause-above_0 c = (c.requires.nodes _ (among_at c.args.order.now c.loop-number.number c.loop-number-test.true)).0

pub need_of-requires-clause-stands : goal.need_of-requires-clause-stands
need_of-requires-clause-stands c = (c.requires.nodes _ (among_at c.args.order.now c.loop-number.number c.loop-number-test.true)).1

pub need_of-requires-clause-start : goal.need_of-requires-clause-start
need_of-requires-clause-start c = λ l at.
    ap (has loc_cmp l) c.loop-number.invariant.0 ∙ c.requires.asked _ (among_at c.args.order.now c.loop-number.number c.loop-number-test.true) l at

pub need_of-requires-clause-operands : goal.need_of-requires-clause-operands
need_of-requires-clause-operands c = λ o h.
    let a = c.args in
    let l = c.loop-number in
    subst (λ ls. IsNeed ls (terms a.log.now o).starts (slice_index c.deref.result.now o)) (sym l.invariant.0)
    (subst (λ ns. IsNeed a.asked.now (terms a.log.now o).starts (slice_index ns o)) (sym c.deref.ensures.value)
    (operands_have a.log.now a.asked.now a.order.now a.needs.now.items l.needs.items l.number c.loop-number-test.true l.invariant.1 c.requires.ordered o h))

pub index_mut-requires : goal.index_mut-requires
index_mut-requires c =
    let l = c.loop-number in
    let stands = (c.requires.nodes _ (among_at c.args.order.now l.number c.loop-number-test.true)).1 in
    omega (arith, stands, c.requires.room, l.invariant.1.room, l.needs.ok)

pub loop-number-preserved : goal.loop-number-preserved
loop-number-preserved c =
    let a = c.args in
    let l = c.loop-number in
    let stands = (c.requires.nodes _ (among_at a.order.now l.number c.loop-number-test.true)).1 in
    let same = c.in_ok-need.ensures.asked ∙ l.invariant.0 in (
      same,
      one_counted a.log.now a.asked.now a.order.now a.needs.now.items l.needs.items l.number c.loop-number-test.true l.invariant.1 c.in_ok-need.need
          (omega (arith, stands, c.requires.room, l.invariant.1.room))
          (subst (λ ls. IsNeed ls (terms a.log.now (slice_index a.order.now l.number)).starts c.in_ok-need.need) same c.in_ok-need.ensures.need),
    )

pub returns : goal.returns
returns c =
    let a = c.args in
    let l = c.loop-number in
    record {
      counted = subst (λ ns. AreCountedNow a.log.now a.asked.now ns a.needs.now.items l.needs.items) (take_all l.number a.order.now c.loop-number-test.false) l.invariant.1;
      asked = l.invariant.0;
    }
