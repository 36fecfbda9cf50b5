use Rattle.std.proofs.Common.{◌<◌, ◌∷◌, ◌++◌, [], ap, refl, sym, subst, ◌∙◌, slice_index, arith}
use Rattle.std.proofs.Math.ListN.{set}
use Rattle.backward_pass.proofs.Walks.{IsWalking, cost, note_cost, noted, popped, push_cost, pushed}
use Rattle.backward_pass.proofs.node_needs.walk.Goals as goal

pub loop-node-smaller-in-Continue-branch-3 : goal.loop-node-smaller-in-Continue-branch-3
loop-node-smaller-in-Continue-branch-3 c =
    let a = c.args in
    let l = c.loop-node in
    let o = c.in-Some-new_operand in
    let items = c.in_ok-push-in-Some-new_operand-2.ensures.items ∙ ap (λ s. s ++ o.operand ∷ []) c.in_ok-push-in-Some-new_operand.ensures.items in
    subst (λ s. cost l.needs.items s < cost l.needs.items l.stack.items) (sym items)
    (push_cost a.log.now c.form.ensures.log.ordered a.root a.needs.now.items l.needs.items l.order.items l.starts.items c.pop.new.self.items l.stack.items c.in-Some.node c.in-Some.ensures.items l.invariant o.operand o.ensures.before)

pub loop-node-preserved-in-Continue-branch-3 : goal.loop-node-preserved-in-Continue-branch-3
loop-node-preserved-in-Continue-branch-3 c =
    let a = c.args in
    let l = c.loop-node in
    let o = c.in-Some-new_operand in
    let items = c.in_ok-push-in-Some-new_operand-2.ensures.items ∙ ap (λ s. s ++ o.operand ∷ []) c.in_ok-push-in-Some-new_operand.ensures.items in
    subst (λ s. IsWalking a.log.now a.root a.needs.now.items l.needs.items s l.order.items l.starts.items) (sym items)
    (pushed a.log.now c.form.ensures.log.ordered a.root a.needs.now.items l.needs.items l.order.items l.starts.items c.pop.new.self.items l.stack.items c.in-Some.node c.in-Some.ensures.items l.invariant
    o.operand o.ensures.operand o.ensures.above_0 o.ensures.before (ap (λ ns. slice_index ns o.operand) (sym c.deref.ensures.value) ∙ o.ensures.new))

pub index_mut-requires : goal.index_mut-requires
index_mut-requires c =
    let a = c.args in
    let l = c.loop-node in
    let under = popped a.log.now c.form.ensures.log.ordered a.root a.needs.now.items l.needs.items l.order.items l.starts.items c.pop.new.self.items l.stack.items c.in-Some.node c.in-Some.ensures.items l.invariant in
    let stands = under.stands in
    omega (arith, stands, c.requires.room, l.invariant.walked.room, l.needs.ok)

pub note_start-requires-clause-above_0 : goal.note_start-requires-clause-above_0
note_start-requires-clause-above_0 c =
    let a = c.args in
    let l = c.loop-node in
    (popped a.log.now c.form.ensures.log.ordered a.root a.needs.now.items l.needs.items l.order.items l.starts.items c.pop.new.self.items l.stack.items c.in-Some.node c.in-Some.ensures.items l.invariant).above_0

pub note_start-requires-clause-stands : goal.note_start-requires-clause-stands
note_start-requires-clause-stands c =
    let a = c.args in
    let l = c.loop-node in
    (popped a.log.now c.form.ensures.log.ordered a.root a.needs.now.items l.needs.items l.order.items l.starts.items c.pop.new.self.items l.stack.items c.in-Some.node c.in-Some.ensures.items l.invariant).stands

pub loop-node-smaller : goal.loop-node-smaller
loop-node-smaller c =
    let a = c.args in
    let l = c.loop-node in
    note_cost a.log.now c.form.ensures.log.ordered a.root a.needs.now.items l.needs.items l.order.items l.starts.items c.pop.new.self.items l.stack.items c.in-Some.node c.in-Some.ensures.items l.invariant
    (omega (arith, c.requires.room, l.invariant.walked.room))

pub loop-node-preserved : goal.loop-node-preserved
loop-node-preserved c =
    let a = c.args in
    let l = c.loop-node in
    let start = c.in_ok-note_start-in-None.ensures in
    subst (λ ns. IsWalking a.log.now a.root a.needs.now.items (set l.needs.items c.in-Some.node 1) c.pop.new.self.items ns c.note_start.new.starts.items) (sym c.in_ok-push-in-None.ensures.items)
    (noted a.log.now c.form.ensures.log.ordered a.root a.needs.now.items l.needs.items l.order.items l.starts.items c.pop.new.self.items l.stack.items c.in-Some.node c.in-Some.ensures.items l.invariant
    (omega (arith, c.requires.room, l.invariant.walked.room)) c.note_start.new.starts.items
    (λ o h. subst (λ ns. 0 < slice_index ns o) c.deref.ensures.value (c.in-None.ensures.none refl o h)) start.found start.kept start.only)
