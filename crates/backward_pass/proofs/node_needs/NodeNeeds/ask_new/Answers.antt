use Rattle.std.proofs.Common.{[], ap, sym, subst, ◌∙◌, ◌≡◌}
use Rattle.lists.specs.Sets.{Ascends, has}
use Rattle.flow_model.specs.declared.Loc.{Loc}
use Rattle.flow_model.specs.Orders.{loc_cmp}
use Rattle.flow_model.proofs.Derived.{loc_order_is}
use Rattle.epoch_model.specs.Crossing.{added_all}
use Rattle.backward_pass.specs.Needs.{AreCountedNow, AreInOrder, AreNeeds, HasNeed, HasStart, IsAmong}
use Rattle.backward_pass.proofs.Counting.{all_noted, are_ordered, root_asked, starts_asked}
use Rattle.backward_pass.proofs.node_needs.NodeNeeds.ask_new.Goals as goal

pub count_all-requires-clause-asked : goal.count_all-requires-clause-asked
count_all-requires-clause-asked c = λ n h.
    let a = c.args in
    let w = c.walk.new in
    let set = c.ascend.new.items.items in
    let members : (l : Loc) → has loc_cmp l set ≡ has loc_cmp l w.starts.items = λ l. subst (λ R. has R l set ≡ has R l w.starts.items) (sym loc_order_is) (c.ascend.ensures.members l) in
    let is = c.in_ok-add_all.ensures ∙ ap (added_all a.asked.now) c.deref.ensures.value in
    subst (λ ls. HasStart a.log.now ls n) (sym is)
    (starts_asked a.log.now a.root a.self.now.needs.items w.needs.items w.order.items w.starts.items set a.asked.now c.in_ok-walk.ensures.walked members c.requires.of_log n
    (subst (λ ns. IsAmong ns n) c.deref-2.ensures.value h))

pub count_all-requires-clause-ordered : goal.count_all-requires-clause-ordered
count_all-requires-clause-ordered c =
    let a = c.args in
    let w = c.walk.new in
    let set = c.ascend.new.items.items in
    let members : (l : Loc) → has loc_cmp l set ≡ has loc_cmp l w.starts.items = λ l. subst (λ R. has R l set ≡ has R l w.starts.items) (sym loc_order_is) (c.ascend.ensures.members l) in
    let is = c.in_ok-add_all.ensures ∙ ap (added_all a.asked.now) c.deref.ensures.value in
    subst (λ ns. AreInOrder a.log.now (HasNeed a.log.now c.add_all.new.asked w.needs.items) [] ns) (sym c.deref-2.ensures.value)
    (subst (λ ls. AreInOrder a.log.now (HasNeed a.log.now ls w.needs.items) [] w.order.items) (sym is)
    (are_ordered a.log.now a.root a.self.now.needs.items w.needs.items w.order.items w.starts.items set a.asked.now c.in_ok-walk.ensures.walked members c.requires.of_log))

pub returns-clause-of_log : goal.returns-clause-of_log
returns-clause-of_log c =
    let a = c.args in
    let w = c.walk.new in
    let set = c.ascend.new.items.items in
    let new = c.count_all.new.needs.items in
    let members : (l : Loc) → has loc_cmp l set ≡ has loc_cmp l w.starts.items = λ l. subst (λ R. has R l set ≡ has R l w.starts.items) (sym loc_order_is) (c.ascend.ensures.members l) in
    let is = c.in_ok-add_all.ensures ∙ ap (added_all a.asked.now) c.deref.ensures.value in
    let counted = subst (λ ns. AreCountedNow a.log.now (added_all a.asked.now set) ns w.needs.items new) c.deref-2.ensures.value
    (subst (λ ls. AreCountedNow a.log.now ls c.deref-2.result.now w.needs.items new) is c.in_ok-count_all.ensures.counted) in
    subst (λ ls. AreNeeds a.log.now ls new) (sym (c.in_ok-count_all.ensures.asked ∙ is))
    (all_noted a.log.now a.root a.self.now.needs.items w.needs.items w.order.items w.starts.items set a.asked.now c.in_ok-walk.ensures.walked members c.requires.of_log new counted)

pub returns-clause-asked : goal.returns-clause-asked
returns-clause-asked c =
    let a = c.args in
    let w = c.walk.new in
    let set = c.ascend.new.items.items in
    let new = c.count_all.new.needs.items in
    let members : (l : Loc) → has loc_cmp l set ≡ has loc_cmp l w.starts.items = λ l. subst (λ R. has R l set ≡ has R l w.starts.items) (sym loc_order_is) (c.ascend.ensures.members l) in
    let is = c.in_ok-add_all.ensures ∙ ap (added_all a.asked.now) c.deref.ensures.value in
    let counted = subst (λ ns. AreCountedNow a.log.now (added_all a.asked.now set) ns w.needs.items new) c.deref-2.ensures.value
    (subst (λ ls. AreCountedNow a.log.now ls c.deref-2.result.now w.needs.items new) is c.in_ok-count_all.ensures.counted) in
    c.in_ok-count_all.ensures.asked ∙ is
    ∙ root_asked a.log.now a.root a.self.now.needs.items w.needs.items w.order.items w.starts.items set a.asked.now c.in_ok-walk.ensures.walked members c.requires.of_log new counted
    c.in_ok-walk.ensures.root (subst (λ R. Ascends R set) (sym loc_order_is) c.ascend.ensures.ascending) (c.form.ensures.sets a.root).starts
