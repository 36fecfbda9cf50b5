use Rattle.std.proofs.Common.{List, ap, sym, ◌∙◌, ◌||◌}
use Rattle.flow_model.specs.declared.SourceByte.{SourceByte}
use Rattle.flow_model.specs.Orders.{source_cmp}
use Rattle.lists.specs.Sets.{has, union}
use Rattle.answer_sets.proofs.Members.{ascends_in, ascends_by, members_by, compared}
use Rattle.answer_sets.proofs.Gathering.{merged_ascends, merged_has, has-both}
use Rattle.answer_sets.proofs.resolving.Gathered.into_set.Goals as goal

pub merged-requires-clause-left : goal.merged-requires-clause-left
merged-requires-clause-left c = ascends_in _ (rw c.deref.ensures.value c.self.invariant)

pub returns-clause-members : goal.returns-clause-members
returns-clause-members c = rw (← c.self.view_is) (λ b.
    let merged = c.self.inside.merged.items in
    let waiting = c.self.inside.waiting.items in
    let set = c.deref-2.result.now in
    let is = c.shrink_to_fit-2.ensures.items ∙ c.in_ok-all.ensures ∙ ap (λ (xs : List SourceByte). union compared xs set) c.deref.ensures.value in
    merged_has merged set c.shrink_to_fit-2.new.self.items is b
    ∙ ap (λ o. has source_cmp b merged || o) (members_by set waiting (λ x. ap (has compared x) c.deref-2.ensures.value ∙ c.ascend.ensures.members x) b)
    ∙ sym (has-both merged waiting b))

pub returns-clause-ascending : goal.returns-clause-ascending
returns-clause-ascending c = merged_ascends c.deref.result.now c.deref-2.result.now c.shrink_to_fit-2.new.self.items (c.shrink_to_fit-2.ensures.items ∙ c.in_ok-all.ensures) (rw c.deref-2.ensures.value (ascends_by _ c.ascend.ensures.ascending))
