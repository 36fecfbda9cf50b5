use Rattle.std.proofs.Common.{ap, ◌∙◌, List}
use Rattle.flow_model.specs.declared.SourceByte.{SourceByte}
use Rattle.lists.specs.Sets.{union}
use Rattle.answer_sets.proofs.Members.{ascends_in, compared}
use Rattle.answer_sets.proofs.Gathering.{merged_ascends, merged_more}
use Rattle.answer_sets.proofs.resolving.Gathered.merge.Goals as goal

pub merged-requires-clause-left : goal.merged-requires-clause-left
merged-requires-clause-left c = ascends_in _ (rw c.deref.ensures.value c.self.invariant)

pub merged-requires-clause-right : goal.merged-requires-clause-right
merged-requires-clause-right c = ascends_in _ c.requires

pub invariant_of-self : goal.invariant_of-self
invariant_of-self c = merged_ascends c.deref.result.now c.args.set.now c.shrink_to_fit.new.self.items (c.shrink_to_fit.ensures.items ∙ c.in_ok-self-inside.ensures) c.requires

pub returns : goal.returns
returns c = rw (← c.self.view_is) (λ b.
    let is = c.shrink_to_fit.ensures.items ∙ c.in_ok-self-inside.ensures ∙ ap (λ (xs : List SourceByte). union compared xs c.args.set.now) c.deref.ensures.value in
    merged_more c.self.inside.merged.items c.args.set.now c.shrink_to_fit.new.self.items is c.self.inside.waiting.items b)
