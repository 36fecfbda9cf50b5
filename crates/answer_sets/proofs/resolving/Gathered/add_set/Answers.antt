use Rattle.std.proofs.Common.{ap, sym, ◌∙◌, List}
use Rattle.flow_model.specs.declared.SourceByte.{SourceByte}
use Rattle.lists.specs.Sets.{is_within}
use Rattle.answer_sets.proofs.Members.{ascends_in, compared}
use Rattle.answer_sets.proofs.Gathering.{within_more}
use Rattle.answer_sets.proofs.resolving.Gathered.add_set.Goals as goal

pub is_subset-requires-clause-few : goal.is_subset-requires-clause-few
is_subset-requires-clause-few c = ascends_in _ c.requires

pub is_subset-requires-clause-many : goal.is_subset-requires-clause-many
is_subset-requires-clause-many c = ascends_in _ (rw c.deref.ensures.value c.self-2.invariant)

pub returns-then-is_subset : goal.returns-then-is_subset
returns-then-is_subset c = rw (← c.self-2.view_is) (within_more c.args.set.now c.self-2.inside.merged.items c.self-2.inside.waiting.items c.self-2.invariant
    (ap (λ (xs : List SourceByte). is_within compared c.args.set.now xs) (sym c.deref.ensures.value) ∙ sym c.is_subset.ensures ∙ c.if-is_subset.true))
