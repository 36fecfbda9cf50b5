use Rattle.std.proofs.Common.{[], ap, sym, ◌∙◌}
use Rattle.std.proofs.lemmas.List.{get_or-map}
use Rattle.sink_collect.proofs.Alike.{same_sources}
use Rattle.answer_sets.proofs.answers.number_of_equal.Goals as goal

pub returns-then-eq-clause-equal : goal.returns-then-eq-clause-equal
returns-then-eq-clause-equal c =
    get_or-map (λ set. set.items) c.args.sets.now c.loop-number.number c.index-sets-number.result [] c.loop-number-test.true
    ∙ ap (λ set. set.items) (sym c.index-sets-number.is)
    ∙ sym c.as_slice.ensures.value
    ∙ same_sources c.as_slice.result.now c.args.set.now (sym c.eq.ensures ∙ c.if-eq.true)
