use Rattle.std.proofs.Common.{ap, ◌∙◌}
use Rattle.std.specs.List.{list_any}
use Rattle.query_lang.specs.Spans.{span_has}
use Rattle.query_lang.proofs.ChoiceLemmas.{same_choices}
use Rattle.query_lang.proofs.chosen.Chosen.of.Goals as goal

pub returns : goal.returns
returns c =
    same_choices c.args.selection.all c.in_ok-spans.spans.items c.args.selection.spans.items
    (λ channel offset. c.in_ok-spans.ensures.same channel offset ∙ ap (list_any (span_has channel offset)) c.deref.ensures.value ∙ c.sort.ensures.same channel offset)
