use Rattle.std.proofs.Common.{sym, ◌∙◌, ap, Bool, List}
use Rattle.std.specs.Prelude.{◌||◌}
use Rattle.std.specs.List.{list_any}
use Rattle.report_model.specs.Query.{Choice, chooses}
use Rattle.query_lang.specs.Spans.{span_has}
use Rattle.query_lang.proofs.ChoiceLemmas.{chosen_is}
use Rattle.query_lang.proofs.chosen.Chosen.has.Goals as goal

pub returns-else-self : goal.returns-else-self
returns-else-self c =
    let fields = c.self.inside in
    let answer = list_any (span_has c.args.channel c.args.offset) in
    c.is_in_spans.ensures ∙ ap answer c.deref.ensures.value
    ∙ sym (chosen_is fields.all fields.spans.items c.args.channel c.args.offset ∙ ap (λ (b : Bool). b || answer fields.spans.items) c.if-self.false)
    ∙ ap (λ (xs : List Choice). chooses xs c.args.channel c.args.offset) c.self.view_is
