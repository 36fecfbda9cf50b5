use Rattle.std.proofs.Common.{sym, ◌∙◌}
use Rattle.answer_sets.proofs.Finding.{answer_none, answer_at}
use Rattle.answer_sets.proofs.resolving.answer.Goals as goal

pub returns-in-Some : goal.returns-in-Some
returns-in-Some c =
    c.get.ensures ∙ sym (answer_at c.args.asked.now c.args.answers.now c.in-Some.place c.args.loc c.form.ensures c.in-Some.ensures.place)

pub returns-in-None : goal.returns-in-None
returns-in-None c = sym (answer_none c.args.asked.now c.args.answers.now c.args.loc (sym c.in-None.ensures.asked))
