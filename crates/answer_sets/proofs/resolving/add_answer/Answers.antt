use Rattle.std.proofs.Common.{sym, ◌∙◌, refl}
use Rattle.std.proofs.lemmas.Result.{on_ok_weaker}
use Rattle.answer_sets.proofs.Finding.{answer_none, answer_at}
use Rattle.answer_sets.proofs.Once.{none_added, again_added, set_added}
use Rattle.answer_sets.proofs.resolving.add_answer.Goals as goal

pub returns-in_default-clause-added : goal.returns-in_default-clause-added
returns-in_default-clause-added c =
    none_added c.args.gathered.now _ (answer_none c.args.asked.now c.args.answers.now c.args.loc (sym c.in_default.ensures.asked))

pub returns-then-set-lt-LARGE-clause-added : goal.returns-then-set-lt-LARGE-clause-added
returns-then-set-lt-LARGE-clause-added c =
    let is = c.get-set.ensures ∙ sym (answer_at c.args.asked.now c.args.answers.now c.in-Some.place c.args.loc c.form.ensures c.in-Some.ensures.place) in
    on_ok_weaker c.add_set.result (set_added c.args.gathered.now c.add_set.new.self c.get-set.result.now _ is) c.add_set.ensures

pub returns-then-share_one-clause-added : goal.returns-then-share_one-clause-added
returns-then-share_one-clause-added c =
    again_added c.args.answers.now c.args.large.now.items c.deref.result.now c.args.gathered.now _ _ c.requires.large c.deref.ensures.value
    (answer_at c.args.asked.now c.args.answers.now c.in-Some.place c.args.loc c.form.ensures c.in-Some.ensures.place) (c.if-share_one.ensures refl)

pub returns-then-len-eq-REMEMBERED-clause-added : goal.returns-then-len-eq-REMEMBERED-clause-added
returns-then-len-eq-REMEMBERED-clause-added c =
    let is = c.get-set.ensures ∙ sym (answer_at c.args.asked.now c.args.answers.now c.in-Some.place c.args.loc c.form.ensures c.in-Some.ensures.place) in
    on_ok_weaker c.add_set-then-len-eq-REMEMBERED.result (set_added c.args.gathered.now c.add_set-then-len-eq-REMEMBERED.new.self c.get-set.result.now _ is) c.add_set-then-len-eq-REMEMBERED.ensures

pub returns-clause-added : goal.returns-clause-added
returns-clause-added c =
    let is = c.get-set.ensures ∙ sym (answer_at c.args.asked.now c.args.answers.now c.in-Some.place c.args.loc c.form.ensures c.in-Some.ensures.place) in
    on_ok_weaker c.add_set-2.result (set_added c.args.gathered.now c.add_set-2.new.self c.get-set.result.now _ is) c.add_set-2.ensures
