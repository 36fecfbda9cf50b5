use Rattle.std.proofs.Common.{◌≡◌, [], ap, sym, subst, ◌∙◌, List}
use Rattle.std.proofs.lemmas.Result.{IfOk-weaker}
use Rattle.flow_model.specs.declared.Loc.{Loc}
use Rattle.flow_model.specs.Orders.{source_cmp}
use Rattle.flow_model.specs.Origins.{union_over}
use Rattle.flow_model.proofs.Orders.{source_total}
use Rattle.lists.specs.Sets.{Ascends, union}
use Rattle.lists.proofs.Algebra.{union-nil}
use Rattle.epoch_model.specs.Join.{answer_to, resolved}
use Rattle.answer_sets.proofs.Each.{none_in}
use Rattle.answer_sets.proofs.Finding.{ascends_answer}
use Rattle.answer_sets.proofs.sink_rows.sources_of.Goals as goal

pub returns-then-is_empty : goal.returns-then-is_empty
returns-then-is_empty c =
    let sources = c.args.terms.now.sources in
    let before = answer_to c.args.asked.now c.args.answers.now in
    let none : c.args.terms.now.starts ≡ [] = sym c.starts.ensures ∙ none_in c.starts.result.now (sym c.is_empty.ensures ∙ c.if-is_empty.true) in
    let alone = ap (λ (ls : List Loc). union source_cmp sources (union_over before ls)) none ∙ union-nil source_total sources c.requires.sources in
    IfOk-weaker c.of_runs.result _ _ (λ all is. is ∙ c.runs.ensures ∙ sym alone) c.of_runs.ensures

pub of-requires : goal.of-requires
of-requires c =
    subst (Ascends source_cmp) (sym c.answer.ensures) (ascends_answer c.args.asked.now c.args.answers.now c.form.ensures c.in-Some.loc)

pub returns-in-Some : goal.returns-in-Some
returns-in-Some c =
    let before = answer_to c.args.asked.now c.args.answers.now in
    IfOk-weaker c.of.result _ _ (λ all is. is ∙ c.answer.ensures ∙ ap (resolved before) (sym c.in-Some.ensures)) c.of.ensures

pub returns : goal.returns
returns c =
    IfOk-weaker c.of-2.result _ _ (λ all is. is ∙ c.deref.ensures.value ∙ c.in_ok-all.ensures.value) c.of-2.ensures
