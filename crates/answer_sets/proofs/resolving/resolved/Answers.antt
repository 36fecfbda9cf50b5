use Rattle.std.proofs.Common.{◌≡◌, ℕ, Bool, true, false, ◌||◌, ap, sym, subst, List, get_or, ◌∙◌}
use Rattle.std.proofs.lemmas.List.{take_all}
use Rattle.lists.specs.Sets.{Ascends, has}
use Rattle.flow_model.specs.declared.Loc.{Loc}
use Rattle.flow_model.specs.declared.Loc.TheVariants.{Reg}
use Rattle.flow_model.specs.Orders.{source_cmp}
use Rattle.epoch_model.specs.Join.{answer_to, resolved}
use Rattle.answer_sets.specs.Gathered.{is_at_one_of}
use Rattle.answer_sets.proofs.Members.{among, among_none, among_more, resolved_is}
use Rattle.answer_sets.proofs.Finding.{ascends_answer}
use Rattle.answer_sets.proofs.resolving.resolved.Goals as goal

abbrev none : Loc
none = Reg 0 0

pub returns-in-Some-clause-value : goal.returns-in-Some-clause-value
returns-in-Some-clause-value c =
    c.in_ok-to_vec.ensures.items_if_clones_equal (λ x y e. e) ∙ c.answer.ensures
    ∙ ap (resolved (answer_to c.args.asked.now c.args.answers.now)) (sym c.in-Some.ensures)

pub returns-in-Some-clause-ascending : goal.returns-in-Some-clause-ascending
returns-in-Some-clause-ascending c =
    subst (Ascends source_cmp) (sym (c.in_ok-to_vec.ensures.items_if_clones_equal (λ x y e. e) ∙ c.answer.ensures))
    (ascends_answer c.args.asked.now c.args.answers.now c.form.ensures c.in-Some.loc)

pub returns-clause-value : goal.returns-clause-value
returns-clause-value c =
    resolved_is (answer_to c.args.asked.now c.args.answers.now) (ascends_answer c.args.asked.now c.args.answers.now c.form.ensures)
    c.args.terms.now c.in_ok-all.all.items c.in_ok-all.ensures.ascending
    (λ b. c.in_ok-all.ensures.members b ∙ c.loop-loc.invariant.members b ∙ ap (λ (ls : List Loc). among (answer_to c.args.asked.now c.args.answers.now) c.args.terms.now.sources ls b) (take_all _ _ c.loop-loc-test.false ∙ c.starts-loc-items.ensures))

pub loop-loc-init : goal.loop-loc-init
loop-loc-init c =
    let answers = c.args.answers.now in
    let sources = c.args.terms.now.sources in
    let same : c.in_ok-gathered.gathered ≡ sources = c.in_ok-gathered.ensures ∙ c.runs.ensures in
    record {
      members = λ b. ap (has source_cmp b) same ∙ among_none (answer_to c.args.asked.now answers) sources b;
      large = λ b e. let none : false ≡ true = sym (ap (λ (places : List ℕ). is_at_one_of answers places b) c.new-large.ensures.items) ∙ e in cc;
    }

pub loop-loc-preserved : goal.loop-loc-preserved
loop-loc-preserved c =
    let before = answer_to c.args.asked.now c.args.answers.now in
    let locs = c.starts-loc-items.result.now in
    let index = c.loop-loc.loc-index in
    record {
      members = λ b. c.in_ok-add_answer.ensures.added b
          ∙ ap (λ (found : Bool). found || has source_cmp b (before (get_or locs index none))) (c.loop-loc.invariant.members b)
          ∙ sym (among_more before c.args.terms.now.sources locs b index none c.loop-loc-test.true);
      large = c.in_ok-add_answer.ensures.large;
    }
