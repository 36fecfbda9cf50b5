use Rattle.std.proofs.Common.{ℕ, List, Vec, length, ap, sym, ◌∙◌, subst, get_or}
use Rattle.std.specs.Prelude.{Contains}
use Rattle.std.specs.declared.alloc.Global.{Global}
use Rattle.std.proofs.lemmas.List.{length-map}
use Rattle.std.proofs.lemmas.List.Elements.{Contains-get_or}
use Rattle.std.proofs.lemmas.List.Sorted.{Contains-permutation}
use Rattle.run_output.specs.Stack.{stack_text}
use Rattle.run_output.proofs.stacks.parts_text.Goals as goal

pub text_among-requires-clause-among : goal.text_among-requires-clause-among
text_among-requires-clause-among c =
    let times = c.args.times.now in
    let i = c.loop-time.time-index in
    let time = get_or times i 0 in
    subst (λ (order : List ℕ). Contains order time) (sym c.deref-in-loop-time.ensures.value)
    (Contains-permutation times c.in_ok-order.order.items time c.in_ok-order.ensures.all (Contains-get_or times i 0 c.loop-time-test.true))

pub text_among-requires-clause-each : goal.text_among-requires-clause-each
text_among-requires-clause-each c =
    let items = λ (text : Vec ℕ Global). text.items in
    let order = c.deref.result.now in
    let text_of = stack_text c.args.job.now.start c.args.job.now.log in
    ap length c.deref-in-loop-time-2.ensures.value ∙ sym (length-map c.in_ok-texts.texts.items items) ∙ ap length c.in_ok-texts.ensures
    ∙ length-map order text_of ∙ ap length (c.deref.ensures.value ∙ sym c.deref-in-loop-time.ensures.value)
