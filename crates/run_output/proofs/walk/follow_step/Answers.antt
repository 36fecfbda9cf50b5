use Rattle.std.proofs.Common.{◌≡◌, ℕ, List, OnOk, reverse, ap, ◌∙◌, subst}
use Rattle.replayer.specs.Positions.{CursorAt}
use Rattle.run_output.specs.declared.hints.Hint.{Hint}
use Rattle.run_output.specs.Hints.{hint_of}
use Rattle.run_output.specs.Stack.{after_hint}
use Rattle.run_output.proofs.Steps.{moment_at, calls_more}
use Rattle.run_output.proofs.walk.follow_step.Goals as goal

pub returns-clause-calls : goal.returns-clause-calls
returns-clause-calls c =
    let before = c.args.cursor.now in
    let calls = reverse c.args.calls.now.items in
    let step = c.in-Step.step in
    let target = c.pc.ensures ∙ ap (λ (k : CursorAt). (moment_at k.job k.time).state.pc) c.in-Step.ensures.moved in
    let followed =
    ap (λ (h : Hint). after_hint h c.pc-pc.result c.pc.result calls) c.hint_of.ensures
    ∙ ap (λ (pc : ℕ). after_hint (hint_of step.instr) pc c.pc.result calls) c.pc-pc.ensures
    ∙ ap (λ (pc : ℕ). after_hint (hint_of step.instr) (moment_at before.job before.time).state.pc pc calls) target
    ∙ calls_more before.job before.time step calls c.requires.inside c.in-Step.ensures.step c.requires.calls in
    subst (λ (xs : List ℕ). OnOk c.follow_hint.result (reverse c.follow_hint.new.calls.items ≡ xs)) followed c.follow_hint.ensures
