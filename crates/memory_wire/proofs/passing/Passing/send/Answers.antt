use Rattle.std.proofs.Common.{arith, rules, ◌≡◌, ◌<◌, ◌+◌, ◌-◌, ◌++◌, ◌∷◌, ◌∙◌, [], ap, sym, ℕ, length, length-append}
use Rattle.std.proofs.lemmas.List.{length_push}
use Rattle.outer_io.specs.Buffered.{Buffered}
use Rattle.memory_wire.specs.declared.step.Step.TheVariants.{Sent}
use Rattle.memory_wire.specs.Passing.{PassingAt, after_send}
use Rattle.memory_wire.specs.PassingRoom.{count_came, count_went}
use Rattle.memory_wire.proofs.PassingLemmas.{came-sent, went-sent, seen-sent}
use Rattle.memory_wire.proofs.passing.Passing.send.Goals as goal

pub invariant_of-self-2 : goal.invariant_of-self-2
invariant_of-self-2 c =
    let p = c.self.inside in
    let n = length c.args.piece.now in
    let steps : c.push-2.new.self.items ≡ p.steps.items ++ Sent n ∷ [] = c.in-Ok.ensures.items in
    record {
      came = ap count_came steps ∙ came-sent p.steps.items n ∙ c.self.invariant.came;
      within = c.self.invariant.within;
      went = ap count_went steps ∙ went-sent p.steps.items n ∙ ap (λ (k : ℕ). k + n) c.self.invariant.went
          ∙ sym (ap (λ (b : Buffered). length b.bytes) c.push.ensures ∙ length-append p.gone.bytes c.args.piece.now);
      steps = omega (arith, ap length steps, length_push p.steps.items (Sent n), c.requires.call, ap (λ (s : PassingAt). s.calls_left) c.self.view_is, c.in-Ok.ensures.capacity, c.self.invariant.steps);
    }

pub returns : goal.returns
returns c =
    let p = c.self.inside in
    let some : 0 < length c.args.piece.now = search rules in
    seen-sent p.bytes.items p.gone c.push.new.self p.steps.items c.push-2.new.self.items p.came (p.calls_left - 1) c.args.piece.now
    c.self.invariant.went some c.push.ensures c.in-Ok.ensures.items
    ∙ ap (λ (s : PassingAt). after_send c.args.piece.now s) c.self.view_is
