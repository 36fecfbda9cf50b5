use Rattle.std.proofs.Common.{arith, rules, ◌≡◌, ◌<◌, ◌+◌, ◌-◌, ◌++◌, ◌∷◌, ◌∙◌, [], ap, ℕ, List, length, drop, length-drop}
use Rattle.std.proofs.lemmas.List.{length_push}
use Rattle.memory_wire.specs.declared.step.Step.TheVariants.{Received}
use Rattle.memory_wire.specs.Passing.{PassingAt, after_receive}
use Rattle.memory_wire.specs.PassingRoom.{count_came, count_went}
use Rattle.memory_wire.proofs.PassingLemmas.{came-received, went-received, seen-received}
use Rattle.memory_wire.proofs.passing.Passing.receive.Goals as goal

pub invariant_of-self-2 : goal.invariant_of-self-2
invariant_of-self-2 c =
    let p = c.self.inside in
    let n = c.min-count.result in
    let steps : c.push.new.self.items ≡ p.steps.items ++ Received n ∷ [] = c.in-Ok.ensures.items in
    let rest : length (drop p.came c.deref.result.now) ≡ length p.bytes.items - p.came = length-drop p.came c.deref.result.now ∙ ap (λ (bytes : List ℕ). length bytes - p.came) c.deref.ensures.value in
    record {
      came = ap count_came steps ∙ came-received p.steps.items n ∙ ap (λ (k : ℕ). k + n) c.self.invariant.came;
      within = omega (arith, c.min-count.ensures, rest, c.self.invariant.within);
      went = ap count_went steps ∙ went-received p.steps.items n ∙ c.self.invariant.went;
      steps = omega (arith, ap length steps, length_push p.steps.items (Received n), c.requires, ap (λ (s : PassingAt). s.calls_left) c.self.view_is, c.in-Ok.ensures.capacity, c.self.invariant.steps);
    }

pub returns-clause-received : goal.returns-clause-received
returns-clause-received c =
    let p = c.self.inside in
    let some : 0 < length c.args.into.now = search rules in
    seen-received p.bytes.items p.gone p.steps.items c.push.new.self.items p.came (p.calls_left - 1) (length c.args.into.now) c.min-count.result
    c.self.invariant.came some c.in-Ok.ensures.items
    ∙ ap (λ (s : PassingAt). after_receive (length c.args.into.now) c.min-count.result s) c.self.view_is
