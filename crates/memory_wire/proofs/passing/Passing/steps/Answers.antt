use Rattle.std.proofs.Common.{arith, ◌≤◌, ◌∙◌, ap, sym, map, length}
use Rattle.memory_wire.specs.Passing.{PassingAt, step_of}
use Rattle.memory_wire.specs.PassingRoom.{count_came}
use Rattle.memory_wire.proofs.PassingLemmas.{steps-passed}
use Rattle.memory_wire.proofs.passing.Passing.steps.Goals as goal

pub returns : goal.returns
returns c =
    let p = c.self.inside in
    let within : count_came p.steps.items ≤ length p.bytes.items = omega (arith, c.self.invariant.came, c.self.invariant.within) in
    c.deref.ensures.value ∙ sym (steps-passed p.bytes.items p.gone.bytes p.steps.items within c.self.invariant.went)
    ∙ ap (λ (s : PassingAt). map step_of s.history) c.self.view_is
