use Rattle.std.proofs.Common.{◌∙◌, ap, sym}
use Rattle.outer_wire.specs.Wires.{went}
use Rattle.memory_wire.specs.Passing.{PassingAt}
use Rattle.memory_wire.proofs.PassingLemmas.{gone-passed}
use Rattle.memory_wire.proofs.passing.Passing.gone.Goals as goal

pub returns : goal.returns
returns c =
    let p = c.self.inside in
    c.bytes.ensures ∙ sym (gone-passed p.bytes.items p.gone.bytes p.steps.items c.self.invariant.went)
    ∙ ap (λ (s : PassingAt). went s.history) c.self.view_is
