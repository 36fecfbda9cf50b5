use Rattle.std.proofs.Common.{sym, ◌∙◌, arith}
use Rattle.epoch_link.proofs.Steps.{wraps, goes_on}
use Rattle.epoch_link.proofs.ring_link.end.End.advance.Goals.{then-self-get, else-self-get}
use Rattle.epoch_link.proofs.ring_link.end.End.advance.Goals as goal

pub returns-clause-slot : goal.returns-clause-slot
returns-clause-slot g c =
    let e = c.args.self.now in
    elim c.if-self-get.branch [
      | then-self-get w ↦ w.self-is ∙ sym (wraps e.slot e.capacity (omega (arith, w.if-self-get.true)))
      | else-self-get w ↦ w.self-is ∙ sym (goes_on e.slot e.capacity (omega (arith, w.if-self-get.false, e.inside)))
    ]
