use Rattle.std.proofs.Common.{refl, arith}
use Rattle.backward_pass.specs.Backward.{back_of}
use Rattle.backward_pass.proofs.Lists.{item_after}
use Rattle.backward_pass.proofs.Backing.{sends}
use Rattle.backward_pass.proofs.back.Back.next.Goals as goal

pub returns-then-self-count : goal.returns-then-self-count
returns-then-self-count c =
    let s = c.args.self.now in
    (refl, sends (back_of s) c.requires c.get.result _ c.if-self.false (item_after s.asked s.pushed c.get.result c.get.ensures) (omega (arith, c.if-self-count.true, c.count.type_inv)))
