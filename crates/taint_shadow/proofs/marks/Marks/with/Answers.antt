use Rattle.taint_shadow.proofs.Bits.{marked}
use Rattle.taint_shadow.proofs.marks.Marks.with.Goals as goal

pub returns : goal.returns
returns c = marked c.args.self.bits c.args.register c.requires
