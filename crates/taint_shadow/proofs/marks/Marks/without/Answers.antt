use Rattle.taint_shadow.proofs.Bits.{unmarked}
use Rattle.taint_shadow.proofs.marks.Marks.without.Goals as goal

pub returns : goal.returns
returns c = unmarked c.args.self.bits c.args.register c.requires
