use Rattle.std.proofs.lemmas.Bool.{eqb-true}
use Rattle.taint_shadow.proofs.Bits.{none_of}
use Rattle.taint_shadow.proofs.marks.Marks.has_none_of.Goals as goal

pub returns : goal.returns
returns c = λ t r has. none_of c.args.self.bits c.args.registers r (eqb-true _ 0 t) has
