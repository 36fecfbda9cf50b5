use Rattle.std.proofs.lemmas.Nat.{one_shl}
use Rattle.rv_decode.proofs.fields.bits.Goals as goal

pub returns : goal.returns
returns c = rw (one_shl c.args.width 32 c.requires.narrow)
