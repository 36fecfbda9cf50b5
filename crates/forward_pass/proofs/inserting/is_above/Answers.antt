use Rattle.std.proofs.Common.{sym}
use Rattle.forward_pass.proofs.OneMore.{inserted_last}
use Rattle.forward_pass.proofs.inserting.is_above.Goals as goal

pub returns-in-Less : goal.returns-in-Less
returns-in-Less g c = λ _. inserted_last g.met.T.Ord.total c.args.member.now c.in-Some.last.now c.args.set.now c.requires (sym c.in-Some.ensures.value) (sym c.in-Less.ensures)
