use Rattle.taint_shadow.proofs.marks.Marks.all_but_first.Goals as goal
use Rattle.taint_shadow.proofs.Bits as marks

pub returns : goal.returns
returns c = marks.all_but_first
