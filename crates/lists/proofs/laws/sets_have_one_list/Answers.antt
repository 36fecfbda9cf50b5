use Rattle.lists.proofs.Algebra.{same_list}
use Rattle.lists.proofs.laws.sets_have_one_list.Goals as goal

pub returns : goal.returns
returns g c = λ R o same. same_list o same
