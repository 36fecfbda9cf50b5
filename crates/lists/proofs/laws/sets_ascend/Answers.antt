use Rattle.lists.proofs.Algebra.{Ascends-inserted, Ascends-union, Ascends-set_of}
use Rattle.lists.proofs.laws.sets_ascend.Goals as goal

pub returns-clause-inserted : goal.returns-clause-inserted
returns-clause-inserted g c = λ R o. Ascends-inserted o

pub returns-clause-union : goal.returns-clause-union
returns-clause-union g c = λ R o. Ascends-union o

pub returns-clause-set_of : goal.returns-clause-set_of
returns-clause-set_of g c = λ R o. Ascends-set_of o
