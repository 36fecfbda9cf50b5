use Rattle.lists.proofs.Algebra.{has-inserted, has-union, has-set_of, has-Contains, Contains-has}
use Rattle.lists.proofs.laws.members_are_kept.Goals as goal

pub returns-clause-inserted : goal.returns-clause-inserted
returns-clause-inserted g c = λ R o. has-inserted o

pub returns-clause-union : goal.returns-clause-union
returns-clause-union g c = λ R o. has-union o

pub returns-clause-set_of : goal.returns-clause-set_of
returns-clause-set_of g c = λ R o. has-set_of o

pub returns-clause-elements : goal.returns-clause-elements
returns-clause-elements g c = λ R o same xs q. (Contains-has o same xs q, has-Contains o xs q)
