use Rattle.lists.proofs.Algebra.{union_comm, union_assoc, union-within}
use Rattle.lists.proofs.laws.unions_are_alike.Goals as goal

pub returns-clause-commutes : goal.returns-clause-commutes
returns-clause-commutes g c = λ R o same. union_comm o same

pub returns-clause-associates : goal.returns-clause-associates
returns-clause-associates g c = λ R o same. union_assoc o same

pub returns-clause-within : goal.returns-clause-within
returns-clause-within g c = λ R o. union-within o
