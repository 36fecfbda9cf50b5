use Rattle.pass_parts.proofs.Counted.{counts_stay, answerable_by_count}
use Rattle.pass_parts.proofs.laws.counts_tell.Goals as goal

pub returns-clause-stay : goal.returns-clause-stay
returns-clause-stay c = counts_stay

pub returns-clause-answerable : goal.returns-clause-answerable
returns-clause-answerable c = answerable_by_count
