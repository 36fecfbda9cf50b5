use Rattle.path_find.proofs.One as one
use Rattle.path_find.proofs.laws.one_path_is_a_path.Goals as goal

pub returns-clause-path : goal.returns-clause-path
returns-clause-path c = one.one_path_is_path

pub returns-clause-beginning : goal.returns-clause-beginning
returns-clause-beginning c = one.beginning_is_path

pub returns-clause-first : goal.returns-clause-first
returns-clause-first c = one.hop_is_from_first
