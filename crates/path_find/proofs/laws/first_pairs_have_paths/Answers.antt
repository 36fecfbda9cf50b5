use Rattle.path_find.proofs.Listed as listed
use Rattle.path_find.proofs.laws.first_pairs_have_paths.Goals as goal

pub returns-clause-none : goal.returns-clause-none
returns-clause-none c = listed.none_is_listed

pub returns-clause-path : goal.returns-clause-path
returns-clause-path c = listed.first_pair_has_path
