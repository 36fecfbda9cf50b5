use Rattle.path_find.proofs.One as one
use Rattle.path_find.proofs.laws.paths_are_origins.Goals as goal

pub returns-clause-any : goal.returns-clause-any
returns-clause-any c = one.paths_are_origins

pub returns-clause-one : goal.returns-clause-one
returns-clause-one c = one.one_path_is_origin
