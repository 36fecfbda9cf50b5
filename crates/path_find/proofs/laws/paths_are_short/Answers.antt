use Rattle.path_find.proofs.One as one
use Rattle.path_find.proofs.laws.paths_are_short.Goals as goal

pub returns : goal.returns
returns c = one.path_is_short
