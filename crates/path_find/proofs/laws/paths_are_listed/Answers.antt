use Rattle.path_find.proofs.Listed as listed
use Rattle.path_find.proofs.laws.paths_are_listed.Goals as goal

pub returns : goal.returns
returns c = listed.paths_are_listed
