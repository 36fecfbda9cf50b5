use Rattle.path_find.proofs.One.{path_is_located}
use Rattle.path_find.proofs.laws.paths_are_located.Goals as goal

pub returns : goal.returns
returns c = path_is_located
