use Rattle.path_find.proofs.Told as told
use Rattle.path_find.proofs.laws.first_pairs_are_located.Goals as goal

pub returns : goal.returns
returns c = told.first_pair_is_located c.first_pairs_have_paths.ensures.none c.first_pairs_have_paths.ensures.path
