use Rattle.path_find.proofs.Told as told
use Rattle.path_find.proofs.laws.no_path_is_told_of_none.Goals as goal

pub returns : goal.returns
returns c = told.no_path_is_told_of_none c.first_pairs_have_paths.ensures.none c.first_pairs_have_paths.ensures.path
