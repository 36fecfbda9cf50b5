use Rattle.path_find.proofs.Told as told
use Rattle.path_find.proofs.laws.named_pairs_are_told.Goals as goal

pub returns : goal.returns
returns c = told.named_pair_is_told c.first_pairs_have_paths.ensures.none c.first_pairs_have_paths.ensures.path
