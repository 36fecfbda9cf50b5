use Rattle.replay_model.proofs.Firsts.{none_exactly}
use Rattle.replay_model.proofs.laws.none_where_all_agrees.Goals as goal

pub returns : goal.returns
returns c = none_exactly
