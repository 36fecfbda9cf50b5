use Rattle.replay_model.proofs.Firsts.{first_exactly}
use Rattle.replay_model.proofs.laws.divergence_is_first.Goals as goal

pub returns : goal.returns
returns c = first_exactly
