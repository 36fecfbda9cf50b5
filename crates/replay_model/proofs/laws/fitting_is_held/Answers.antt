use Rattle.replay_model.proofs.Received.{fitting_is_held}
use Rattle.replay_model.proofs.laws.fitting_is_held.Goals as goal

pub returns : goal.returns
returns c = fitting_is_held
