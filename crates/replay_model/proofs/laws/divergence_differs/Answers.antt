use Rattle.replay_model.proofs.Agreement.{divergence_differs}
use Rattle.replay_model.proofs.laws.divergence_differs.Goals as goal

pub returns : goal.returns
returns c = divergence_differs
