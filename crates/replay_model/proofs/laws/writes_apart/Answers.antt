use Rattle.replay_model.proofs.Offsets.{writes_apart}
use Rattle.replay_model.proofs.laws.writes_apart.Goals as goal

pub returns : goal.returns
returns c = writes_apart
