use Rattle.replay_model.proofs.Offsets.{offsets_count}
use Rattle.replay_model.proofs.laws.offsets_count.Goals as goal

pub returns : goal.returns
returns c = offsets_count
