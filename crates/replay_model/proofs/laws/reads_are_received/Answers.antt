use Rattle.replay_model.proofs.Received.{reads_are_received}
use Rattle.replay_model.proofs.laws.reads_are_received.Goals as goal

pub returns : goal.returns
returns c = reads_are_received
