use Rattle.jet_model.proofs.Received.{sources_are_received}
use Rattle.jet_model.proofs.laws.sources_are_received.Goals as goal

pub returns : goal.returns
returns c = sources_are_received
