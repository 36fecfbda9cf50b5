use Rattle.debug_model.proofs.CommandPackets.{stays_as_it_was}
use Rattle.debug_model.proofs.laws.a_run_stays_as_it_was.Goals as goal

pub returns : goal.returns
returns c = stays_as_it_was
