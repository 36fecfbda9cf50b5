use Rattle.flow_model.proofs.OriginsRead as read
use Rattle.flow_model.proofs.laws.received_has_its_source.Goals as goal

pub returns : goal.returns
returns c = read.received_has_its_source
