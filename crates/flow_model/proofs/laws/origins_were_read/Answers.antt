use Rattle.flow_model.proofs.OriginsRead as read
use Rattle.flow_model.proofs.laws.origins_were_read.Goals as goal

pub returns : goal.returns
returns c = read.origins_were_read
