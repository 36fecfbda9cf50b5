use Rattle.flow_model.proofs.Origins.{Ascends-origins}
use Rattle.flow_model.proofs.laws.origins_ascend.Goals as goal

pub returns : goal.returns
returns c = Ascends-origins
