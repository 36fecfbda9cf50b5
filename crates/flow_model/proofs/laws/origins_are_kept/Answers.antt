use Rattle.flow_model.proofs.OriginsRead.{step_keeps_origins, steps_keep_origins}
use Rattle.flow_model.proofs.laws.origins_are_kept.Goals as goal

pub returns-clause-one : goal.returns-clause-one
returns-clause-one c = step_keeps_origins

pub returns-clause-stretch : goal.returns-clause-stretch
returns-clause-stretch c = steps_keep_origins
