use Rattle.flow_model.proofs.Members as members
use Rattle.flow_model.proofs.laws.origins_flow_in.Goals as goal

pub returns-clause-start : goal.returns-clause-start
returns-clause-start c = members.none_at_start

pub returns-clause-step : goal.returns-clause-step
returns-clause-step c = members.origins_flow_in
