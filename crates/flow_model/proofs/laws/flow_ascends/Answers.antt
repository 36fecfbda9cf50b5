use Rattle.flow_model.proofs.FlowOrder as order
use Rattle.flow_model.proofs.laws.flow_ascends.Goals as goal

pub returns-clause-instructions : goal.returns-clause-instructions
returns-clause-instructions c = order.flow_ascends

pub returns-clause-calls : goal.returns-clause-calls
returns-clause-calls c = order.cleared_ascends
