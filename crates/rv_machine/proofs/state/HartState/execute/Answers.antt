use Rattle.rv_machine.proofs.Doing.{may_any}
use Rattle.rv_machine.proofs.state.HartState.execute.Goals as goal

pub execute-next-requires-clause-may : goal.execute-next-requires-clause-may
execute-next-requires-clause-may c = may_any _
