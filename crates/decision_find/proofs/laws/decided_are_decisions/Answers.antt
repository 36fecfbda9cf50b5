use Rattle.decision_find.proofs.Lines.{decided_are_decisions}
use Rattle.decision_find.proofs.laws.decided_are_decisions.Goals as goal

pub returns : goal.returns
returns c = decided_are_decisions
