use Rattle.decision_find.proofs.Lines.{decided_there_are, texts_tell_decisions}
use Rattle.decision_find.proofs.laws.texts_tell_decisions.Goals as goal

pub returns : goal.returns
returns c = record { there = decided_there_are; text = texts_tell_decisions }
