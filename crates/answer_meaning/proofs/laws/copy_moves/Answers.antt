use Rattle.answer_meaning.proofs.Flows.{moves_are_single}
use Rattle.answer_meaning.proofs.Steps.{moves_keep_content}
use Rattle.answer_meaning.proofs.laws.copy_moves.Goals as goal

pub returns : goal.returns
returns c = record { single = moves_are_single; step = moves_keep_content }
