use Rattle.answer_meaning.proofs.Together.{recordings_are_alike}
use Rattle.answer_meaning.proofs.laws.recordings_are_alike.Goals as goal

pub returns : goal.returns
returns c = recordings_are_alike
