use Rattle.answer_meaning.proofs.Together.{no_influence}
use Rattle.answer_meaning.proofs.laws.what_decides_nothing_has_no_influence.Goals as goal

pub returns : goal.returns
returns c = no_influence
