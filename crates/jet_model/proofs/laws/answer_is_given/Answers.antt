use Rattle.jet_model.proofs.Headline.{answer-is_given}
use Rattle.jet_model.proofs.laws.answer_is_given.Goals as goal

pub returns : goal.returns
returns c = answer-is_given
