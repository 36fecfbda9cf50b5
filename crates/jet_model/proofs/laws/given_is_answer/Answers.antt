use Rattle.jet_model.proofs.Headline.{given-is_answer}
use Rattle.jet_model.proofs.laws.given_is_answer.Goals as goal

pub returns : goal.returns
returns c = given-is_answer
