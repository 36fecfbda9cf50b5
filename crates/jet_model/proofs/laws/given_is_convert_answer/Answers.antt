use Rattle.jet_model.proofs.Headline.{given-is_convert}
use Rattle.jet_model.proofs.laws.given_is_convert_answer.Goals as goal

pub returns : goal.returns
returns c = given-is_convert
