use Rattle.jet_model.proofs.Headline.{given-is_conversion}
use Rattle.jet_model.proofs.laws.given_is_conversion.Goals as goal

pub returns : goal.returns
returns c = given-is_conversion
