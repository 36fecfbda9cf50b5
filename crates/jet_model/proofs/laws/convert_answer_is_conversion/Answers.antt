use Rattle.jet_model.proofs.Headline.{convert-is_given}
use Rattle.jet_model.proofs.laws.convert_answer_is_conversion.Goals as goal

pub returns : goal.returns
returns c = convert-is_given
