use Rattle.jet_model.proofs.Headline.{one_record_answer}
use Rattle.jet_model.proofs.laws.one_record_answer.Goals as goal

pub returns : goal.returns
returns c = one_record_answer
