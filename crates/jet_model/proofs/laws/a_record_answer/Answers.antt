use Rattle.jet_model.proofs.Recordings.{a_record_answer}
use Rattle.jet_model.proofs.laws.a_record_answer.Goals as goal

pub returns : goal.returns
returns c = a_record_answer
