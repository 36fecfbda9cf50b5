use Rattle.jet_model.proofs.Headline.{recording-is_record_answer}
use Rattle.jet_model.proofs.laws.recording_is_record_answer.Goals as goal

pub returns : goal.returns
returns c = recording-is_record_answer
