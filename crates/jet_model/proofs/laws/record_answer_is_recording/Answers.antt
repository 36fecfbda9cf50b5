use Rattle.jet_model.proofs.Headline.{record_answer-is_recording}
use Rattle.jet_model.proofs.laws.record_answer_is_recording.Goals as goal

pub returns : goal.returns
returns c = record_answer-is_recording
