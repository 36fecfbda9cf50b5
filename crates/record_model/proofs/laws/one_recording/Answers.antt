use Rattle.record_model.proofs.Unique.{one_recording}
use Rattle.record_model.proofs.laws.one_recording.Goals as goal

pub returns : goal.returns
returns c = one_recording
