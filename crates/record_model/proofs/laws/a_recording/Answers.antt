use Rattle.record_model.proofs.RecordedRuns.{a_recording}
use Rattle.record_model.proofs.laws.a_recording.Goals as goal

pub returns : goal.returns
returns c = a_recording
