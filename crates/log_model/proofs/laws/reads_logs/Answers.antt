use Rattle.log_model.proofs.Unique.{reads_logs}
use Rattle.log_model.proofs.laws.reads_logs.Goals as goal

pub returns : goal.returns
returns c = reads_logs
