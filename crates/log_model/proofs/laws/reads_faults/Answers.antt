use Rattle.log_model.proofs.Unique.{reads_faults}
use Rattle.log_model.proofs.laws.reads_faults.Goals as goal

pub returns : goal.returns
returns c = reads_faults
