use Rattle.log_model.proofs.Unique.{wide_logs_are_read}
use Rattle.log_model.proofs.laws.wide_logs_are_read.Goals as goal

pub returns : goal.returns
returns c = wide_logs_are_read
