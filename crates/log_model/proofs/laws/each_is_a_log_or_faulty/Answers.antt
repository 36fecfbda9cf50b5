use Rattle.log_model.proofs.Unique.{log_or_faulty}
use Rattle.log_model.proofs.laws.each_is_a_log_or_faulty.Goals as goal

pub returns : goal.returns
returns c = log_or_faulty
