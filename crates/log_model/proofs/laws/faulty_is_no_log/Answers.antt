use Rattle.log_model.proofs.Unique.{faulty_is_no_log}
use Rattle.log_model.proofs.laws.faulty_is_no_log.Goals as goal

pub returns : goal.returns
returns c = faulty_is_no_log
