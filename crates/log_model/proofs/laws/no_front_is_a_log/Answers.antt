use Rattle.log_model.proofs.Texts.{no_front_is_a_log}
use Rattle.log_model.proofs.laws.no_front_is_a_log.Goals as goal

pub returns : goal.returns
returns c = no_front_is_a_log
