use Rattle.log_model.proofs.Unique.{one_text}
use Rattle.log_model.proofs.laws.one_text.Goals as goal

pub returns : goal.returns
returns c = one_text
