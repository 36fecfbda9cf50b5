use Rattle.log_model.proofs.Texts.{text_length}
use Rattle.log_model.proofs.laws.text_length.Goals as goal

pub returns : goal.returns
returns c = text_length
