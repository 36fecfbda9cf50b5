use Rattle.jet_model.proofs.Headline.{recorded-is_read}
use Rattle.jet_model.proofs.laws.recorded_is_read.Goals as goal

pub returns : goal.returns
returns c = recorded-is_read
