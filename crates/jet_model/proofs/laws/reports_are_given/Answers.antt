use Rattle.jet_model.proofs.Headline.{reports-are_given}
use Rattle.jet_model.proofs.laws.reports_are_given.Goals as goal

pub returns : goal.returns
returns c = reports-are_given
