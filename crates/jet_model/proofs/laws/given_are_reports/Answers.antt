use Rattle.jet_model.proofs.Headline.{given-are_reports}
use Rattle.jet_model.proofs.laws.given_are_reports.Goals as goal

pub returns : goal.returns
returns c = given-are_reports
