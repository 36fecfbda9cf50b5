use Rattle.jet_model.proofs.Headline.{given-is_run_answer}
use Rattle.jet_model.proofs.laws.given_is_run_answer.Goals as goal

pub returns : goal.returns
returns c = given-is_run_answer
