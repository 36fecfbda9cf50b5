use Rattle.jet_model.proofs.Headline.{run_answer-is_given}
use Rattle.jet_model.proofs.laws.run_answer_is_given.Goals as goal

pub returns : goal.returns
returns c = run_answer-is_given
