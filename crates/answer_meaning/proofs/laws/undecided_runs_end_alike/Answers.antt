use Rattle.answer_meaning.proofs.Together.{as_long, ends_are_same}
use Rattle.answer_meaning.proofs.laws.undecided_runs_end_alike.Goals as goal

pub returns : goal.returns
returns c = record { lengths = as_long; ends = ends_are_same }
