use Rattle.answer_meaning.proofs.Runs.{rows_moved}
use Rattle.answer_meaning.proofs.laws.rows_are_of_moved_bytes.Goals as goal

pub returns : goal.returns
returns c = rows_moved
