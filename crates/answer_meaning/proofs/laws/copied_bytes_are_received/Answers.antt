use Rattle.answer_meaning.proofs.Runs.{copied_rows, copied_contents}
use Rattle.answer_meaning.proofs.laws.copied_bytes_are_received.Goals as goal

pub returns : goal.returns
returns c = record { contents = copied_contents; rows = copied_rows }
