use Rattle.summary_join.proofs.Asking.{pieces_ask, pieces_ask_needed}
use Rattle.summary_join.proofs.laws.pieces_ask_what_is_needed.Goals as goal

pub returns : goal.returns
returns c = record { crosses = pieces_ask; needed = pieces_ask_needed }
