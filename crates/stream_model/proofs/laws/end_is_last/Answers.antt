use Rattle.stream_model.proofs.Growing.{asks_end_last, answers_end_last, nothing_is_left}
use Rattle.stream_model.proofs.laws.end_is_last.Goals as goal

pub returns : goal.returns
returns c = record { asks = asks_end_last; answers = answers_end_last; left = nothing_is_left }
