use Rattle.stream_model.proofs.Growing.{asks_grow, answers_grow}
use Rattle.stream_model.proofs.laws.sent_grows_with_got.Goals as goal

pub returns : goal.returns
returns c = record { asks = asks_grow; answers = answers_grow }
