use Rattle.stream_model.proofs.Growing.{heard_ascends}
use Rattle.stream_model.proofs.laws.sets_got_ascend.Goals as goal

pub returns : goal.returns
returns c = heard_ascends
