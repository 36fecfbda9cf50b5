use Rattle.stream_model.proofs.Holding.{never_overfull}
use Rattle.stream_model.proofs.laws.never_overfull.Goals as goal

pub returns : goal.returns
returns c = never_overfull
