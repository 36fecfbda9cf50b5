use Rattle.epoch_cut.proofs.Shrinking.{shrinking_times_cutting}
use Rattle.epoch_cut.proofs.laws.shrinking_times_are_cutting.Goals as goal

pub returns : goal.returns
returns c = shrinking_times_cutting
