use Rattle.epoch_cut.proofs.CutTimes.{cut_times_cutting}
use Rattle.epoch_cut.proofs.laws.cut_times_are_cutting.Goals as goal

pub returns : goal.returns
returns c = cut_times_cutting
