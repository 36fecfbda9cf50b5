use Rattle.epoch_cut.proofs.CutTimes.{long_first_times_cutting}
use Rattle.epoch_cut.proofs.laws.long_first_times_are_cutting.Goals as goal

pub returns : goal.returns
returns c = long_first_times_cutting
