use Rattle.epoch_cut.proofs.CutTimes.{cut_times_counted, cut_times_multiples}
use Rattle.epoch_cut.proofs.laws.epochs_have_the_length.Goals as goal

pub returns : goal.returns
returns c = record { count = cut_times_counted; multiples = cut_times_multiples }
