use Rattle.epoch_layout.proofs.Whole.{done_lines_come}
use Rattle.epoch_layout.proofs.laws.done_lines_come.Goals as goal

pub returns : goal.returns
returns c = done_lines_come
