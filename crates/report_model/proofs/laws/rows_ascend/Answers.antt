use Rattle.report_model.proofs.RowLemmas.{Ascends-rows}
use Rattle.report_model.proofs.laws.rows_ascend.Goals as goal

pub returns : goal.returns
returns c = Ascends-rows
