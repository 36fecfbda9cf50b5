use Rattle.report_model.proofs.RowLemmas.{all_written}
use Rattle.report_model.proofs.laws.rows_were_written.Goals as goal

pub returns : goal.returns
returns c = all_written
