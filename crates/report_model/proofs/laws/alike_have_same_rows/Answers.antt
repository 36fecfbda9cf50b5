use Rattle.report_model.proofs.RowLemmas.{same_rows}
use Rattle.report_model.proofs.laws.alike_have_same_rows.Goals as goal

pub returns : goal.returns
returns c = same_rows
