use Rattle.report_model.proofs.RowLemmas.{same_sinks}
use Rattle.report_model.proofs.laws.no_row_is_missing.Goals as goal

pub returns : goal.returns
returns c = same_sinks
