use Rattle.report_model.proofs.Turned.{influence_turns_rows}
use Rattle.report_model.proofs.laws.influence_turns_rows.Goals as goal

pub returns : goal.returns
returns c = influence_turns_rows
