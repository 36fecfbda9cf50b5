use Rattle.report_model.proofs.Needed as needed
use Rattle.report_model.proofs.laws.rows_of_beginning.Goals as goal

pub returns : goal.returns
returns c = record { rows = needed.rows_of_beginning; order = needed.order_of_beginning; made = needed.needed_are_made }
