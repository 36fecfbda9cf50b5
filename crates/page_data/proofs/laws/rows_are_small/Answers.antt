use Rattle.page_data.proofs.Small.{rows_are_small}
use Rattle.page_data.proofs.laws.rows_are_small.Goals as goal

pub returns : goal.returns
returns c = rows_are_small
