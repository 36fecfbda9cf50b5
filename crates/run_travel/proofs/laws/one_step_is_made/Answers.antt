use Rattle.run_travel.proofs.Passing.{one_step}
use Rattle.run_travel.proofs.laws.one_step_is_made.Goals as goal

pub returns : goal.returns
returns c = one_step
