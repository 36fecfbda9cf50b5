use Rattle.debug_model.proofs.Travelling.{step_taken_back, step_made_again}
use Rattle.debug_model.proofs.laws.a_step_is_taken_back.Goals as goal

pub returns : goal.returns
returns c = record { on = step_taken_back c.one_step_is_made.ensures; back = step_made_again c.one_step_is_made.ensures }
