use Rattle.run_travel.proofs.Passing.{taken_back}
use Rattle.run_travel.proofs.laws.a_move_on_is_taken_back.Goals as goal

pub returns : goal.returns
returns c = taken_back
