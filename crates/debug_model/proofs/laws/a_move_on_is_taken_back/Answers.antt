use Rattle.debug_model.proofs.Travelling.{taken_back}
use Rattle.debug_model.proofs.laws.a_move_on_is_taken_back.Goals as goal

pub returns : goal.returns
returns c = taken_back c.a_move_on_is_taken_back.ensures
