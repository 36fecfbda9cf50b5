use Rattle.debug_model.proofs.Within.{stays_within}
use Rattle.debug_model.proofs.laws.a_session_stays_within_its_run.Goals as goal

pub returns : goal.returns
returns c = stays_within c.nothing_is_passed_over.ensures.on c.nothing_is_passed_over.ensures.back
