use Rattle.debug_model.proofs.Written.{answers_are_written}
use Rattle.debug_model.proofs.Told.{dialogue_is_heard}
use Rattle.debug_model.proofs.laws.answers_are_heard.Goals as goal

pub returns : goal.returns
returns c = record { written = answers_are_written; heard = dialogue_is_heard c.frame_is_heard.ensures }
