use Rattle.answer_meaning.proofs.Steps.{sound_after}
use Rattle.answer_meaning.proofs.laws.steps_stay_sound.Goals as goal

pub returns : goal.returns
returns c = sound_after
