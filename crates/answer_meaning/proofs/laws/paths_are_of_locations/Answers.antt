use Rattle.answer_meaning.proofs.Paths.{steps_fit, path_is_of_locations}
use Rattle.answer_meaning.proofs.laws.paths_are_of_locations.Goals as goal

pub returns : goal.returns
returns c = record { fit = steps_fit; located = path_is_of_locations c.paths_are_located.ensures }
