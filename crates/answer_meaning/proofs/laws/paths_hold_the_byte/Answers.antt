use Rattle.answer_meaning.proofs.Paths.{path_holds_byte, told_path_holds_byte}
use Rattle.answer_meaning.proofs.laws.paths_hold_the_byte.Goals as goal

pub returns : goal.returns
returns c =
    let holds = path_holds_byte c.copied_bytes_are_received.ensures.contents c.paths_are_of_locations.ensures.located in
    record { path = holds; told = told_path_holds_byte c.one_path_is_a_path.ensures.path holds }
