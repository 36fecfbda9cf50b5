use Rattle.debug_model.proofs.Bytes.{step_of_byte_is_told}
use Rattle.debug_model.proofs.laws.the_step_of_a_byte_is_told.Goals as goal

pub returns : goal.returns
returns c = step_of_byte_is_told c.lines_tile_channels.ensures
