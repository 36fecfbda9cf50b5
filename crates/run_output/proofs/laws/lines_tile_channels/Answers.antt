use Rattle.run_output.proofs.Tiling.{lines_tile}
use Rattle.run_output.proofs.laws.lines_tile_channels.Goals as goal

pub returns : goal.returns
returns c = lines_tile
