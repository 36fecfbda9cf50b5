use Rattle.core_file.proofs.Parts.{has_window, has_registers}
use Rattle.core_file.proofs.laws.core_is_of_its_moment.Goals as goal

pub returns : goal.returns
returns c = record { window = has_window; registers = has_registers }
