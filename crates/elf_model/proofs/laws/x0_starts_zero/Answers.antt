use Rattle.elf_model.proofs.Start.{start_has_x0_zero}
use Rattle.elf_model.proofs.laws.x0_starts_zero.Goals as goal

pub returns : goal.returns
returns c = start_has_x0_zero
