use Rattle.core_file.proofs.Parts.{is_elf_core}
use Rattle.core_file.proofs.laws.core_is_elf.Goals as goal

pub returns : goal.returns
returns c = is_elf_core
