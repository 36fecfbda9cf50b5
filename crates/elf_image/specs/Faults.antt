-- The faults of a program file in two parts: those of its ELF header, and then those of its program header table.
use Rattle.std.specs.Prelude.{ℕ, ◌==◌, Bool, not, ◌||◌, List, take, drop}
use Rattle.elf_model.specs.declared.ImageKind.{ImageKind}
use Rattle.elf_model.specs.Image.{e_version, e_ehsize, is_table_wrong, faults}

abbrev pub is_header_wrong : List ℕ → Bool
is_header_wrong file = not (e_version file == 1) || not (e_ehsize file == 52) || is_table_wrong file

abbrev pub header_faults : List ℕ → List (Bool × ImageKind)
header_faults file = take 6 (faults file)

abbrev pub table_faults : List ℕ → List (Bool × ImageKind)
table_faults file = drop 6 (faults file)
