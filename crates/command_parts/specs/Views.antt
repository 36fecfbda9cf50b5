-- Programs and runs, as the definitions see them.
use Rattle.elf_image.specs.declared.program.Program.{Program as Opened}
use Rattle.command_parts.specs.declared.opening.Run.{Run as OpenedRun}
use Rattle.jet_model.specs.Contents.{Program, Run}

abbrev pub program_of : Opened → Program
program_of program = record { bytes = program.bytes.items; image = program.image }

abbrev pub run_of : OpenedRun → Run
run_of run = record { program = program_of run.program; log = run.log }
