use Rattle.std.proofs.Common.{◌≡◌, ◌++◌, take}
use Rattle.guest_assembler.specs.ProgramFile.{headers, size_of, bytes_of, HaveWords}
use Rattle.guest_assembler.proofs.program_file.program.Given as goal

abbrev pub invariant-loop-instr : goal.invariant-loop-instr
invariant-loop-instr l = HaveWords l.code → l.file.items ≡ headers (size_of l.code) ++ bytes_of (take l.instr-index l.code)
