-- The file of a program of two instructions has the image of one segment, as the checker computes it.
use Rattle.std.proofs.Common.{◌≡◌, [], ◌∷◌, Ok, pos, refl}
use Rattle.isa.specs.declared.Instr.TheVariants.{Addi, Ecall}
use Rattle.elf_model.specs.Image.{image}
use Rattle.guest_assembler.specs.ProgramFile.{program_file}

-- li x17, 93; ecall
exit : image (program_file (Addi 17 0 (pos 93) ∷ Ecall ∷ [])) ≡ Ok (record { base = 0x10000; entry = 0x10000; segments = record { place = 0x10000; bytes = 0x93 ∷ 0x08 ∷ 0xd0 ∷ 0x05 ∷ 0x73 ∷ 0 ∷ 0 ∷ 0 ∷ []; size = 8 } ∷ [] })
exit = refl
