-- The headers of a core file (System V gABI, chapter 4, "ELF Header", and chapter 5, "Program Header"; RISC-V ELF
-- psABI, "File Header"). Fields have the names of the gABI, and their lowest byte first.
use Rattle.std.specs.Prelude.{ℕ, List, [], ◌∷◌, ◌++◌, replicate}
use Rattle.std.specs.Int.{w16, to_le_bytes}
use Rattle.std.specs.List.{flat_map}
use Rattle.log_model.specs.Logs.{word32}
use Rattle.elf_model.specs.Image.{ProgramHeader}

-- an Elf32_Half has two bytes; an Elf32_Word, an Elf32_Addr and an Elf32_Off have four
abbrev pub half : ℕ → List ℕ
half n = to_le_bytes w16 n

abbrev pub words : List ℕ → List ℕ
words ns = flat_map word32 ns

-- the magic number, ELFCLASS32, ELFDATA2LSB, EV_CURRENT, and zeros
abbrev pub e_ident : List ℕ
e_ident = 0x7f ∷ 0x45 ∷ 0x4c ∷ 0x46 ∷ 1 ∷ 1 ∷ 1 ∷ replicate 9 0

-- ET_CORE, EM_RISCV, EV_CURRENT; e_entry, e_phoff, e_shoff, e_flags; e_ehsize, e_phentsize, e_phnum; and the section
-- header table's three fields: nothing begins to run, two program headers follow, and there are no sections
abbrev pub elf_header : List ℕ
elf_header = e_ident
    ++ half 4 ++ half 243 ++ words (1 ∷ 0 ∷ 52 ∷ 0 ∷ 0 ∷ [])
    ++ half 52 ++ half 32 ++ half 2 ++ half 0 ++ half 0 ++ half 0

-- an entry of the program header table, with its p_flags and p_align. p_paddr is p_vaddr
abbrev pub header_bytes : ProgramHeader → ℕ → ℕ → List ℕ
header_bytes h flags align =
    words (h.p_type ∷ h.p_offset ∷ h.p_vaddr ∷ h.p_vaddr ∷ h.p_filesz ∷ h.p_memsz ∷ flags ∷ align ∷ [])

-- PT_NOTE: the note stands behind both program headers, and is at no address
abbrev pub note_header : ProgramHeader
note_header = record { p_type = 4; p_offset = 116; p_vaddr = 0; p_filesz = 224; p_memsz = 0 }

-- PT_LOAD: so many bytes from an address on stand behind the note
abbrev pub load_header : ℕ → ℕ → ProgramHeader
load_header base size = record { p_type = 1; p_offset = 340; p_vaddr = base; p_filesz = size; p_memsz = size }

-- what each core file begins with: the ELF header and that of the note, which may be read (PF_R), at a multiple of 4
unfoldable pub core_mark : List ℕ
core_mark = elf_header ++ header_bytes note_header 4 4
