-- A program file of one segment: an ELF header, one program header, and the code, which is loaded at 0x10000 and begins
-- there (System V gABI, "ELF Header" and "Program Header").
use Rattle.std.specs.Prelude.{ℕ, ◌*◌, ◌%◌, ◌^◌, List, [], ◌∷◌, ◌++◌, length}
use Rattle.std.specs.Int.{w32, to_le_bytes}
use Rattle.std.specs.List.{All, flat_map}
use Rattle.isa.specs.declared.Instr.{Instr}
use Rattle.isa.specs.Encodings.{Fits, encoding}

-- e_ident; ET_EXEC, EM_RISCV, EV_CURRENT; e_entry, e_phoff, e_shoff, e_flags; the sizes and counts. Then PT_LOAD, p_offset,
-- p_vaddr, p_paddr
abbrev pub up_to_sizes : List ℕ
up_to_sizes =
    0x7f ∷ 0x45 ∷ 0x4c ∷ 0x46 ∷ 1 ∷ 1 ∷ 1 ∷ 0 ∷ 0 ∷ 0 ∷ 0 ∷ 0 ∷ 0 ∷ 0 ∷ 0 ∷ 0 ∷
    2 ∷ 0 ∷ 243 ∷ 0 ∷ 1 ∷ 0 ∷ 0 ∷ 0 ∷
    0 ∷ 0 ∷ 1 ∷ 0 ∷ 52 ∷ 0 ∷ 0 ∷ 0 ∷ 0 ∷ 0 ∷ 0 ∷ 0 ∷ 0 ∷ 0 ∷ 0 ∷ 0 ∷
    52 ∷ 0 ∷ 32 ∷ 0 ∷ 1 ∷ 0 ∷ 0 ∷ 0 ∷ 0 ∷ 0 ∷ 0 ∷ 0 ∷
    1 ∷ 0 ∷ 0 ∷ 0 ∷ 84 ∷ 0 ∷ 0 ∷ 0 ∷ 0 ∷ 0 ∷ 1 ∷ 0 ∷ 0 ∷ 0 ∷ 1 ∷ 0 ∷ []

-- p_filesz and p_memsz are the size; p_flags is 7, p_align 4
abbrev pub headers : ℕ → List ℕ
headers size = up_to_sizes ++ to_le_bytes w32 size ++ to_le_bytes w32 size ++ (7 ∷ 0 ∷ 0 ∷ 0 ∷ 4 ∷ 0 ∷ 0 ∷ 0 ∷ [])

-- four bytes for each instruction, as a field of 32 bits
abbrev pub size_of : List Instr → ℕ
size_of code = length code % 2 ^ 30 * 4

abbrev pub bytes_of : List Instr → List ℕ
bytes_of code = flat_map (λ i. to_le_bytes w32 (encoding i)) code

abbrev pub program_file : List Instr → List ℕ
program_file code = headers (size_of code) ++ bytes_of code

-- some word stands for each instruction
abbrev pub HaveWords : List Instr → Type 0
HaveWords code = All Fits code
