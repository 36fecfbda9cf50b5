-- The image of a program file, or the first fault of the file (System V gABI, "ELF Header", "Program Header" and
-- "Program Loading"). Fields have the names of the gABI.
use Rattle.std.specs.Prelude.{ℕ, ◌+◌, ◌*◌, ◌/◌, ◌%◌, ◌^◌, ◌==◌, nat_lt, nat_le, Bool, false, not, ◌&&◌, ◌||◌, List, [], ◌∷◌, map, length, take, drop, Option, Some, None, Result, Ok, Err}
use Rattle.std.specs.List.{filter, list_any, range_with_len}
use Rattle.std.specs.Str.{bytes_eq}
use Rattle.elf_model.specs.declared.ImageKind.{ImageKind}
use Rattle.elf_model.specs.declared.ImageKind.TheVariants.{Short, Magic, Class, Kind, Machine, Header, Dynamic, Segment, NoSegment, Entry}
use Rattle.lists.specs.Fields.{half_at, word_at}
use Rattle.lists.specs.FirstTrue.{first_true}

-- the fields of the ELF header: an Elf32_Half has two bytes, an Elf32_Word, Elf32_Addr or Elf32_Off has four
abbrev pub e_type : List ℕ → ℕ
e_type file = half_at file 16

abbrev pub e_machine : List ℕ → ℕ
e_machine file = half_at file 18

abbrev pub e_version : List ℕ → ℕ
e_version file = word_at file 20

abbrev pub e_entry : List ℕ → ℕ
e_entry file = word_at file 24

abbrev pub e_phoff : List ℕ → ℕ
e_phoff file = word_at file 28

abbrev pub e_ehsize : List ℕ → ℕ
e_ehsize file = half_at file 40

abbrev pub e_phentsize : List ℕ → ℕ
e_phentsize file = half_at file 42

abbrev pub e_phnum : List ℕ → ℕ
e_phnum file = half_at file 44

-- one entry of the program header table
pub record ProgramHeader : Type 0 where
  pub p_type : ℕ
  pub p_offset : ℕ
  pub p_vaddr : ℕ
  pub p_filesz : ℕ
  pub p_memsz : ℕ

abbrev pub program_header : List ℕ → ℕ → ProgramHeader
program_header file k = let at = e_phoff file + 32 * k in
    record { p_type = word_at file at; p_offset = word_at file (at + 4); p_vaddr = word_at file (at + 8); p_filesz = word_at file (at + 16); p_memsz = word_at file (at + 20) }

abbrev pub program_headers : List ℕ → List ProgramHeader
program_headers file = map (program_header file) (range_with_len 0 (e_phnum file))

-- PT_DYNAMIC is 2, PT_INTERP 3
abbrev pub is_dynamic : ProgramHeader → Bool
is_dynamic h = (h.p_type == 2) || (h.p_type == 3)

-- PT_LOAD is 1. An entry of no size at all is skipped, as those of other types are
abbrev pub is_loaded : ProgramHeader → Bool
is_loaded h = (h.p_type == 1) && not ((h.p_filesz == 0) && (h.p_memsz == 0))

-- the loaded entries, in the order of the table
abbrev pub loaded_headers : List ℕ → List ProgramHeader
loaded_headers file = filter is_loaded (program_headers file)

-- a loaded entry past its own size, the file, the address space, or not above the end of the loaded entry before it
abbrev pub is_segment_wrong : ℕ → ℕ → ProgramHeader → Bool
is_segment_wrong file_length end_before h =
    nat_lt h.p_memsz h.p_filesz || (nat_lt 0 h.p_filesz && nat_lt file_length (h.p_offset + h.p_filesz))
    || nat_lt (2 ^ 32) (h.p_vaddr + h.p_memsz) || nat_lt h.p_vaddr end_before

abbrev pub is_any_segment_wrong : ℕ → ℕ → List ProgramHeader → Bool
is_any_segment_wrong file_length end_before [] = false
is_any_segment_wrong file_length end_before (h ∷ hs) =
    is_segment_wrong file_length end_before h || is_any_segment_wrong file_length (h.p_vaddr + h.p_memsz) hs

abbrev pub holds_address : ℕ → ProgramHeader → Bool
holds_address a h = nat_le h.p_vaddr a && nat_lt a (h.p_vaddr + h.p_memsz)

-- where the table of program headers is wrong; with no entry neither field is looked at
abbrev pub is_table_wrong : List ℕ → Bool
is_table_wrong file =
    nat_lt 0 (e_phnum file) && (not (e_phentsize file == 32) || nat_lt (length file) (e_phoff file + 32 * e_phnum file))

-- the faults of a file, in this order
abbrev pub faults : List ℕ → List (Bool × ImageKind)
faults file =
    (nat_lt (length file) 52, Short) ∷
    (not (bytes_eq (take 4 file) (0x7f ∷ 0x45 ∷ 0x4c ∷ 0x46 ∷ [])), Magic) ∷
    (not (bytes_eq (take 3 (drop 4 file)) (1 ∷ 1 ∷ 1 ∷ [])), Class) ∷
    (not (e_type file == 2), Kind) ∷
    (not (e_machine file == 243), Machine) ∷
    (not (e_version file == 1) || not (e_ehsize file == 52) || is_table_wrong file, Header) ∷
    (list_any is_dynamic (program_headers file), Dynamic) ∷
    (is_any_segment_wrong (length file) 0 (loaded_headers file), Segment) ∷
    (length (loaded_headers file) == 0, NoSegment) ∷
    (not (e_entry file % 4 == 0) || not (list_any (holds_address (e_entry file)) (loaded_headers file)), Entry) ∷ []

-- a loaded segment: its address, its bytes in the file, and its size in memory; zeros follow the bytes
pub record LoadedSegment : Type 0 where
  pub place : ℕ
  pub bytes : List ℕ
  pub size : ℕ

pub record Image : Type 0 where
  pub base : ℕ
  pub entry : ℕ
  pub segments : List LoadedSegment

abbrev pub segment : List ℕ → ProgramHeader → LoadedSegment
segment file h = record { place = h.p_vaddr; bytes = take h.p_filesz (drop h.p_offset file); size = h.p_memsz }

-- segments ascend, so the first is the lowest
abbrev pub lowest : List LoadedSegment → ℕ
lowest [] = 0
lowest (s ∷ ss) = s.place

-- the base is the lowest address, rounded down to a page
abbrev pub image_of : List ℕ → Image
image_of file = let segments = map (segment file) (loaded_headers file) in
    record { base = lowest segments / 4096 * 4096; entry = e_entry file; segments = segments }

abbrev pub unless_faulty : List ℕ → Option ImageKind → Result Image ImageKind
unless_faulty file None = Ok (image_of file)
unless_faulty file (Some kind) = Err kind

-- the image of a file, or its first fault
abbrev pub image : List ℕ → Result Image ImageKind
image file = unless_faulty file (first_true (faults file))
