-- How the segments of an image lie in the address space, and in the file.
use Rattle.std.specs.Prelude.{◌≡◌, ℕ, ◌+◌, ◌*◌, ◌/◌, ◌%◌, ◌^◌, ◌<◌, ◌≤◌, List, [], ◌∷◌, length}
use Rattle.std.specs.List.{All}
use Rattle.elf_model.specs.Image.{Image, LoadedSegment, ProgramHeader, lowest}

-- a segment begins at or above the base and ends in the address space, and has room for its bytes
pub record IsPlaced (base : ℕ) (s : LoadedSegment) : Type 0 where
  pub above_base : base ≤ s.place
  pub has_room : length s.bytes ≤ s.size
  pub in_space : s.place + s.size ≤ 2 ^ 32

-- each segment begins at or above the end of the one before it, and the first at or above an address
abbrev pub AscendFrom : ℕ → List LoadedSegment → Type 0
AscendFrom a [] = Unit {0}
AscendFrom a (s ∷ ss) = (a ≤ s.place) × AscendFrom (s.place + s.size) ss

-- the base begins a page, and the segments lie above it, in order and apart
pub record IsLaidOut (im : Image) : Type 0 where
  pub page_aligned : im.base % 4096 ≡ 0
  pub placed : All (IsPlaced im.base) im.segments
  pub ascending : AscendFrom im.base im.segments

-- the image of segments whose base is the first one's page
abbrev pub based : ℕ → List LoadedSegment → Image
based entry segments = record { base = lowest segments / 4096 * 4096; entry = entry; segments = segments }

-- the bytes of an entry, if it has any, lie in a file of this length
abbrev pub IsInFile : ℕ → ProgramHeader → Type 0
IsInFile file_length h = 0 < h.p_filesz → h.p_offset + h.p_filesz ≤ file_length
