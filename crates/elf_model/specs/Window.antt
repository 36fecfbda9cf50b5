-- The window of memory that a run has, and the state that it begins in.
use Rattle.std.specs.Prelude.{ℕ, ◌+◌, ◌-◌, ◌*◌, ◌^◌, nat_le, Bool, ◌&&◌, if◌then◌else◌, List, [], ◌∷◌, replicate, Option, Some, None}
use Rattle.std.specs.List.{list_all}
use Rattle.isa.specs.Machine.{State, overwritten}
use Rattle.elf_model.specs.Image.{Image, LoadedSegment}

-- the window has this many pages of 4096 bytes from the image's base on. It can hold the image where it ends in the
-- address space and no segment ends past it
abbrev pub can_hold : Image → ℕ → Bool
can_hold im pages = let past = im.base + pages * 4096 in
    nat_le past (2 ^ 32) && list_all (λ s. nat_le (s.place + s.size) past) im.segments

-- memory with the segments' bytes in it
abbrev pub laid_out : ℕ → List ℕ → List LoadedSegment → List ℕ
laid_out base memory [] = memory
laid_out base memory (s ∷ ss) = laid_out base (overwritten memory (s.place - base) s.bytes) ss

-- the window's bytes: zeros, and the segments' bytes in them; none where it can't hold the image
abbrev pub window : Image → ℕ → Option (List ℕ)
window im pages = if can_hold im pages then Some (laid_out im.base (replicate (pages * 4096) 0) im.segments) else None

-- the pc is the entry, x2 is 16 below the window's end, and all other registers are 0
abbrev pub start_in : Image → ℕ → List ℕ → State
start_in im pages memory = record {
  pc = im.entry;
  registers = 0 ∷ 0 ∷ (im.base + pages * 4096 - 16) ∷ replicate 29 0;
  base = im.base;
  memory = memory;
}

abbrev pub start_with : Image → ℕ → Option (List ℕ) → Option State
start_with im pages None = None
start_with im pages (Some memory) = Some (start_in im pages memory)

-- the state that a run of the image begins in; none where the window can't hold the image
abbrev pub start_of : Image → ℕ → Option State
start_of im pages = start_with im pages (window im pages)
