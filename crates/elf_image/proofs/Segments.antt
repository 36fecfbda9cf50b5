-- The loaded entries of a file where none is wrong.
use Rattle.std.proofs.Common.{◌*◌, ◌/◌, ◌%◌, refl, ◌≡◌, ℕ, ◌+◌, ◌^◌, ◌≤◌, false, List, [], ◌∷◌, map, arith}
use Rattle.std.proofs.lemmas.Bool.Decides.{nat_tests}
use Rattle.std.proofs.lemmas.List.Elements.{All-nil, All-cons}
use Rattle.std.proofs.lemmas.List.{length-take}
use Rattle.std.specs.List.{All}
use Rattle.std.proofs.lemmas.Bool.{or_parts}
use Rattle.elf_model.specs.Image.{ProgramHeader, is_segment_wrong, is_any_segment_wrong, segment}
use Rattle.elf_image.specs.Layout.{AscendFrom, IsInFile, IsLaidOut, IsPlaced, based}

-- each lies in the file
abbrev pub AreInFile : ℕ → List ProgramHeader → Type 0
AreInFile n [] = Unit {0}
AreInFile n (h ∷ hs) = IsInFile n h × AreInFile n hs

-- an entry that isn't wrong lies in the file
in_file : (n e : ℕ) (h : ProgramHeader) → is_segment_wrong n e h ≡ false → IsInFile n h
in_file n e h right = grind (arith, nat_tests)

-- no entry past the file, where none is wrong
pub are_in_file : (n e : ℕ) (hs : List ProgramHeader) → is_any_segment_wrong n e hs ≡ false → AreInFile n hs
are_in_file n e [] right = tt
are_in_file n e (h ∷ hs) right = let both = or_parts (is_segment_wrong n e h) (is_any_segment_wrong n (h.p_vaddr + h.p_memsz) hs) right in
    (in_file n e h both.0, are_in_file n (h.p_vaddr + h.p_memsz) hs both.1)

-- an entry that isn't wrong begins above the end before it, has room for its bytes, and ends in the address space
right_segment : (n e : ℕ) (h : ProgramHeader) → is_segment_wrong n e h ≡ false → (e ≤ h.p_vaddr) × (h.p_filesz ≤ h.p_memsz) × (h.p_vaddr + h.p_memsz ≤ 2 ^ 32)
right_segment n e h right = (grind (arith, nat_tests), grind (arith, nat_tests), grind (arith, nat_tests))

-- entries that aren't wrong make segments that ascend
pub ascending : (file : List ℕ) (n e : ℕ) (hs : List ProgramHeader) → is_any_segment_wrong n e hs ≡ false → AscendFrom e (map (segment file) hs)
ascending file n e [] right = tt
ascending file n e (h ∷ hs) right = let both = or_parts (is_segment_wrong n e h) (is_any_segment_wrong n (h.p_vaddr + h.p_memsz) hs) right in
    ((right_segment n e h both.0).0, ascending file n (h.p_vaddr + h.p_memsz) hs both.1)

-- such an entry makes a segment that is placed above any base below it
placed_one : (file : List ℕ) (n e base : ℕ) (h : ProgramHeader) → base ≤ h.p_vaddr → is_segment_wrong n e h ≡ false → IsPlaced base (segment file h)
placed_one file n e base h below right = let facts = right_segment n e h right in
    record { above_base = below; has_room = omega (arith, length-take {A = ℕ}); in_space = facts.2 }

-- and so does each of a list of them
pub placed : (file : List ℕ) (n e base : ℕ) (hs : List ProgramHeader) → base ≤ e → is_any_segment_wrong n e hs ≡ false → All (IsPlaced base) (map (segment file) hs)
placed file n e base [] below right = All-nil (IsPlaced base)
placed file n e base (h ∷ hs) below right =
    let both = or_parts (is_segment_wrong n e h) (is_any_segment_wrong n (h.p_vaddr + h.p_memsz) hs) right in
    let facts = right_segment n e h both.0 in
    All-cons (IsPlaced base) _ _ (placed_one file n e base h (omega arith) both.0) (placed file n (h.p_vaddr + h.p_memsz) base hs (omega arith) both.1)

-- an address rounded down to a page
page_aligned : (a : ℕ) → a / 4096 * 4096 % 4096 ≡ 0
page_aligned a = omega arith

-- the image of entries that aren't wrong is laid out as it has to be
pub laid_out : (file : List ℕ) (n entry : ℕ) (hs : List ProgramHeader) → is_any_segment_wrong n 0 hs ≡ false → IsLaidOut (based entry (map (segment file) hs))
laid_out file n entry [] right = record { page_aligned = refl; placed = All-nil _; ascending = tt }
laid_out file n entry (h ∷ hs) right =
    let both = or_parts (is_segment_wrong n 0 h) (is_any_segment_wrong n (h.p_vaddr + h.p_memsz) hs) right in
    let below : h.p_vaddr / 4096 * 4096 ≤ h.p_vaddr = omega arith in
    record {
      page_aligned = page_aligned h.p_vaddr;
      placed = All-cons (IsPlaced (h.p_vaddr / 4096 * 4096)) _ _ (placed_one file n 0 (h.p_vaddr / 4096 * 4096) h below both.0) (placed file n (h.p_vaddr + h.p_memsz) (h.p_vaddr / 4096 * 4096) hs (omega arith) both.1);
      ascending = (below, ascending file n (h.p_vaddr + h.p_memsz) hs both.1);
    }
