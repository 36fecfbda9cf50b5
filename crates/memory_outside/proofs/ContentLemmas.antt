-- The first file of a name.
use Rattle.std.proofs.Common.{◌≡◌, ◌≤◌, ◌-◌, ◌∙◌, ap, length, length-drop, Bool, unwrap_or, arith, ℕ, zero, suc, ◌+◌, List, [], ◌∷◌, drop, Some, true, false, refl, slice_get, string_bytes, add-one}
use Rattle.std.specs.Str.{bytes_eq}
use Rattle.outer_io.specs.Files.{Text}
use Rattle.std.specs.List.{AllByRecursion}
use Rattle.memory_outside.specs.FilesRoom.{IsWithin}
use Rattle.memory_outside.specs.Held.{entries_of, content_of}
use Rattle.memory_outside.specs.declared.file.MemoryFile.{MemoryFile}

-- the file at this place has the name
pub content_here : (files : List MemoryFile) (i : ℕ) (file : MemoryFile) (name : Text)
    → slice_get files i ≡ Some file → bytes_eq (string_bytes file.name) name ≡ true → content_of (entries_of (drop i files)) name ≡ Some file.bytes.items
content_here [] i file name here same = cc
content_here (f ∷ files) zero file name here same =
    let e : f ≡ file = cc in
    rw (e, same) refl
content_here (f ∷ files) (suc i) file name here same = content_here files i file name here same

-- it has another one
pub content_later : (files : List MemoryFile) (i : ℕ) (file : MemoryFile) (name : Text)
    → slice_get files i ≡ Some file → bytes_eq (string_bytes file.name) name ≡ false → content_of (entries_of (drop (i + 1) files)) name ≡ content_of (entries_of (drop i files)) name
content_later [] i file name here other = cc
content_later (f ∷ files) zero file name here other =
    let e : f ≡ file = cc in
    rw (e, other) refl
content_later (f ∷ files) (suc i) file name here other = rw add-one (rw add-one at (content_later files i file name here other))

-- no content is longer than the longest
pub content_within : (longest : ℕ) (files : List MemoryFile) (name : Text) → AllByRecursion (IsWithin longest) files
    → length (unwrap_or (content_of (entries_of files) name) []) ≤ longest
content_within longest [] name h = omega arith
content_within longest (f ∷ files) name h = by (bytes_eq (string_bytes f.name) name) refl (content_within longest files name h.1) where
  by : (same : Bool) → bytes_eq (string_bytes f.name) name ≡ same → length (unwrap_or (content_of (entries_of files) name) []) ≤ longest → length (unwrap_or (content_of (entries_of (f ∷ files)) name) []) ≤ longest
  by true e later = rw e h.0
  by false e later = rw e later

-- what is read on stays within it too
pub taken_within : (longest : ℕ) (files : List MemoryFile) (name : Text) (reached count : ℕ) (rest : List ℕ)
    → AllByRecursion (IsWithin longest) files → reached ≤ longest → rest ≡ drop reached (unwrap_or (content_of (entries_of files) name) [])
    → count ≤ length rest → reached + count ≤ longest
taken_within longest files name reached count rest within so_far is count_is =
    let whole = unwrap_or (content_of (entries_of files) name) [] in
    let long : length whole ≤ longest = content_within longest files name within in
    let left : length rest ≡ length whole - reached = ap length is ∙ length-drop reached whole in
    omega (arith, long, left)
