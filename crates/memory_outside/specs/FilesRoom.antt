-- The room that is kept for files, so that their calls take no memory.
use Rattle.std.specs.Prelude.{◌≡◌, ◌≤◌, ◌+◌, ℕ, [], length, vec_len, vec_capacity, string_bytes}
use Rattle.std.specs.String.{string_capacity}
use Rattle.std.specs.List.{AllByRecursion}
use Rattle.memory_outside.specs.declared.file.MemoryFile.{MemoryFile}
use Rattle.memory_outside.specs.declared.files.MemoryFiles.TheInside.{Inside}

-- room for a name and for a file of so many bytes
pub record HasRoom (room : ℕ) (file : MemoryFile) : Type 0 where
  pub name : 4096 ≤ string_capacity file.name
  pub bytes : room ≤ vec_capacity file.bytes

-- the same, and there is nothing in it
pub record IsSpare (room : ℕ) (file : MemoryFile) : Type 0 where
  pub has_room : HasRoom room file
  pub no_name : string_bytes file.name ≡ []
  pub no_bytes : file.bytes.items ≡ []

abbrev pub IsWithin : ℕ → MemoryFile → Type 0
IsWithin longest file = length file.bytes.items ≤ longest

pub record IsRoomy (f : Inside) : Type 0 where
  pub reading : 4096 ≤ string_capacity f.reading
  pub taken : f.longest ≤ vec_capacity f.taken
  pub reached : vec_len f.taken ≤ f.longest
  pub room : f.room ≤ f.longest
  pub files : AllByRecursion (IsWithin f.longest) f.files.items
  pub draft : HasRoom f.room f.draft
  pub put : length f.draft.bytes.items ≤ f.room
  pub spares : AllByRecursion (IsSpare f.room) f.spares.items
  pub more_files : length f.files.items + length f.spares.items ≤ vec_capacity f.files
