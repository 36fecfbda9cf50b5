-- Files held in memory.
use Rattle.std.specs.Prelude.{ℕ, ◌+◌, ◌-◌, Bool, nat_le, nat_lt, min, List, [], ◌∷◌, ◌++◌, length, map, take, drop, Option, Some, None, unwrap_or, string_bytes, if◌then◌else◌}
use Rattle.std.specs.Str.{bytes_eq}
use Rattle.outer_io.specs.Files.{Files, Text}
use Rattle.memory_outside.specs.declared.file.MemoryFile.{MemoryFile}

-- the name and the content of each file
abbrev pub entries_of : List MemoryFile → List (Text × List ℕ)
entries_of files = map (λ file. (string_bytes file.name, file.bytes.items)) files

-- the content of the first file of this name
abbrev pub content_of : List (Text × List ℕ) → Text → Option (List ℕ)
content_of [] name = None
content_of (file ∷ files) name = if bytes_eq file.0 name then Some file.1 else content_of files name

-- the files, what is being read and what is being written, and the room that is left
pub record Held : Type 0 where
  -- the newest first
  pub files : List (Text × List ℕ)
  pub reading : Text
  pub taken : List ℕ
  pub writing : Text
  pub put : List ℕ
  -- how many bytes a file that is written can have
  pub room : ℕ
  -- how many more files can be finished
  pub files_left : ℕ

-- these files, of which none is read or written yet
abbrev pub held_of : List (Text × List ℕ) → ℕ → Held
held_of files room = record { files = files; reading = []; taken = []; writing = []; put = []; room = room; files_left = 8 }

-- the bytes left of the file being read
abbrev pub left_of : Held → List ℕ
left_of held = drop (length held.taken) (unwrap_or (content_of held.files held.reading) [])

-- ---- what there is room for

abbrev pub name_fits : Text → Bool
name_fits name = nat_le (length name) 4096

abbrev pub put_fits : List ℕ → Held → Bool
put_fits piece held = nat_le (length held.put + length piece) held.room

abbrev pub file_fits : Held → Bool
file_fits held = nat_lt 0 held.files_left

-- ---- after each call

abbrev pub after_begin_read : Text → Held → Held
after_begin_read name held = record held { reading = name; taken = [] }

-- how many bytes are read into a buffer of this room, where at most so many are moved
abbrev pub count_read : ℕ → ℕ → Held → ℕ
count_read room most held = min (min room most) (length (left_of held))

abbrev pub after_read : ℕ → Held → Held
after_read n held = record held { taken = held.taken ++ take n (left_of held) }

abbrev pub after_create : Text → Held → Held
after_create name held = record held { writing = name; put = [] }

abbrev pub after_put : List ℕ → Held → Held
after_put piece held = record held { put = held.put ++ piece }

abbrev pub after_finish : Held → Held
after_finish held = record held { files = (held.writing, held.put) ∷ held.files; writing = []; put = []; files_left = held.files_left - 1 }

-- ---- as stores tell them

abbrev pub files_of : Held → Files
files_of held = record {
  file = content_of held.files;
  reading = held.reading;
  taken = held.taken;
  writing = held.writing;
  put = held.put;
}

-- as a store tells them in which a missing file is an empty one
abbrev pub sure_files_of : Held → Files
sure_files_of held = record (files_of held) { file = λ name. Some (unwrap_or (content_of held.files name) []) }
