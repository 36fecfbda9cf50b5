-- A store in memory whose calls can fail: what each call answers, and the store after it.
use Rattle.std.specs.Prelude.{ℕ, ◌&&◌, min, Bool, true, false, List, take, length, Option, Some, None, is_some, if◌then◌else◌}
use Rattle.outer_io.specs.Files.{Text}
use Rattle.outer_io.specs.Faults.{shown_count}
use Rattle.outer_io.specs.Shown.{StoreShown}
use Rattle.memory_outside.specs.Held.{Held, content_of, files_of, name_fits, put_fits, file_fits, count_read, after_begin_read, after_read, after_create, after_put, after_finish}
use Rattle.memory_outside.specs.Names.{Opened, after_note}
use Rattle.memory_outside.specs.Calls.{Calling, goes_through, after_call}

pub record MemoryStored : Type 0 where
  -- the files, what is being read and what is being written, and the room for more
  pub held : Held
  -- the names handed to it, and the room for more
  pub opened : Opened
  -- the numbers of the calls that fail, and of the next one
  pub calls : Calling
  -- how many bytes a call moves at most
  pub piece : ℕ
  pub is_open : Bool
  pub is_created : Bool

abbrev pub memory_store_shown : MemoryStored → StoreShown
memory_store_shown s = record { files = Some (files_of s.held); opened = s.opened.names; faults = shown_count s.calls.faults }

-- ---- a file is opened: it fails where there is none of the name, or the name is too long

abbrev pub begun : Bool → Text → MemoryStored → Bool × MemoryStored
begun went name s = (
  went,
  record s {
    held = if went then after_begin_read name s.held else s.held;
    opened = after_note name s.opened;
    calls = after_call went s.calls;
    is_open = went;
  },
)

abbrev pub memory_begin_read : Text → MemoryStored → Bool × MemoryStored
memory_begin_read name s = begun (goes_through (is_some (content_of s.held.files name) && name_fits name) s.calls) name s

-- ---- bytes are read into a buffer of this room

abbrev pub read_if : Bool → ℕ → MemoryStored → Option ℕ × MemoryStored
read_if went n s = (
  if went then Some n else None,
  record s { held = if went then after_read n s.held else s.held; calls = after_call went s.calls },
)

abbrev pub memory_read : ℕ → MemoryStored → Option ℕ × MemoryStored
memory_read room s = read_if (goes_through true s.calls) (count_read room s.piece s.held) s

-- ---- a file is created: it fails where the name is too long

abbrev pub created : Bool → Text → MemoryStored → Bool × MemoryStored
created went name s = (
  went,
  record s {
    held = if went then after_create name s.held else s.held;
    opened = after_note name s.opened;
    calls = after_call went s.calls;
    is_created = went;
  },
)

abbrev pub memory_create : Text → MemoryStored → Bool × MemoryStored
memory_create name s = created (goes_through (name_fits name) s.calls) name s

-- ---- a piece is put: it fails where there is no room for it

abbrev pub put_if : Bool → List ℕ → MemoryStored → Option ℕ × MemoryStored
put_if went moved s = (
  if went then Some (length moved) else None,
  record s { held = if went then after_put moved s.held else s.held; calls = after_call went s.calls },
)

abbrev pub put_moved : List ℕ → MemoryStored → Option ℕ × MemoryStored
put_moved moved s = put_if (goes_through (put_fits moved s.held) s.calls) moved s

abbrev pub memory_put : List ℕ → MemoryStored → Option ℕ × MemoryStored
memory_put piece s = put_moved (take (min (length piece) s.piece) piece) s

-- ---- the file is finished: it fails where no more can be

abbrev pub finished : Bool → MemoryStored → Bool × MemoryStored
finished went s = (
  went,
  record s {
    held = if went then after_finish s.held else s.held;
    calls = after_call went s.calls;
    is_created = false;
  },
)

abbrev pub memory_finish : MemoryStored → Bool × MemoryStored
memory_finish s = finished (goes_through (file_fits s.held) s.calls) s
