-- A store in memory whose calls never fail: what each call answers, and the store after it.
use Rattle.std.specs.Prelude.{◌≡◌, ℕ, ◌-◌, ◌^◌, ◌||◌, not, Bool, true, false, List, [], length, Option, Some, None, if◌then◌else◌}
use Rattle.outer_io.specs.Files.{Text}
use Rattle.outer_io.specs.Shown.{StoreShown}
use Rattle.memory_outside.specs.Held.{Held, sure_files_of, name_fits, put_fits, file_fits, count_read, after_begin_read, after_read, after_create, after_put, after_finish}
use Rattle.memory_outside.specs.Names.{Opened, after_note}

pub record SureStored : Type 0 where
  -- the files, what is being read and what is being written, and the room for more
  pub held : Held
  -- the names handed to it, and the room for more
  pub opened : Opened
  -- whether a call wanted more than the room
  pub is_lost : Bool
  pub is_open : Bool
  pub is_created : Bool

abbrev pub sure_store_shown : SureStored → StoreShown
sure_store_shown s = record { files = if s.is_lost then None else Some (sure_files_of s.held); opened = s.opened.names; faults = 0 }

-- no call so far wanted more than the room
abbrev pub StaysWithinRoom : SureStored → Type 0
StaysWithinRoom s = s.is_lost ≡ false

-- where there is no room for the name, that of no file
abbrev pub fitting : Text → Text
fitting name = if name_fits name then name else []

abbrev pub sure_begin_read : Text → SureStored → Bool × SureStored
sure_begin_read name s = (
  true,
  record s {
    held = after_begin_read (fitting name) s.held;
    opened = after_note name s.opened;
    is_lost = s.is_lost || not (name_fits name);
    is_open = true;
  },
)

-- into a buffer of this room
abbrev pub sure_read : ℕ → SureStored → Option ℕ × SureStored
sure_read room s = let n = count_read room (2 ^ 64 - 1) s.held in (Some n, record s { held = after_read n s.held })

abbrev pub sure_create : Text → SureStored → Bool × SureStored
sure_create name s = (
  true,
  record s {
    held = after_create (fitting name) s.held;
    opened = after_note name s.opened;
    is_lost = s.is_lost || not (name_fits name);
    is_created = true;
  },
)

abbrev pub sure_put : List ℕ → SureStored → Option ℕ × SureStored
sure_put piece s = (
  Some (length piece),
  record s {
    held = if put_fits piece s.held then after_put piece s.held else s.held;
    is_lost = s.is_lost || not (put_fits piece s.held);
  },
)

abbrev pub sure_finish : SureStored → Bool × SureStored
sure_finish s = (
  true,
  record s {
    held = if file_fits s.held then after_finish s.held else s.held;
    is_lost = s.is_lost || not (file_fits s.held);
    is_created = false;
  },
)
