-- What a store tells of its files, and what its calls do to that.
use Rattle.std.specs.Prelude.{◌≡◌, ◌<◌, ℕ, List, [], ◌++◌, length, drop, Option, Some, IsSome, unwrap_or}
use Rattle.outer_io.specs.Tells.{IsPrefix}

-- a name, as its bytes
abbrev pub Text : Type 0
Text = List ℕ

pub record Files : Type 0 where
  -- the content of the file of a name, if there is one
  pub file : Text → Option (List ℕ)
  -- the name being read, and the bytes taken since its `begin_read`
  pub reading : Text
  pub taken : List ℕ
  -- the name being written, and the bytes put since its `create`
  pub writing : Text
  pub put : List ℕ

-- what is left to read: the file that now has the name, from the place reached on
abbrev pub rest_of : Files → List ℕ
rest_of files = drop (length files.taken) (unwrap_or (files.file files.reading) [])

-- no file differs, nor does what is being written
pub record KeepsFiles (old new : Files) : Type 0 where
  pub file : new.file ≡ old.file
  pub writing : new.writing ≡ old.writing
  pub put : new.put ≡ old.put

-- at most the file of this name differs, and what is being read doesn't
pub record KeepsOthers (name : Text) (old new : Files) : Type 0 where
  pub others : (other : Text) → (other ≡ name → ⊥) → new.file other ≡ old.file other
  pub reading : new.reading ≡ old.reading
  pub taken : new.taken ≡ old.taken

-- this file is there, and is being read from its start
pub record BeginsRead (name : Text) (old new : Files) : Type 0 where
  pub keeps : KeepsFiles old new
  pub reading : new.reading ≡ name
  pub taken : new.taken ≡ []
  pub is_there : IsSome (new.file name)

-- `got` are the next bytes of the file, into a buffer of this room; none are the file's end
pub record Takes (room : ℕ) (got : List ℕ) (old new : Files) : Type 0 where
  pub keeps : KeepsFiles old new
  pub reading : new.reading ≡ old.reading
  pub taken : new.taken ≡ old.taken ++ got
  pub next : IsPrefix got (rest_of old)
  pub at_end : 0 < room → length got ≡ 0 → rest_of old ≡ []

-- nothing is taken
pub record TakesNone (old new : Files) : Type 0 where
  pub keeps : KeepsFiles old new
  pub reading : new.reading ≡ old.reading
  pub taken : new.taken ≡ old.taken

-- this file is being written, and nothing is put yet
pub record Creates (name : Text) (old new : Files) : Type 0 where
  pub keeps : KeepsOthers name old new
  pub writing : new.writing ≡ name
  pub put : new.put ≡ []

-- these bytes are put after those that were
pub record Puts (piece : List ℕ) (old new : Files) : Type 0 where
  pub keeps : KeepsOthers old.writing old new
  pub writing : new.writing ≡ old.writing
  pub put : new.put ≡ old.put ++ piece

-- the file that was being written is what was put
pub record Finishes (old new : Files) : Type 0 where
  pub keeps : KeepsOthers old.writing old new
  pub content : new.file old.writing ≡ Some old.put

-- nothing is put, and the file of this name may be anything
pub record PutsNone (name : Text) (old new : Files) : Type 0 where
  pub keeps : KeepsOthers name old new
  pub writing : new.writing ≡ old.writing
  pub put : new.put ≡ old.put

-- the same of the file being written
abbrev pub FailsToPut : Files → Files → Type 0
FailsToPut old new = PutsNone old.writing old new
