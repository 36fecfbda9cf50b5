-- What writing a file leaves.
use Rattle.std.specs.Prelude.{◌≡◌, ◌⊎◌, ℕ, List, Some}
use Rattle.outer_io.specs.Tells.{IsPrefix, GainsPrefix}
use Rattle.outer_io.specs.Files.{Files, Text, KeepsOthers}

-- at most the file of this name differs
abbrev pub KeepsOtherFiles : Text → Files → Files → Type 0
KeepsOtherFiles name old new = (other : Text) → (other ≡ name → ⊥) → new.file other ≡ old.file other

-- the file of this name is the text
abbrev pub IsWritten : Text → List ℕ → Files → Files → Type 0
IsWritten name text old new = new.file name ≡ Some text

-- nothing was put, or the file of this name was created and the first bytes of the text were put
abbrev pub PutsPart : Text → List ℕ → Files → Files → Type 0
PutsPart name text old new = ((new.writing ≡ old.writing) × (new.put ≡ old.put)) ⊎ ((new.writing ≡ name) × IsPrefix new.put text)

-- the first of these bytes are put after those that were, and at most the file being written differs
pub record PutsFront (text : List ℕ) (old new : Files) : Type 0 where
  pub keeps : KeepsOthers old.writing old new
  pub writing : new.writing ≡ old.writing
  pub gains : GainsPrefix text old.put new.put
