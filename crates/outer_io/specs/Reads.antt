-- What calls that read files leave of a store.
use Rattle.std.specs.Prelude.{◌≤◌, List, Bool, true, false}
use Rattle.outer_io.specs.Tells.{Tells, Gains, GainsPrefix}
use Rattle.outer_io.specs.Files.{Text, KeepsFiles}
use Rattle.outer_io.specs.Shown.{StoreShown}

-- these names were handed to the store, in their order: all of them, or only the first of them
abbrev pub Opens : List Text → Bool → List Text → List Text → Type 0
Opens names true = Gains names
Opens names false = GainsPrefix names

-- no file differs, nor does what is being written; these names were opened, all or the first of them; and the count of faults
-- didn't fall
pub record Reads (names : List Text) (all : Bool) (old new : StoreShown) : Type 0 where
  pub keeps : Tells old.files new.files KeepsFiles
  pub opened : Tells old.opened new.opened (Opens names all)
  pub later : old.faults ≤ new.faults
