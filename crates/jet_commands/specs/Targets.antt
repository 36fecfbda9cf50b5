-- Where a command writes; which files a store keeps, and which names are opened. `old` and `new` are what it shows before and after.
use Rattle.std.specs.Prelude.{List, [], ◌∷◌}
use Rattle.outer_io.specs.Files.{Text, Files, KeepsFiles}
use Rattle.outer_io.specs.Shown.{StoreShown}
use Rattle.outer_io.specs.Tells.{Tells, Gains, GainsPrefix}
use Rattle.outer_io.specs.WriteFile.{KeepsOtherFiles}

pub data Target : Type 0 where
  ToOutput : Target
  ToFile : Text → Target

-- a file that is written stands after those that are read
abbrev pub written_in : Target → List Text
written_in ToOutput = []
written_in (ToFile name) = name ∷ []

-- what holds where a command writes to a file alone
abbrev pub IfFile : Target → Type 0 → Type 0
IfFile ToOutput P = Unit {0}
IfFile (ToFile name) P = P

-- these names were opened, in their order, and no others
abbrev pub OpensAll : List Text → StoreShown → StoreShown → Type 0
OpensAll names old new = Tells old.opened new.opened (Gains names)

-- only the first of these were
abbrev pub OpensFirst : List Text → StoreShown → StoreShown → Type 0
OpensFirst names old new = Tells old.opened new.opened (GainsPrefix names)

-- no file differs
abbrev pub KeepsAll : StoreShown → StoreShown → Type 0
KeepsAll old new = Tells old.files new.files KeepsFiles

-- no file differs, but for one that is written
abbrev pub KeepsAllBut : Target → Files → Files → Type 0
KeepsAllBut ToOutput = KeepsFiles
KeepsAllBut (ToFile name) = KeepsOtherFiles name

abbrev pub KeepsBut : Target → StoreShown → StoreShown → Type 0
KeepsBut target old new = Tells old.files new.files (KeepsAllBut target)
