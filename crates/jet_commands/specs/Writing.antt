-- Where a text goes, and what of it.
use Rattle.std.specs.Prelude.{ℕ, List}
use Rattle.outer_io.specs.Faults.{Rose}
use Rattle.outer_io.specs.Shown.{StoreShown, SinkShown}
use Rattle.outer_io.specs.Tells.{Tells, Gains, GainsPrefix}
use Rattle.outer_io.specs.Files.{Files}
use Rattle.outer_io.specs.WriteFile.{IsWritten, PutsPart}
use Rattle.jet_commands.specs.Targets.{Target, ToOutput, ToFile}

-- the text was written whole: where the output tells what was written, it gained the text; or the file is the text
abbrev pub Delivers : Target → SinkShown → SinkShown → List ℕ → Files → Files → Type 0
Delivers ToOutput out_old out_new text old new = Tells out_old.written out_new.written (Gains text)
Delivers (ToFile name) out_old out_new text old new = IsWritten name text old new

-- at most the first bytes of the text were written
abbrev pub DeliversPart : Target → SinkShown → SinkShown → List ℕ → Files → Files → Type 0
DeliversPart ToOutput out_old out_new text old new = Tells out_old.written out_new.written (GainsPrefix text)
DeliversPart (ToFile name) out_old out_new text old new = PutsPart name text old new

-- the output failed, or the store where a file is written
abbrev pub FailsToWrite : Target → StoreShown → StoreShown → SinkShown → SinkShown → Type 0
FailsToWrite ToOutput old new out_old out_new = Rose out_old.faults out_new.faults
FailsToWrite (ToFile name) old new out_old out_new = Rose old.faults new.faults
