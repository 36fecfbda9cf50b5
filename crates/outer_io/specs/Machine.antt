-- What is known of the machine's files and of a writer: they tell nothing of what they hold.
use Rattle.std.specs.Prelude.{ℕ, Bool, None}
use Rattle.outer_io.specs.Faults.{shown_count}
use Rattle.outer_io.specs.Shown.{StoreShown, SinkShown}

pub record MachineFiles : Type 0 where
  pub is_open : Bool
  pub is_created : Bool
  -- how often a call failed
  pub faults : ℕ

abbrev pub machine_files_shown : MachineFiles → StoreShown
machine_files_shown s = record { files = None; opened = None; faults = shown_count s.faults }

pub record MachineWriter : Type 0 where
  -- how often a put failed
  pub faults : ℕ

abbrev pub machine_writer_shown : MachineWriter → SinkShown
machine_writer_shown s = record { written = None; faults = shown_count s.faults }
