-- The status of a command, and its line on standard error.
use Rattle.std.specs.Prelude.{◌≤◌, ℕ, List, Result, Ok, Err}
use Rattle.outer_io.specs.Faults.{Rose}
use Rattle.outer_io.specs.Shown.{SinkShown}
use Rattle.outer_io.specs.Tells.{Tells, Gains, GainsPrefix}
use Rattle.jet_refusal.specs.declared.refusal.Refusal.{Refusal}
use Rattle.jet_refusal.specs.Refusals.{status_of}

abbrev pub status_after : {A : Type 0} → Result A Refusal → ℕ
status_after (Ok done) = 0
status_after (Err refusal) = status_of refusal

-- where the error output tells what was written, it gained a beginning of this line, and where it didn't fail the whole line
pub record Says (old new : SinkShown) (line : List ℕ) : Type 0 where
  pub later : old.faults ≤ new.faults
  pub part : Tells old.written new.written (GainsPrefix line)
  pub whole : (Rose old.faults new.faults → ⊥) → Tells old.written new.written (Gains line)
