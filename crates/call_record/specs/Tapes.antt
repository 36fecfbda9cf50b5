-- The records of a run, as far as a recorded log may be long. The length of its text is counted as a number of 64 bits.
use Rattle.std.specs.Prelude.{◌≡◌, ℕ, ◌+◌, ◌*◌, ◌^◌, ◌<◌, ◌≤◌, List, [], ◌∷◌, ◌++◌, length}
use Rattle.std.specs.List.{sum_by}
use Rattle.log_model.specs.declared.Version.TheVariants.{Two}
use Rattle.log_model.specs.declared.CallRecord.{CallRecord}
use Rattle.log_model.specs.declared.RunEnd.{RunEnd}
use Rattle.log_model.specs.Logs.{Log, IsLog, log_text, end_text, share}
use Rattle.record_model.specs.Counts.{capped}
use Rattle.call_record.specs.declared.tape.Tape.{Tape}
use Rattle.record_model.specs.declared.Unrecorded.{Unrecorded}
use Rattle.record_model.specs.declared.Unrecorded.TheVariants.{Window, LogTooLong}

-- the record counts, and it is kept where the text is within the limit with it; else nothing more is kept
pub record Adds (before : Tape) (r : CallRecord) (after : Tape) : Type 0 where
  pub inputs : after.inputs ≡ before.inputs
  pub counted : after.size ≡ capped (before.size + share before.inputs r)
  pub kept : after.size ≤ 2 ^ 26 → after.records.items ≡ before.records.items ++ r ∷ []
  pub not_kept : 2 ^ 26 < after.size → after.records.items ≡ before.records.items

-- the tape has these records
pub record Holds (tape : Tape) (records : List CallRecord) : Type 0 where
  pub counted : tape.size ≡ capped (48 + 4 * tape.inputs + sum_by (share tape.inputs) records)
  pub kept : tape.size ≤ 2 ^ 26 → tape.records.items ≡ records

abbrev pub log_with : ℕ → ℕ → List ℕ → List CallRecord → RunEnd → Log
log_with pages inputs digest records end = record
    { pages = pages; inputs = inputs; digest = digest; records = records; end = end }

-- the log of the records that a tape keeps
abbrev pub log_of : Tape → ℕ → List ℕ → RunEnd → Log
log_of tape pages digest end = log_with pages tape.inputs digest tape.records.items end

-- these are all the records of a log, whose text without the end has this length
pub record IsComplete (log : Log) (size : ℕ) : Type 0 where
  pub form : IsLog log
  pub counted : size + length (end_text Two log.end) ≡ length (log_text Two log)

-- a length that no recorded log has, as far as it is counted
abbrev pub IsTooLongWith : ℕ → Unrecorded → Type 0
IsTooLongWith size (Window window) = ⊥
IsTooLongWith size (LogTooLong told) = (told ≡ capped size) × (2 ^ 26 < size)
