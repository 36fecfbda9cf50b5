-- A log put together, and what is true of one that is kept in memory with the size of its text of version 2 beside it.
use Rattle.std.specs.Prelude.{◌≡◌, ℕ, ◌≤◌, ◌^◌, List, [], length}
use Rattle.log_model.specs.declared.Version.TheVariants.{Two}
use Rattle.log_model.specs.declared.CallRecord.{CallRecord}
use Rattle.log_model.specs.declared.RunEnd.{RunEnd}
use Rattle.log_model.specs.Moved.{received_by}
use Rattle.log_model.specs.Logs.{Log, IsLog, log_text}

-- the log of these parts
abbrev pub log_of_parts : ℕ → ℕ → List ℕ → List CallRecord → RunEnd → Log
log_of_parts pages inputs digest records end =
    record { pages = pages; inputs = inputs; digest = digest; records = records; end = end }

pub record IsLogOfSize (log : Log) (size : ℕ) : Type 0 where
  pub form : IsLog log
  pub whole : size ≡ length (log_text Two log)
  pub limit : size ≤ 2 ^ 27

-- a call on none of so many channels read nothing
abbrev pub IsKept : ℕ → CallRecord → Type 0
IsKept inputs r = (c : ℕ) → inputs ≤ c → received_by c r ≡ []
