-- What the answers of recording the workload's run say.
use Rattle.std.specs.Prelude.{◌≡◌, ℕ, ◌^◌, ◌<◌, length}
use Rattle.log_model.specs.declared.Version.TheVariants.{Two}
use Rattle.log_model.specs.Logs.{Log, log_text}
use Rattle.record_model.specs.Counts.{capped}
use Rattle.order_gateway.specs.Answer.{IsWorkloadLog}
use Rattle.record_model.specs.declared.Unrecorded.{Unrecorded}
use Rattle.record_model.specs.declared.Unrecorded.TheVariants.{Window, LogTooLong}

-- the log of the run has this many bytes as far as they are counted, more than a log may have
pub record IsTooLong (seed steps size : ℕ) : Type 0 where
  pub log : Log
  pub is_log : IsWorkloadLog seed steps log
  pub size_is : size ≡ capped (length (log_text Two log))
  pub over : 2 ^ 26 < size

-- a log that is too long: the window holds the guest
abbrev pub IsCause : ℕ → ℕ → Unrecorded → Type 0
IsCause seed steps (Window window) = ⊥
IsCause seed steps (LogTooLong size) = IsTooLong seed steps size
