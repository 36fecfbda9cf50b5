-- What `bench` comes to: its lines, or which limit the run is past.
use Rattle.std.specs.Prelude.{◌≡◌, ℕ, List, replicate, Result, Ok}
use Rattle.log_model.specs.Logs.{Log, steps}
use Rattle.record_model.specs.Recorded.{IsRecorded}
use Rattle.epoch_model.specs.ByLength.{cut_times}
use Rattle.jet_refusal.specs.declared.refusal.Refusal.{Refusal}
use Rattle.jet_model.specs.Outcomes.{and_then}
use Rattle.jet_model.specs.Report.{text_over}
use Rattle.jet_model.specs.Answer.{limited_text, epochs_check}
use Rattle.order_gateway.specs.Guest.{guest_file}
use Rattle.order_gateway.specs.Workload.{workload}
use Rattle.order_gateway.specs.Lines.{bench_text}

-- the lines of the guest's run under this log, which is cut into epochs of this length
abbrev pub lines_of : Log → ℕ → List ℕ
lines_of log epoch_length = text_over guest_file log (bench_text (cut_times (steps log) epoch_length))

-- what the log of the workload's run comes to. Its text is to have at most 2 ^ 26 bytes, and then its run at most 4096
-- epochs
abbrev pub bench_outcome : Log → ℕ → Result (List ℕ) Refusal
bench_outcome log epoch_length =
    and_then (limited_text log) (λ short.
    and_then (epochs_check epoch_length log) (λ few.
    Ok (lines_of log epoch_length)))

-- the log is that of the run with this seed, of so many steps, in which the clock answered 0 each time
pub record IsWorkloadLog (seed steps : ℕ) (log : Log) : Type 0 where
  pub asked : ℕ
  pub recorded : IsRecorded (workload seed steps) (replicate asked 0) log

-- the answer is what that log comes to
pub record IsBenchAnswer (seed steps epoch_length : ℕ) (answer : Result (List ℕ) Refusal) : Type 0 where
  pub log : Log
  pub is_log : IsWorkloadLog seed steps log
  pub outcome : answer ≡ bench_outcome log epoch_length

-- the text is the lines of that log's run
pub record IsBenchOf (seed steps epoch_length : ℕ) (text : List ℕ) : Type 0 where
  pub log : Log
  pub is_log : IsWorkloadLog seed steps log
  pub gives : text ≡ lines_of log epoch_length
