-- Epochs that begin where a check stood.
use Rattle.std.specs.Prelude.{◌≡◌, ℕ, ◌≤◌, None}
use Rattle.log_model.specs.Logs.{Log, end_at, steps}
use Rattle.report_model.specs.Query.{Query}
use Rattle.replay_model.specs.Comparison.{divergence}
use Rattle.replay_run.specs.Counters.{CountRecords}
use Rattle.replay_run.specs.Runs.{RunAt}
use Rattle.replayer.specs.Cursors.{Stands}
use Rattle.replayer.specs.InParts.{AgreesSoFar, resumed}
use Rattle.replayer.specs.Jobs.{Job}
use Rattle.epoch_summary.specs.declared.summary.Summary.{Summary}
use Rattle.local_taint.specs.Ahead.{IsFoundAhead}
use Rattle.checked_epochs.specs.declared.ahead.Beginning.{Beginning}

-- each job's run that stands at the first stands at the second too, later; and where nothing differs before the first, nothing
-- differs before the second
pub record Leads (before after : RunAt) : Type 0 where
  pub stands : (job : Job) → Stands job before → Stands job after
  pub agrees : (job : Job) → AgreesSoFar job before → AgreesSoFar job after

-- of each job that agrees with its log up to here, nothing differs from the log at all
abbrev pub AgreesToEnd : RunAt → Type 0
AgreesToEnd run = (job : Job) → AgreesSoFar job run → divergence job.start job.log ≡ None

-- the run of some job stands here
abbrev pub IsOfSome : RunAt → Type 0
IsOfSome run = (job : Job) × Stands job run

-- the run came to a time, under the same log
pub record HasComeTo (before : RunAt) (until : ℕ) (after : RunAt) : Type 0 where
  pub time : after.moment.time ≡ until
  pub leads : Leads before after

-- where the run stands as the epoch begins
abbrev pub run_of : Log → Beginning → RunAt
run_of log b = resumed log b.state

-- the epoch begins at a state of a run under the log, and ends before the run does
pub record IsBegun (log : Log) (b : Beginning) : Type 0 where
  pub counted : CountRecords log b.state.counters
  pub begins : b.state.counters.time ≡ b.ticket.first
  pub later : b.ticket.first ≤ b.ticket.past_last
  pub ends : b.ticket.past_last ≤ end_at log.end

-- the epoch begins at a state of a run under the log, and is the run's last
pub record IsLastBegun (log : Log) (b : Beginning) : Type 0 where
  pub counted : CountRecords log b.state.counters
  pub begins : b.state.counters.time ≡ b.ticket.first
  pub before_end : b.ticket.first ≤ end_at log.end
  pub ends : b.ticket.past_last ≡ steps log

-- the summary is of the epoch that begins here
abbrev pub IsFoundOf : Query → Log → Beginning → Summary → Type 0
IsFoundOf q log b e = IsFoundAhead q (run_of log b) b.ticket e
