-- What is true of the beginnings of a run.
use Rattle.std.specs.Prelude.{◌≡◌, ℕ, ◌≤◌, None, take}
use Rattle.isa.specs.Machine.{State}
use Rattle.log_model.specs.Logs.{Log, IsLog, end_at}
use Rattle.replay_model.specs.Run.{trace}
use Rattle.replay_model.specs.Comparison.{divergence}
use Rattle.report_model.specs.Query.{Query}
use Rattle.report_model.specs.Rows.{rows}
use Rattle.run_beginning.specs.Need.{needed_by_log}
use Rattle.run_beginning.specs.Beginnings.{beginning}

-- where nothing differs between a run and its log, nothing differs between the run and a beginning of the log
abbrev pub BeginningAgrees : Type 0
BeginningAgrees = (start : State) (log : Log) (n : ℕ) → IsLog log → divergence start log ≡ None → n ≤ end_at log.end
    → divergence start (beginning n log) ≡ None

-- and its steps are the first n of the run
abbrev pub BeginningOfTrace : Type 0
BeginningOfTrace = (start : State) (log : Log) (n : ℕ) → IsLog log → divergence start log ≡ None → n ≤ end_at log.end
    → trace start (beginning n log) ≡ take n (trace start log)

-- where they are as many as a query needs, it has the rows of the whole run
abbrev pub BeginningHasRows : Type 0
BeginningHasRows = (q : Query) (start : State) (log : Log) (n : ℕ) → IsLog log → divergence start log ≡ None
    → n ≤ end_at log.end → needed_by_log q log ≤ n → rows q (trace start (beginning n log)) ≡ rows q (trace start log)
