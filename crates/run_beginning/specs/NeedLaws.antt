-- What a log tells of the steps that rows need.
use Rattle.std.specs.Prelude.{◌≡◌, None}
use Rattle.isa.specs.Machine.{State}
use Rattle.log_model.specs.Logs.{Log, IsLog}
use Rattle.replay_model.specs.Run.{trace}
use Rattle.replay_model.specs.Comparison.{divergence}
use Rattle.report_model.specs.Query.{Query}
use Rattle.report_model.specs.Needed.{needed_steps}
use Rattle.run_beginning.specs.Need.{needed_by_log}

-- where nothing differs, it is what the rows of the run need
abbrev pub LogTellsNeed : Type 0
LogTellsNeed = (q : Query) (start : State) (log : Log) → IsLog log → divergence start log ≡ None
    → needed_by_log q log ≡ needed_steps q (trace start log)
