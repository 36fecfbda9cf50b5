-- The rows of a run's sinks.
use Rattle.std.specs.Prelude.{◌≡◌, List}
use Rattle.report_model.specs.Query.{Query}
use Rattle.report_model.specs.Rows.{Row, rows_as_written}
use Rattle.replayer.specs.Jobs.{Job, trace_of}

-- these are the sinks of a job's run: their rows are the rows of the run, in its order
abbrev pub AreSinksOfRun : Query → Job → List Row → Type 0
AreSinksOfRun q job rows = rows ≡ rows_as_written q (trace_of job)
