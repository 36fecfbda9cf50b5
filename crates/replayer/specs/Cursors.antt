-- Where a run stands, and what is true of a cursor.
use Rattle.std.specs.Prelude.{◌≡◌, ◌≤◌, false}
use Rattle.log_model.specs.Logs.{steps}
use Rattle.replay_model.specs.Run.{start, moment_after}
use Rattle.replay_run.specs.Runs.{RunAt}
use Rattle.replayer.specs.Jobs.{Job, IsJob}

-- the run stands at a moment of the job's run, whether or not the job's log fits later
pub record Stands (job : Job) (run : RunAt) : Type 0 where
  pub same_log : run.log ≡ job.log
  pub within : run.moment.time ≤ steps job.log
  pub here : run.moment ≡ moment_after run.moment.time (start job.start job.log)

-- its run stands at a moment of the job's run, and goes on
pub record IsCursor (job : Job) (run : RunAt) : Type 0 where
  pub is_job : IsJob job
  pub stands : Stands job run
  pub goes_on : run.waits ≡ false
