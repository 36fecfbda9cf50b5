-- What is asked of an engine about a run that is cut, and what it collects.
use Rattle.std.specs.Prelude.{◌≡◌, ℕ, List}
use Rattle.log_model.specs.Logs.{steps}
use Rattle.report_model.specs.Query.{Query}
use Rattle.report_model.specs.Rows.{Row, rows_as_written}
use Rattle.epoch_model.specs.Cutting.{IsCutting}
use Rattle.stream_model.specs.Work.{asked_at, run_work}
use Rattle.replayer.specs.Jobs.{Job, trace_of}
use Rattle.checkpoints.specs.Points.{CheckpointsAt, beginnings}
use Rattle.sink_collect.specs.Pairs.{capped}
use Rattle.epoch_engine.specs.declared.collected.Collected.{Collected}

-- the run of a job is cut so, and these are its checkpoints, one where each epoch begins
pub record AreAtBeginnings (cuts : List ℕ) (points : CheckpointsAt) : Type 0 where
  pub times : points.times ≡ beginnings cuts
  pub cutting : IsCutting (steps points.job.log) cuts

-- these are the rows of the run of a job
abbrev pub AreRowsOf : Query → Job → List Row → Type 0
AreRowsOf q job sets = sets ≡ rows_as_written q (trace_of job)

-- these are the rows of the run of a job that is cut so, what is asked at its inner cuts, and how many events move
pub record IsCollectedOf (q : Query) (job : Job) (cuts : List ℕ) (collected : Collected) : Type 0 where
  pub rows : AreRowsOf q job collected.sets
  pub crossed : collected.crossed.items ≡ asked_at q (trace_of job) cuts
  pub events : collected.events ≡ capped (run_work q (trace_of job) cuts)
