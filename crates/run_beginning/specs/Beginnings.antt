-- The beginning of a run, its log, and the tail that follows that.
use Rattle.std.specs.Prelude.{ℕ, List, ◌++◌}
use Rattle.log_model.specs.declared.CallRecord.{CallRecord}
use Rattle.log_model.specs.declared.RunEnd.{RunEnd}
use Rattle.log_model.specs.declared.RunEnd.TheVariants.{Limit}
use Rattle.log_model.specs.Logs.{Log}
use Rattle.replay_model.specs.Offsets.{records_before}
use Rattle.replayer.specs.Jobs.{Job}

-- the calls among the first n steps, after which the run is cut off
abbrev pub beginning : ℕ → Log → Log
beginning n log = record log { records = records_before n log.records; end = Limit n }

-- later calls, and an end
pub record LogTail : Type 0 where
  pub records : List CallRecord
  pub end : RunEnd

-- a log that goes on with a tail in place of its end
abbrev pub followed_by : Log → LogTail → Log
followed_by log tail = record log { records = log.records ++ tail.records; end = tail.end }

-- ---- the same of a job

-- the job of the first n steps of a job's run
abbrev pub job_of_beginning : ℕ → Job → Job
job_of_beginning n job = record { start = job.start; log = beginning n job.log }

-- the job whose log goes on with a tail
abbrev pub job_followed_by : Job → LogTail → Job
job_followed_by job tail = record { start = job.start; log = followed_by job.log tail }
