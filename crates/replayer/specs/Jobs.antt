-- What is seen of a job: the state that its run begins in, and the log that fits it.
use Rattle.std.specs.Prelude.{◌≡◌, ◌≤◌, ◌^◌, List, [], length, Option, Some, None}
use Rattle.isa.specs.Machine.{State}
use Rattle.log_model.specs.declared.Version.TheVariants.{Two}
use Rattle.log_model.specs.Logs.{Log, IsLog, log_text}
use Rattle.elf_model.specs.Image.{Image}
use Rattle.elf_model.specs.Window.{start_of}
use Rattle.flow_model.specs.declared.StepSeen.{StepSeen}
use Rattle.replay_model.specs.Run.{trace}
use Rattle.replay_model.specs.Comparison.{divergence}

pub record Job : Type 0 where
  pub start : State
  pub log : Log

-- the steps of the job's run
abbrev pub trace_of : Job → List StepSeen
trace_of job = trace job.start job.log

-- true of each job
pub record IsJob (job : Job) : Type 0 where
  pub form : IsLog job.log
  pub small : length (log_text Two job.log) ≤ 2 ^ 27
  pub agrees : divergence job.start job.log ≡ None

-- the state that a run begins in, where the window can hold the image
abbrev pub begun : Option State → State
begun (Some s) = s
begun None = record { pc = 0; registers = []; base = 0; memory = [] }

-- an image and a log of which a job is kept
pub record IsKept (im : Image) (log : Log) : Type 0 where
  pub begins : start_of im log.pages ≡ Some (begun (start_of im log.pages))
  pub is_job : IsJob record { start = begun (start_of im log.pages); log = log }
