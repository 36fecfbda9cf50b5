-- A log that is checked a stretch at a time.
use Rattle.std.specs.Prelude.{◌≡◌, ℕ, ◌-◌, ◌<◌, false, List, Some, None, Result, Ok, Err}
use Rattle.elf_model.specs.Image.{Image}
use Rattle.elf_model.specs.Window.{start_of}
use Rattle.log_model.specs.Logs.{Log, steps}
use Rattle.sha2.specs.Sha256.{sha256}
use Rattle.replay_model.specs.declared.Divergence.{Divergence}
use Rattle.replay_model.specs.Comparison.{divergence}
use Rattle.replay_model.specs.Firsts.{difference_after}
use Rattle.replay_model.specs.Run.{start}
use Rattle.replay_run.specs.Runs.{RunAt}
use Rattle.replayer.specs.Jobs.{Job, begun}
use Rattle.replayer.specs.Cursors.{Stands}
use Rattle.replayer.specs.Saved.{SavedCursor, moment_of}
use Rattle.replayer.specs.Watching.{Seen, IsTold}

-- the job of an image and a log, whether or not the log fits
abbrev pub job_of : Image → Log → Job
job_of im log = record { start = begun (start_of im log.pages); log = log }

-- the log is of the program, the window of its pages can hold the image, and the run begins
pub record IsOpened (program : List ℕ) (im : Image) (log : Log) (run : RunAt) : Type 0 where
  pub digest : log.digest ≡ sha256 program
  pub begins : start_of im log.pages ≡ Some (job_of im log).start
  pub here : run ≡ record { log = log; moment = start (job_of im log).start log; waits = false }

-- where a run stands that goes on from a saved state
abbrev pub resumed : Log → SavedCursor → RunAt
resumed log saved = record { log = log; moment = moment_of log saved; waits = false }

-- the run stands at a moment of the job's run, and before that moment nothing differs from the log
pub record AgreesSoFar (job : Job) (run : RunAt) : Type 0 where
  pub stands : Stands job run
  pub none_before : (k : ℕ) → k < run.moment.time → difference_after k job.start job.log ≡ None

-- a run came to a time of the same run, with no difference, and the watcher was told of the steps between
pub record HasCome {W : Type 0} (seen : Seen W) (before : RunAt) (old : W) (until : ℕ) (after : RunAt) (new : W) : Type 0 where
  pub time : after.moment.time ≡ until
  pub stands : (job : Job) → Stands job before → Stands job after
  pub agrees : (job : Job) → AgreesSoFar job before → AgreesSoFar job after
  pub told : IsTold seen before (until - before.moment.time) old new

-- the log differs from the run: so each job's that stood here; and where nothing differs before, this is the first difference
pub record Differs (before : RunAt) (d : Divergence) : Type 0 where
  pub some : (job : Job) → Stands job before → divergence job.start job.log ≡ None → ⊥
  pub first : (job : Job) → AgreesSoFar job before → divergence job.start job.log ≡ Some d

-- a check that was to go on to a time
abbrev pub IsCheckedTo : {W : Type 0} → Seen W → RunAt → W → ℕ → Result RunAt Divergence → W → Type 0
IsCheckedTo seen before old until (Ok after) new = HasCome seen before old until after new
IsCheckedTo seen before old until (Err d) new = Differs before d

-- nothing differs up to the log's end, and the watcher was told of all steps that were left
pub record HasEnded {W : Type 0} (seen : Seen W) (before : RunAt) (old new : W) : Type 0 where
  pub agrees : (job : Job) → AgreesSoFar job before → divergence job.start job.log ≡ None
  pub told : IsTold seen before (steps before.log - before.moment.time) old new

-- a check that was to go on to the log's end
abbrev pub IsCheckedToEnd : {W T : Type 0} → Seen W → RunAt → W → Result T Divergence → W → Type 0
IsCheckedToEnd seen before old (Ok done) new = HasEnded seen before old new
IsCheckedToEnd seen before old (Err d) new = Differs before d
