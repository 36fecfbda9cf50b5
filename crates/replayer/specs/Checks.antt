-- What the answers of a check say of the program and the log.
use Rattle.std.specs.Prelude.{◌≡◌, ◌≢◌, ℕ, List, Some, None}
use Rattle.isa.specs.Machine.{State}
use Rattle.elf_model.specs.Image.{Image}
use Rattle.elf_model.specs.Window.{start_of}
use Rattle.log_model.specs.Logs.{Log}
use Rattle.replay_model.specs.declared.Divergence.{Divergence}
use Rattle.replay_model.specs.Comparison.{divergence}
use Rattle.replay_model.specs.Fits.{Fits}
use Rattle.sha2.specs.Sha256.{sha256}
use Rattle.replayer.specs.Jobs.{Job}
use Rattle.replay_model.specs.declared.Misfit.{Misfit}
use Rattle.replay_model.specs.declared.Misfit.TheVariants.{WrongProgram, Window, Diverged}

-- the log fits the program, and the job is of the two
pub record IsChecked (program : List ℕ) (im : Image) (log : Log) (job : Job) : Type 0 where
  pub digest : log.digest ≡ sha256 program
  pub start : start_of im log.pages ≡ Some job.start
  pub same_log : job.log ≡ log
  pub agrees : divergence job.start log ≡ None
  pub fits : Fits program log

-- the log is of another program
pub record IsWrongProgram (program : List ℕ) (log : Log) (kept seen : List ℕ) : Type 0 where
  pub kept_is : kept ≡ log.digest
  pub seen_is : seen ≡ sha256 program
  pub differ : kept ≢ seen

-- the log is of this program, but the window of its pages can't hold the image
pub record IsWindowFault (program : List ℕ) (im : Image) (log : Log) (pages : ℕ) : Type 0 where
  pub digest : log.digest ≡ sha256 program
  pub none : start_of im log.pages ≡ None
  pub pages_are : pages ≡ log.pages

-- the run begins, and this is the first difference of the log from it
pub record IsDiverged (program : List ℕ) (im : Image) (log : Log) (d : Divergence) : Type 0 where
  pub start : State
  pub digest : log.digest ≡ sha256 program
  pub begins : start_of im log.pages ≡ Some start
  pub first : divergence start log ≡ Some d
  pub differ : d.kept ≢ d.seen

-- the log doesn't fit the program in this way
abbrev pub IsMisfit : List ℕ → Image → Log → Misfit → Type 0
IsMisfit program im log (WrongProgram kept seen) = IsWrongProgram program log kept seen
IsMisfit program im log (Window window) = IsWindowFault program im log window.pages
IsMisfit program im log (Diverged d) = IsDiverged program im log d
