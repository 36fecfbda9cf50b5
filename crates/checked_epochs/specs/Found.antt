-- What is found of the epochs of a run: of the first with source bytes, since nothing came from before it, and of each later one by
-- itself.
use Rattle.std.specs.Prelude.{◌≡◌, ℕ, List, ◌∷◌}
use Rattle.std.specs.List.{AllZip}
use Rattle.flow_model.specs.declared.StepSeen.{StepSeen}
use Rattle.log_model.specs.Logs.{Log}
use Rattle.report_model.specs.Query.{Query}
use Rattle.replay_run.specs.Runs.{RunAt}
use Rattle.replayer.specs.Cursors.{Stands}
use Rattle.replayer.specs.Jobs.{Job, trace_of}
use Rattle.epoch_model.specs.Cutting.{epochs}
use Rattle.epoch_cut.specs.Numbered.{NumberedEpoch, numbered}
use Rattle.epoch_analysis.specs.Epochs.{AreFound}
use Rattle.epoch_summary.specs.declared.summary.Summary.{Summary}
use Rattle.local_taint.specs.Ahead.{IsFoundAhead}
use Rattle.local_taint.specs.Following.{AreInRange}
use Rattle.summary_join.specs.declared.first.FirstEpoch.{FirstEpoch}
use Rattle.summary_join.specs.First.{FirstFound, IsFirstFound, found_of}
use Rattle.checked_epochs.specs.declared.ahead.Beginning.{Beginning}
use Rattle.checked_epochs.specs.Beginnings.{run_of}

-- what is found of a run that is cut: of its first epoch, and of the later ones, one by one
pub record AreAllFound (q : Query) (trace : List StepSeen) (cuts : List ℕ) (first : FirstFound) (es : List Summary) : Type 0 where
  pub past_first : ℕ
  pub later : List ℕ
  pub cuts_are : cuts ≡ past_first ∷ later
  pub first_found : IsFirstFound q trace past_first first
  pub in_range : AreInRange trace 0 past_first
  pub found : AreFound q trace (numbered 1 (epochs past_first later)) es

-- ---- of each job whose run stands somewhere

-- what is found of the first epoch, which ends at a time
pub record IsFirstAhead (q : Query) (run : RunAt) (past_first : ℕ) (first : FirstFound) : Type 0 where
  pub found : (job : Job) → Stands job run → IsFirstFound q (trace_of job) past_first first
  pub in_range : (job : Job) → Stands job run → AreInRange (trace_of job) 0 past_first

-- it is what is found of the run's first epoch, which begins here
abbrev pub IsFirstOf : Query → Log → Beginning → FirstEpoch → Type 0
IsFirstOf q log b e = IsFirstAhead q (run_of log b) b.ticket.past_last (found_of e)

-- what is found of these epochs, the first of which is the run's first
pub record AreAllAhead (q : Query) (run : RunAt) (all : List NumberedEpoch) (first : FirstFound) (es : List Summary) : Type 0 where
  pub first_epoch : NumberedEpoch
  pub later : List NumberedEpoch
  pub all_are : all ≡ first_epoch ∷ later
  pub first_found : IsFirstAhead q run first_epoch.past_last first
  pub found : AllZip (IsFoundAhead q run) later es
