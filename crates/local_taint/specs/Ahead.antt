-- An epoch that is analysed while it is checked, ahead of the check of the whole log.
use Rattle.std.specs.Prelude.{◌≡◌, ℕ, ◌-◌, List, Option}
use Rattle.isa.specs.declared.Instr.{Instr}
use Rattle.flow_model.specs.declared.StepSeen.{StepSeen}
use Rattle.report_model.specs.Query.{Query}
use Rattle.epoch_cut.specs.Numbered.{NumberedEpoch}
use Rattle.epoch_model.specs.Summary.{IsSummary}
use Rattle.replay_run.specs.Runs.{RunAt}
use Rattle.replayer.specs.Cursors.{Stands}
use Rattle.replayer.specs.Jobs.{Job, trace_of}
use Rattle.taint_tracking.specs.declared.tracking.Tracking.{Tracking}
use Rattle.taint_tracking.specs.Watched.{Tracks, TracksPlain, IsOfSteps, quiet_of}
use Rattle.source_labels.specs.declared.nodes.Nodes.{Nodes}
use Rattle.source_labels.specs.Words.{node_words}
use Rattle.epoch_summary.specs.declared.summary.Summary.{Summary}
use Rattle.epoch_summary.specs.Summaries.{number_of, summary_of}
use Rattle.local_taint.specs.Following.{AreInRange}

-- the tracking of an epoch, while there is memory, and the number of its first step
pub record EpochTracking : Type 0 where
  pub first : ℕ
  pub tracking : Option (Tracking Nodes)

-- a plain step of this instruction was tracked, of the same epoch
abbrev pub follows : EpochTracking → Instr → ℕ → EpochTracking → Type 0
follows old instr place new = TracksPlain node_words old.tracking instr place new.tracking × (new.first ≡ old.first)

-- the epoch's steps up to a time were tracked
abbrev pub tracks : EpochTracking → EpochTracking → Job → ℕ → Type 0
tracks was now job time = Tracks node_words (trace_of job) was.first time was.tracking now.tracking × (now.first ≡ was.first)

-- up to which time no point is due
abbrev pub quiet_time : EpochTracking → ℕ
quiet_time w = quiet_of w.tracking

-- the summary of an epoch whose steps were tracked up to a time, of each trace of which they are
pub record IsSummaryOfTracked (w : EpochTracking) (number : ℕ) (e : Summary) : Type 0 where
  pub number_is : number_of e ≡ number
  pub summary : (q : Query) (trace : List StepSeen) (time : ℕ) → IsOfSteps node_words q trace w.first time w.tracking
      → IsSummary q trace w.first (time - w.first) (summary_of e)
  pub in_range : (q : Query) (trace : List StepSeen) (time : ℕ) → IsOfSteps node_words q trace w.first time w.tracking
      → AreInRange trace w.first (time - w.first)

-- the summary of an epoch, of each job whose run stands where the epoch begins
pub record IsFoundAhead (q : Query) (run : RunAt) (epoch : NumberedEpoch) (e : Summary) : Type 0 where
  pub number : number_of e ≡ epoch.number
  pub summary : (job : Job) → Stands job run → IsSummary q (trace_of job) epoch.first (epoch.past_last - epoch.first) (summary_of e)
  pub in_range : (job : Job) → Stands job run → AreInRange (trace_of job) epoch.first (epoch.past_last - epoch.first)
