-- The epochs that begin at checkpoints, and what is found of these epochs.
use Rattle.std.specs.Prelude.{◌≡◌, ◌-◌, ◌<◌, ◌≤◌, List, Some, length, slice_get}
use Rattle.std.specs.List.{AllZip}
use Rattle.flow_model.specs.declared.StepSeen.{StepSeen}
use Rattle.log_model.specs.Logs.{steps}
use Rattle.report_model.specs.Query.{Query}
use Rattle.epoch_model.specs.Summary.{IsSummary}
use Rattle.epoch_cut.specs.Numbered.{NumberedEpoch}
use Rattle.checkpoints.specs.Points.{CheckpointsAt}
use Rattle.epoch_summary.specs.declared.summary.Summary.{Summary}
use Rattle.epoch_summary.specs.Summaries.{summary_of}
use Rattle.local_taint.specs.Following.{AreInRange}

-- the epoch begins at the checkpoint of its number, and ends with the run at the latest
pub record BeginsAt (points : CheckpointsAt) (epoch : NumberedEpoch) : Type 0 where
  pub number : epoch.number < length points.times
  pub first : slice_get points.times epoch.number ≡ Some epoch.first
  pub past_last : epoch.past_last ≤ steps points.job.log

-- the summary of the epoch, whose steps are in range
pub record IsFound (q : Query) (trace : List StepSeen) (epoch : NumberedEpoch) (e : Summary) : Type 0 where
  pub summary : IsSummary q trace epoch.first (epoch.past_last - epoch.first) (summary_of e)
  pub in_range : AreInRange trace epoch.first (epoch.past_last - epoch.first)

-- one by one
abbrev pub AreFound : Query → List StepSeen → List NumberedEpoch → List Summary → Type 0
AreFound q trace epochs es = AllZip (IsFound q trace) epochs es
