-- The beginning of a run, tracked while it is checked.
use Rattle.std.specs.Prelude.{ℕ}
use Rattle.flow_model.specs.Origins.{origins}
use Rattle.report_model.specs.Query.{Query, policy_of}
use Rattle.replay_run.specs.Runs.{RunAt}
use Rattle.replayer.specs.Cursors.{Stands}
use Rattle.replayer.specs.Jobs.{Job, trace_of}
use Rattle.source_labels.specs.declared.labels.SourceLabels.{SourceLabels}
use Rattle.source_labels.specs.Words.{label_words}
use Rattle.taint_tracking.specs.declared.tracking.Tracked.{Tracked}
use Rattle.taint_tracking.specs.Following.{IsOfEpoch}

-- the steps before a time were tracked from the run's beginning on, of each job whose run stands here: what each location and
-- each sink among the steps is labelled with is where its content came from
abbrev pub IsTrackedFirst : Query → RunAt → ℕ → Tracked SourceLabels → Type 0
IsTrackedFirst q run until t =
    (job : Job) → Stands job run → IsOfEpoch label_words q (trace_of job) 0 until (origins (policy_of q) (trace_of job)) t
