-- The tracking of an epoch by its terms.
use Rattle.std.specs.Prelude.{ℕ, ◌+◌, ◌-◌, List, Option}
use Rattle.flow_model.specs.declared.Loc.{Loc}
use Rattle.flow_model.specs.declared.StepSeen.{StepSeen}
use Rattle.flow_model.specs.Origins.{Policy}
use Rattle.report_model.specs.Query.{Query, policy_of}
use Rattle.epoch_model.specs.Summary.{Terms, IsSummary, terms}
use Rattle.replayer.specs.Jobs.{trace_of}
use Rattle.replayer.specs.Positions.{CursorAt}
use Rattle.taint_tracking.specs.declared.tracking.Tracked.{Tracked}
use Rattle.taint_tracking.specs.declared.tracking.Tracking.{Tracking}
use Rattle.taint_tracking.specs.Following.{IsOfEpoch}
use Rattle.taint_tracking.specs.Watched.{Tracks}
use Rattle.source_labels.specs.declared.nodes.Nodes.{Nodes}
use Rattle.epoch_summary.specs.declared.summary.Summary.{Summary}
use Rattle.source_labels.specs.Words.{node_words}
use Rattle.epoch_summary.specs.Summaries.{summary_of}
-- each of the n steps from time s on is in range
pub use Rattle.taint_tracking.specs.Following.{AreInRange}

-- the terms of each location at each time, over the steps from the first one's time on
abbrev pub terms_from : Policy → List StepSeen → ℕ → ℕ → Loc → Terms
terms_from policy trace first time = terms policy trace first (time - first)

-- the epoch's n steps from where the cursor stood on were tracked
abbrev pub TracksFrom : CursorAt → ℕ → Option (Tracking Nodes) → Option (Tracking Nodes) → Type 0
TracksFrom cursor n = Tracks node_words (trace_of cursor.job) cursor.time (cursor.time + n)

-- it is the summary of what was tracked
abbrev pub IsSummaryOf : Tracked Nodes → Summary → Type 0
IsSummaryOf t e =
    (q : Query) (trace : List StepSeen) (first time : ℕ)
    → IsOfEpoch node_words q trace first time (terms_from (policy_of q) trace first) t
    → IsSummary q trace first (time - first) (summary_of e)
