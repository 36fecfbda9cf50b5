-- The beginning of a run that was tracked while it was checked.
use Rattle.std.proofs.Common.{◌≡◌, ℕ, ◌+◌, ◌-◌, ◌≤◌, arith, ap, sym, subst}
use Rattle.std.specs.Prelude.{Option}
use Rattle.flow_model.specs.Origins.{origins}
use Rattle.log_model.specs.Logs.{steps}
use Rattle.report_model.specs.Query.{Query, policy_of}
use Rattle.replay_run.specs.Runs.{RunAt}
use Rattle.replayer.specs.Jobs.{trace_of}
use Rattle.replayer.specs.Watching.{IsTold}
use Rattle.source_labels.specs.declared.labels.SourceLabels.{SourceLabels}
use Rattle.source_labels.specs.Words.{label_words}
use Rattle.taint_tracking.specs.declared.tracking.Tracked.{Tracked}
use Rattle.taint_tracking.specs.declared.tracking.Tracking.{Tracking}
use Rattle.taint_tracking.specs.Watched.{HasBegun, Finds, has_seen}
use Rattle.seq_taint.specs.Beginnings.{IsTrackedFirst}
use Rattle.seq_taint.proofs.Whole.{origins_are_course}

pub tracked_first : (q : Query) (run : RunAt) (until : ℕ) (old new : Option (Tracking SourceLabels)) (t : Tracked SourceLabels)
    → run.moment.time ≡ 0 → until ≤ steps run.log → HasBegun label_words q old → IsTold (has_seen label_words) run (until - run.moment.time) old new
    → Finds label_words new t → IsTrackedFirst q run until t
tracked_first q run until old new t begins within begun told finds job stands =
    let trace = trace_of job in
    let policy = policy_of q in
    let log : steps job.log ≡ steps run.log = ap steps (sym stands.same_log) in
    let none : has_seen label_words old old job 0 = λ q here. here trace in
    let end : run.moment.time + (until - run.moment.time) ≡ until = omega (arith, begins) in
    let seen = told old job stands (omega (arith, begins, within, log)) (subst (has_seen label_words old old job) (sym begins) none) in
    finds q trace 0 until (subst (has_seen label_words old new job) end seen q begun) (origins policy trace) (origins_are_course policy trace)
