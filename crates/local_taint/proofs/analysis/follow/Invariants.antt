use Rattle.std.proofs.Common.{◌≡◌, ◌-◌, ◌≤◌}
use Rattle.replayer.specs.Jobs.{trace_of}
use Rattle.taint_tracking.specs.Watched.{Tracks}
use Rattle.source_labels.specs.Words.{node_words}
use Rattle.local_taint.proofs.analysis.follow.Given as goal

abbrev pub invariant-loop-cursor : goal.invariant-loop-cursor
invariant-loop-cursor l = let job = l.initial.cursor.job in let start = l.initial.cursor.time in record {
  same_job : l.cursor.job ≡ job;
  begun : start ≤ l.cursor.time;
  within : l.cursor.time - start ≤ l.past_last - start;
  tracked : Tracks node_words (trace_of job) start l.cursor.time l.initial.watching l.watching;
}

abbrev pub decreases-loop-cursor : goal.decreases-loop-cursor
decreases-loop-cursor l = l.past_last - l.cursor.time
