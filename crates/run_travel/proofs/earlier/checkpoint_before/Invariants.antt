use Rattle.std.proofs.Common.{◌<◌, ◌≤◌, ◌-◌, slice_get, IfSome}
use Rattle.run_travel.proofs.earlier.checkpoint_before.Given as goal

abbrev pub invariant-loop-low : goal.invariant-loop-low
invariant-loop-low l = record {
  low : l.low < l.high;
  high : l.high ≤ l.count;
  before : IfSome (slice_get l.checkpoints.times l.low) (λ t. t ≤ l.time);
}

abbrev pub decreases-loop-low : goal.decreases-loop-low
decreases-loop-low l = l.high - l.low
