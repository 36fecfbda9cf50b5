use Rattle.std.proofs.Common.{◌≡◌, ◌-◌, ◌≤◌}
use Rattle.std.specs.Prelude.{max, false}
use Rattle.replayer.specs.Watching.{ArePassed}
use Rattle.replayer.proofs.check.check_to.Given as goal

abbrev pub invariant-loop-run : goal.invariant-loop-run
invariant-loop-run g l = record {
  watched : ArePassed g.W.Watcher.seen l.fn.run l.fn.watcher l.run l.watcher;
  goes_on : l.run.waits ≡ false;
  later : l.fn.run.moment.time ≤ l.run.moment.time;
  within : l.run.moment.time ≤ max l.until l.fn.run.moment.time;
}

abbrev pub decreases-loop-run : goal.decreases-loop-run
decreases-loop-run g l = l.until - l.run.moment.time
