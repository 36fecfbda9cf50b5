use Rattle.std.proofs.Common.{◌≡◌, ◌≤◌}
use Rattle.run_travel.specs.Searches.{found_back}
use Rattle.run_travel.proofs.earlier.stop_before.Given as goal

-- the last stop is none of those from here on
abbrev pub invariant-loop-before : goal.invariant-loop-before
invariant-loop-before l =
    let job = l.checkpoints.job in
    record {
      within : l.before ≤ l.time;
      last : found_back job l.points l.time ≡ found_back job l.points l.before;
    }

abbrev pub decreases-loop-before : goal.decreases-loop-before
decreases-loop-before l = l.before
