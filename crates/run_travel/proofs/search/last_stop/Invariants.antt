use Rattle.std.proofs.Common.{◌≡◌, ◌≤◌, ◌-◌}
use Rattle.std.specs.Option.{option_or}
use Rattle.run_travel.specs.Searches.{found_back}
use Rattle.run_travel.proofs.search.last_stop.Given as goal

-- the last stop so far is the one that is kept, or else one before all of these steps
abbrev pub invariant-loop-cursor : goal.invariant-loop-cursor
invariant-loop-cursor l =
    let job = l.initial.cursor.job in
    record {
      same_job : l.cursor.job ≡ job;
      within : l.cursor.time ≤ l.before;
      last : found_back job l.points l.cursor.time ≡ option_or l.found (found_back job l.points l.initial.cursor.time);
    }

abbrev pub decreases-loop-cursor : goal.decreases-loop-cursor
decreases-loop-cursor l = l.before - l.cursor.time
