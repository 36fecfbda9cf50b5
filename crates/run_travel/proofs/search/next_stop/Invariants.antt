use Rattle.std.proofs.Common.{◌≡◌, ◌≤◌, ◌-◌}
use Rattle.run_travel.specs.Moves.{stop_on}
use Rattle.run_travel.proofs.search.next_stop.Given as goal

-- the run is to stop after none of the steps so far
abbrev pub invariant-loop-aim : goal.invariant-loop-aim
invariant-loop-aim l =
    let job = l.initial.cursor.job in
    record {
      same_job : l.cursor.job ≡ job;
      within : l.cursor.time ≤ l.steps;
      ahead : stop_on job l.points l.aim l.initial.cursor.time ≡ stop_on job l.points l.aim l.cursor.time;
    }

abbrev pub decreases-loop-aim : goal.decreases-loop-aim
decreases-loop-aim l = l.steps - l.cursor.time
