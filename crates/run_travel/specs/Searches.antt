-- What the code keeps of a search, and what is true of a place in a run.
use Rattle.std.specs.Prelude.{◌≡◌, ◌-◌, ◌<◌, ◌≤◌, ℕ, List, length, slice_get, Option, Some}
use Rattle.std.specs.Bool.{then_some}
use Rattle.std.specs.Option.{option_map, option_or}
use Rattle.log_model.specs.Logs.{steps}
use Rattle.replayer.specs.Jobs.{Job}
use Rattle.replayer.specs.Positions.{CursorAt}
use Rattle.checkpoints.specs.Points.{CheckpointsAt}
use Rattle.run_travel.specs.declared.aim.Aim.{Aim}
use Rattle.run_travel.specs.declared.search.Stop.{Stop}
use Rattle.run_travel.specs.declared.watch.Watch.{Watch}
use Rattle.run_travel.specs.Stops.{PointsAt, met_at, stops_after}
use Rattle.run_travel.specs.Moves.{stop_on, stop_back}

-- a step, and the watchpoint that it meets
abbrev pub stop_at : Job → PointsAt → ℕ → Stop
stop_at job points step = record { step = step; met = met_at job points step }

-- the step before a time, if it met a watchpoint
abbrev pub last_met : ℕ → Option Watch → Option Stop
last_met time met = option_map (λ (w : Watch). record { step = time - 1; met = Some w }) met

-- the last stop before a time, if there is one
abbrev pub found_back : Job → PointsAt → ℕ → Option Stop
found_back job points t = option_map (stop_at job points) (stop_back job points t)

-- so many times, the first of which is 0
pub record BeginsAtZero (count : ℕ) (times : List ℕ) : Type 0 where
  pub counted : count ≡ length times
  pub some : 0 < count
  pub first : slice_get times 0 ≡ Some 0

-- a place in the run of a job, with so many checkpoints
pub record IsPlace (job : Job) (checkpoints : CheckpointsAt) (count : ℕ) (here : CursorAt) : Type 0 where
  pub same_job : here.job ≡ job
  pub within : here.time ≤ steps job.log
  pub of_job : checkpoints.job ≡ job
  pub times : BeginsAtZero count checkpoints.times

-- some steps forward: a run that goes on stops after none of them but maybe the last, which is then told
pub record IsRowOn (points : PointsAt) (aim : Aim) (before after : CursorAt) (stop : Option Stop) : Type 0 where
  pub same_job : after.job ≡ before.job
  pub later : before.time < after.time
  pub within : after.time ≤ steps before.job.log
  pub ahead : stop_on before.job points aim before.time ≡ stop_on before.job points aim (after.time - 1)
  pub is : stop ≡ then_some (stops_after before.job points aim (after.time - 1)) (stop_at before.job points (after.time - 1))

-- steps up to a time at most: the last one of them before which a run that goes back stops is told
pub record IsRowBack (points : PointsAt) (until : ℕ) (before after : CursorAt) (stop : Option Stop) : Type 0 where
  pub same_job : after.job ≡ before.job
  pub later : before.time ≤ after.time
  pub within : after.time ≤ until
  pub last : found_back before.job points after.time ≡ option_or stop (found_back before.job points before.time)
