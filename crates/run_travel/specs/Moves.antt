-- Where a move stops, and why.
use Rattle.std.specs.Prelude.{ℕ, ◌+◌, ◌-◌, ◌==◌, if◌then◌else◌, reverse, Option, Some, None}
use Rattle.std.specs.List.{find, range_with_len}
use Rattle.log_model.specs.declared.RunEnd.{RunEnd}
use Rattle.log_model.specs.declared.RunEnd.TheVariants.{Exit, Trap, Limit}
use Rattle.log_model.specs.Logs.{steps}
use Rattle.replayer.specs.Jobs.{Job}
use Rattle.run_travel.specs.declared.aim.Aim.{Aim}
use Rattle.run_travel.specs.declared.cause.Cause.{Cause}
use Rattle.run_travel.specs.declared.cause.Cause.TheVariants.{Arrived, Watched, End, Trapped, Beginning}
use Rattle.run_travel.specs.declared.watch.Watch.{Watch}
use Rattle.run_travel.specs.Stops.{PointsAt, met_at, stops_after, stops_before}

-- ---- where

-- on from time t: the first of the steps to come after which the run stops, if there is one
abbrev pub stop_on : Job → PointsAt → Aim → ℕ → Option ℕ
stop_on job points aim t = find (stops_after job points aim) (range_with_len t (steps job.log - t))

-- the time after it. Without one the run goes on to its end
abbrev pub time_after : Job → Option ℕ → ℕ
time_after job None = steps job.log
time_after job (Some step) = step + 1

-- back from time t: the last of the steps that are done before which the run stops, if there is one
abbrev pub stop_back : Job → PointsAt → ℕ → Option ℕ
stop_back job points t = find (stops_before job points) (reverse (range_with_len 0 t))

-- the time before it. Without one the run goes back to its beginning
abbrev pub time_before : Option ℕ → ℕ
time_before None = 0
time_before (Some step) = step

-- ---- why

-- the watchpoint that the step meets comes first
abbrev pub cause_of : Option Watch → Cause → Cause
cause_of None otherwise = otherwise
cause_of (Some w) otherwise = Watched w

abbrev pub cause_at_end : RunEnd → Cause
cause_at_end (Exit at code) = End
cause_at_end (Trap at kind pc) = Trapped kind
cause_at_end (Limit at) = End

-- a move on from time t that stopped after this step, or at the end of the run. A breakpoint there isn't told, and
-- where no step was made, it is the end, even of a run that traps
abbrev pub cause_on : Job → PointsAt → ℕ → Option ℕ → Cause
cause_on job points t None = if t == steps job.log then End else cause_at_end job.log.end
cause_on job points t (Some step) =
    cause_of (met_at job points step) (if step + 1 == steps job.log then cause_at_end job.log.end else Arrived)

-- a move back that stopped before this step, or at the beginning of the run
abbrev pub cause_back : Job → PointsAt → Option ℕ → Cause
cause_back job points None = Beginning
cause_back job points (Some step) = cause_of (met_at job points step) Arrived

-- a move back by one step, from time t
abbrev pub cause_of_step_back : Job → PointsAt → ℕ → Cause
cause_of_step_back job points t = if t == 0 then Beginning else cause_of (met_at job points (t - 1)) Arrived
