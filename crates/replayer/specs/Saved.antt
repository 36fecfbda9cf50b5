-- A cursor that is taken out of its job: what it is, and of which job and time.
use Rattle.std.specs.Prelude.{◌≡◌, ℕ, ◌≤◌, List, take, drop}
use Rattle.isa.specs.Machine.{State}
use Rattle.log_model.specs.Logs.{Log, steps}
use Rattle.replay_model.specs.Run.{Moment, start, moment_after}
use Rattle.rv_machine.specs.Saved as hart
use Rattle.rv_machine.specs.Saved.{RestOfState}
use Rattle.replay_run.specs.Counters.{RunCounters, CountRecords}
use Rattle.replayer.specs.Jobs.{Job}
use Rattle.replayer.specs.Positions.{CursorAt}

-- all that a cursor is but its job: the machine's state, and the numbers of its run
pub record SavedCursor : Type 0 where
  pub machine : State
  pub counters : RunCounters

-- the moment that the saved cursor stands at, under this log
abbrev pub moment_of : Log → SavedCursor → Moment
moment_of log saved = record {
  time = saved.counters.time;
  state = saved.machine;
  done = take saved.counters.done log.records;
  left = drop saved.counters.done log.records;
}

-- the saved cursor is one of this job: it stands at the moment of its time, and its numbers count the log's records
pub record IsOfJob (job : Job) (saved : SavedCursor) : Type 0 where
  pub within : saved.counters.time ≤ steps job.log
  pub here : moment_of job.log saved ≡ moment_after saved.counters.time (start job.start job.log)
  pub counted : CountRecords job.log saved.counters

-- where the job's cursor stands that was saved so
abbrev pub position_of : Job → SavedCursor → CursorAt
position_of job saved = record { job = job; time = saved.counters.time }

-- ---- apart from the bytes of the window

-- a saved cursor without the bytes of the machine's window
pub record RestOfCursor : Type 0 where
  pub machine : RestOfState
  pub counters : RunCounters

-- all of a saved cursor but the bytes of the window
abbrev pub rest_of : SavedCursor → RestOfCursor
rest_of saved = record { machine = hart.rest_of saved.machine; counters = saved.counters }

-- the saved cursor with these bytes in its window, and all else as said
abbrev pub put_together : List ℕ → RestOfCursor → SavedCursor
put_together bytes rest = record { machine = hart.put_together bytes rest.machine; counters = rest.counters }
