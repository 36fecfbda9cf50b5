-- A run under a log: the machine's steps, each call answered from the log's next record.
use Rattle.std.specs.Prelude.{ℕ, zero, suc, ◌+◌, ◌==◌, if◌then◌else◌, List, [], ◌∷◌, ◌++◌, length, drop, Some, None}
use Rattle.isa.specs.declared.Instr.TheVariants.{Ecall, Ebreak}
use Rattle.isa.specs.declared.CallKind.{CallKind}
use Rattle.isa.specs.declared.CallKind.TheVariants as kind
use Rattle.isa.specs.Machine.{State, Outcome, Retired, Called, Trapped, next, Fetch, Fetched, OutsideWindow, Illegal, fetch, place_of}
use Rattle.isa.specs.Calls.{channel_of, buffer_of, after_read, after_write, after_clock, after_other, after_exit}
use Rattle.log_model.specs.declared.CallRecord.{CallRecord}
use Rattle.log_model.specs.declared.CallRecord.TheVariants.{Read, Write, Clock, Other}
use Rattle.log_model.specs.Logs.{Log, steps}
use Rattle.log_model.specs.Moved.{received, written}
use Rattle.flow_model.specs.declared.StepSeen.{StepSeen}
use Rattle.flow_model.specs.declared.CallSeen.{CallSeen}

-- where a run stands: how many steps are done, the machine, and the records of the calls that are done and that are left
pub record Moment : Type 0 where
  pub time : ℕ
  pub state : State
  pub done : List CallRecord
  pub left : List CallRecord

abbrev pub start : State → Log → Moment
start s log = record { time = 0; state = s; done = []; left = log.records }

-- the machine after a call that the record answers
abbrev pub state_after : State → CallRecord → State
state_after s (Read at args result bytes) = after_read s (buffer_of args) result bytes
state_after s (Write at args result bytes) = after_write s result
state_after s (Clock at value) = after_clock s value
state_after s (Other at number) = after_other s

-- the moment after a call that the record answers
abbrev pub answered : Moment → CallRecord → Moment
answered m r = record { time = m.time + 1; state = state_after m.state r; done = m.done ++ r ∷ []; left = drop 1 m.left }

-- with no record left, the call is the exit
abbrev pub after_call : Moment → List CallRecord → Moment
after_call m [] = record m { time = m.time + 1; state = after_exit m.state }
after_call m (r ∷ rs) = answered m r

-- a trap leaves the moment as it is
abbrev pub after_outcome : Moment → Outcome → Moment
after_outcome m (Retired s) = record m { time = m.time + 1; state = s }
after_outcome m (Called call) = after_call m m.left
after_outcome m (Trapped kind) = m

-- the moment one step later
abbrev pub advance : Moment → Moment
advance m = after_outcome m (next m.state)

-- ---- the steps

-- a read or a write that moved n bytes: the offset of the first is how many the calls before it moved on its channel
abbrev pub transfer : CallKind → List ℕ → List ℕ → ℕ → CallSeen
transfer kind args before n = record {
  kind = kind;
  channel = channel_of args;
  place = buffer_of args;
  offset = if n == 0 then 0 else length before;
  length = n;
}

abbrev pub simple_call : CallKind → CallSeen
simple_call kind = record { kind = kind; channel = 0; place = 0; offset = 0; length = 0 }

abbrev pub call_seen : Moment → List CallRecord → CallSeen
call_seen m [] = simple_call kind.Exit
call_seen m (Read at args result bytes ∷ rs) = transfer kind.Read args (received (channel_of args) m.done) (length bytes)
call_seen m (Write at args result bytes ∷ rs) = transfer kind.Write args (written (channel_of args) m.done) (length bytes)
call_seen m (Clock at value ∷ rs) = simple_call kind.Clock
call_seen m (Other at number ∷ rs) = simple_call kind.Other

-- where the run stands still no step is done, and what stands here is never used
abbrev pub no_step : ℕ → StepSeen
no_step t = record { number = t; instr = Ebreak; place = 0; call = None }

abbrev pub plain_step : ℕ → State → Fetch → StepSeen
plain_step t s (Fetched i) = record { number = t; instr = i; place = place_of s i; call = None }
plain_step t s OutsideWindow = no_step t
plain_step t s Illegal = no_step t

abbrev pub step_by : Moment → Outcome → StepSeen
step_by m (Retired s) = plain_step m.time m.state (fetch m.state)
step_by m (Called call) = record { number = m.time; instr = Ecall; place = 0; call = Some (call_seen m m.left) }
step_by m (Trapped kind) = no_step m.time

-- the step done at a moment
abbrev pub step_of : Moment → StepSeen
step_of m = step_by m (next m.state)

-- the next n steps, and the moment after them
abbrev pub steps_from : ℕ → Moment → List StepSeen
steps_from zero m = []
steps_from (suc n) m = step_of m ∷ steps_from n (advance m)

abbrev pub moment_after : ℕ → Moment → Moment
moment_after zero m = m
moment_after (suc n) m = moment_after n (advance m)

-- the steps of a run that begins in this state
abbrev pub trace : State → Log → List StepSeen
trace s log = steps_from (steps log) (start s log)
