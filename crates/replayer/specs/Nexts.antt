-- What a cursor gives next.
use Rattle.std.specs.Prelude.{◌≡◌, ℕ, ◌+◌, ◌<◌, ◌≤◌, Some, None}
use Rattle.log_model.specs.declared.RunEnd.{RunEnd}
use Rattle.log_model.specs.Logs.{steps}
use Rattle.flow_model.specs.declared.StepSeen.{StepSeen}
use Rattle.flow_model.specs.Origins.{step_at}
use Rattle.replayer.specs.Jobs.{Job, trace_of}
use Rattle.flow_model.specs.Ranges.{IsInRange}
use Rattle.replayer.specs.declared.cursor.Next.{Next}
use Rattle.replayer.specs.declared.cursor.PlainStep.{PlainStep}
use Rattle.replayer.specs.declared.cursor.Next.TheVariants.{Step, End}
use Rattle.replayer.specs.Positions.{CursorAt}

-- the step that the run makes at the cursor's time. The cursor goes on by one
pub record IsStepAt (before : CursorAt) (s : StepSeen) (after : CursorAt) : Type 0 where
  pub below : before.time < steps before.job.log
  pub step : step_at (trace_of before.job) before.time ≡ Some s
  pub number : s.number ≡ before.time
  pub moved : after ≡ record before { time = before.time + 1 }
  pub in_range : IsInRange s

-- after all steps it is the log's end, again and again
pub record IsEndAt (before : CursorAt) (e : RunEnd) (after : CursorAt) : Type 0 where
  pub done : before.time ≡ steps before.job.log
  pub end : e ≡ before.job.log.end
  pub same : after ≡ before

abbrev pub IsNext : CursorAt → Next → CursorAt → Type 0
IsNext before (Step s) after = IsStepAt before s after
IsNext before (End e) after = IsEndAt before e after

-- ---- plain steps

-- a plain step at a time, as a step of the run
abbrev pub seen_at : ℕ → PlainStep → StepSeen
seen_at t p = record { number = t; instr = p.instr; place = p.place; call = None }

-- the run makes a step at this time, and it is no call
pub record IsPlainAt (job : Job) (t : ℕ) : Type 0 where
  pub below : t < steps job.log
  pub no_call : (s : StepSeen) → step_at (trace_of job) t ≡ Some s → s.call ≡ None

-- each step from time t on, up to another time, is a plain one
abbrev pub ArePlain : Job → ℕ → ℕ → Type 0
ArePlain job t until = (k : ℕ) → t ≤ k → k < until → IsPlainAt job k

-- it is the first time from t on at which the run makes no plain step: it makes a call, or all its steps are done
pub record IsPlainUntil (job : Job) (t until : ℕ) : Type 0 where
  pub later : t ≤ until
  pub plain : ArePlain job t until
  pub no_longer : IsPlainAt job until → ⊥
