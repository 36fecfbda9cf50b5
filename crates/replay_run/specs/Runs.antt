-- A machine that runs under a log: where it stands, and the steps that it makes.
use Rattle.std.specs.Prelude.{◌≡◌, ℕ, ◌+◌, ◌^◌, ◌<◌, ◌≤◌, Bool, true, false, IsTrue, List, [], ◌∷◌, ◌++◌, length, Some, None}
use Rattle.isa.specs.Machine.{State, reg, in_window, call_of}
use Rattle.isa.specs.Calls.{channel_of, buffer_of}
use Rattle.isa.specs.Encodings.{Fits}
use Rattle.isa.specs.declared.Instr.TheVariants.{Ecall}
use Rattle.isa.specs.declared.CallKind.TheVariants as kind
use Rattle.log_model.specs.declared.Version.TheVariants.{Two}
use Rattle.log_model.specs.declared.CallRecord.{CallRecord}
use Rattle.log_model.specs.declared.CallRecord.TheVariants.{Read, Write, Clock, Other}
use Rattle.log_model.specs.Logs.{Log, IsLog, log_text, at_of, Rise}
use Rattle.flow_model.specs.declared.StepSeen.{StepSeen}
use Rattle.replay_model.specs.Run.{Moment, call_seen, after_call}
use Rattle.rv_machine.specs.Hart.{Hart}
use Rattle.rv_machine.specs.declared.Stepped.{Stepped}
use Rattle.rv_machine.specs.declared.Stepped.TheVariants.{Plain, Called, Trapped}

-- the log, the moment at which the run stands, and whether a call of it waits for its answer
pub record RunAt : Type 0 where
  pub log : Log
  pub moment : Moment
  pub waits : Bool

-- the run's machine
abbrev pub hart_of : RunAt → Hart
hart_of r = record { state = r.moment.state; waits = r.waits }

-- the run with its machine in this state
abbrev pub with_hart : RunAt → Hart → RunAt
with_hart r hart = record { log = r.log; moment = record (r.moment) { state = hart.state }; waits = hart.waits }

-- the run with one more step done, which took no record
abbrev pub later_by_one : RunAt → RunAt
later_by_one r = record { log = r.log; moment = record (r.moment) { time = r.moment.time + 1 }; waits = r.waits }

-- the run with so many more plain steps done, in this state
abbrev pub gone_on : RunAt → ℕ → State → RunAt
gone_on r n s = record { log = r.log; moment = record (r.moment) { time = r.moment.time + n; state = s }; waits = false }

-- true of each run: the records that are done and left are those of its log, and the ones left rise from its time on
pub record IsUnderLog (r : RunAt) : Type 0 where
  pub form : IsLog r.log
  pub small : length (log_text Two r.log) ≤ 2 ^ 27
  pub all : r.moment.done ++ r.moment.left ≡ r.log.records
  pub rise : Rise r.moment.time r.moment.left

-- ---- the call that waits

-- these bytes are moved on one of so many channels, from or to the window at x11
pub record CanMove (s : State) (channels : ℕ) (args bytes : List ℕ) : Type 0 where
  pub channel : channel_of args < channels
  pub inside : IsTrue (in_window s (reg s 11) (length bytes))

-- the record is of the call that waits, so that its answer can be given. Bytes are read on one of so many inputs, and
-- written on one of the 16 channels
abbrev pub Answers : ℕ → State → CallRecord → Type 0
Answers inputs s (Read at args result bytes) =
    ((call_of s).kind ≡ kind.Read) × (buffer_of args ≡ reg s 11) × (0 < length bytes → CanMove s inputs args bytes)
Answers inputs s (Write at args result bytes) =
    ((call_of s).kind ≡ kind.Write) × (buffer_of args ≡ reg s 11) × (0 < length bytes → CanMove s 16 args bytes)
Answers inputs s (Clock at value) = (call_of s).kind ≡ kind.Clock
Answers inputs s (Other at number) = (call_of s).kind ≡ kind.Other

-- the first of the records left is of the call that waits, and of now; with no record left the call is the exit
abbrev pub IsDue : ℕ → Moment → List CallRecord → Type 0
IsDue inputs m [] = (call_of m.state).kind ≡ kind.Exit
IsDue inputs m (r ∷ rs) = (at_of r ≡ m.time) × Answers inputs m.state r

-- the first of the records left is of a later step
abbrev pub IsLater : ℕ → List CallRecord → Type 0
IsLater time [] = Unit {0}
IsLater time (r ∷ rs) = time < at_of r

-- the first of the records left is of no step before so many more are done
abbrev pub AreLater : ℕ → ℕ → List CallRecord → Type 0
AreLater time n [] = Unit {0}
AreLater time n (r ∷ rs) = time + n ≤ at_of r

-- ---- finishing a step

-- a step can be finished: it is plain, or a call that waits, as the log has it
abbrev pub IsReady : RunAt → Stepped → Type 0
IsReady r (Plain instr place) = (r.waits ≡ false) × Fits instr × IsLater r.moment.time r.moment.left
IsReady r (Called call) = (r.waits ≡ true) × IsDue r.log.inputs r.moment r.moment.left
IsReady r (Trapped kind pc) = ⊥

-- the step that was made, and the moment after it
abbrev pub IsFinished : Moment → Stepped → StepSeen → Moment → Type 0
IsFinished m (Plain instr place) s after =
    (s ≡ record { number = m.time; instr = instr; place = place; call = None }) × (after ≡ record m { time = m.time + 1 })
IsFinished m (Called call) s after =
    (s ≡ record { number = m.time; instr = Ecall; place = 0; call = Some (call_seen m m.left) }) × (after ≡ after_call m m.left)
IsFinished m (Trapped kind pc) s after = ⊥
