-- The steps of a run that is being recorded.
use Rattle.std.specs.Prelude.{◌≡◌, ℕ, ◌+◌, ◌^◌, ◌≤◌, ◌⊎◌, true, false, List, [], length, Option, Some, None, slice_index}
use Rattle.isa.specs.declared.Call.{Call}
use Rattle.isa.specs.declared.CallKind.{CallKind}
use Rattle.isa.specs.Machine.{State, Retired, Called, next, reg, call_of}
use Rattle.log_model.specs.declared.CallRecord.{CallRecord}
use Rattle.log_model.specs.declared.RunEnd.{RunEnd}
use Rattle.log_model.specs.Logs.{IsRecord, IsEnd}
use Rattle.log_model.specs.Moved.{received_by}
use Rattle.replay_model.specs.Run.{state_after}
use Rattle.replay_model.specs.Comparison.{CallOf, kept_event, call_event}
use Rattle.record_model.specs.Recorded.{input_of, clock_values_of}
use Rattle.record_model.specs.Calls.{record_at, EndsIn}
use Rattle.rv_machine.specs.Hart.{Hart, running}
use Rattle.outer_io.specs.Tells.{Tells, Gains}
use Rattle.call_record.specs.Sources.{contents}
use Rattle.call_record.specs.Tapes.{Adds}
use Rattle.call_record.specs.declared.source.Source.{Source}
use Rattle.call_record.specs.declared.tape.Tape.{Tape}
use Rattle.call_record.specs.declared.recorder.Recorder.{Recorder}

-- where a recording stands: the machine's state, how many bytes were received on each channel, and the tape
pub record Point : Type 0 where
  pub state : State
  pub counts : List ℕ
  pub tape : Tape

abbrev pub point_of : Recorder → Point
point_of r = record { state = r.machine.state; counts = r.counts; tape = r.tape }

-- the window is one that runs have, and no channel was read past its end
pub record IsSafe (source : Source) (p : Point) : Type 0 where
  pub window : length p.state.memory ≤ 2 ^ 24
  pub within : (c : ℕ) → slice_index p.counts c ≤ length (input_of (contents source.inputs.now) c)

-- a call of this kind waits for its answer
pub record WaitsFor (hart : Hart) (call : Call) (k : CallKind) : Type 0 where
  pub waits : hart.waits ≡ true
  pub call_is : call ≡ call_of hart.state
  pub kind_is : (call_of hart.state).kind ≡ k

-- the machine made this call in its last step
pub record IsCalled (hart : Hart) (call : Call) : Type 0 where
  pub waits : hart.waits ≡ true
  pub call_is : call ≡ call_of hart.state
  pub called : next hart.state ≡ Called (call_of hart.state)

-- ---- calls

-- the record of the call in this state after t steps, where the clock gives these answers
abbrev pub due_record : Source → ℕ → List ℕ → Point → CallRecord
due_record source t values p =
    let s = p.state in
    record_at (contents source.inputs.now) source.piece (slice_index p.counts (reg s 10)) values t s (call_of s).kind

-- the call was answered by this record: the machine went on, what was received is counted, and the tape has the record
pub record Keeps (made : CallRecord) (before : Point) (after : Recorder) : Type 0 where
  pub machine : after.machine ≡ running (state_after before.state made)
  pub counts : (c : ℕ) → slice_index after.counts c ≡ slice_index before.counts c + length (received_by c made)
  pub tape : Adds before.tape made after.tape

-- the call was recorded, and the clock gave these answers
pub record Records (source : Source) (t : ℕ) (values : List ℕ) (before : Point) (after : Recorder) : Type 0 where
  pub made : CallRecord
  pub kind_is : call_event (call_of before.state).kind ≡ kept_event (CallOf made)
  pub form : IsRecord made
  pub is_due : made ≡ due_record source t values before
  pub values_are : clock_values_of made ≡ values
  pub keeps : Keeps made before after

-- ---- steps

pub record IsPlain (values : List ℕ) (before : Point) (after : Recorder) : Type 0 where
  pub retired : next before.state ≡ Retired after.machine.state
  pub goes_on : after.machine.waits ≡ false
  pub counts : after.counts ≡ before.counts
  pub tape : after.tape ≡ before.tape
  pub no_values : values ≡ []

pub record IsCall (source : Source) (t : ℕ) (values : List ℕ) (before : Point) (after : Recorder) : Type 0 where
  pub called : next before.state ≡ Called (call_of before.state)
  pub records : Records source t values before after

-- one more step was recorded
pub record GoesOn (source : Source) (t : ℕ) (before : Point) (after : Recorder) (told told_after : Option (List ℕ)) :
    Type 0 where
  pub values : List ℕ
  pub gained : Tells told told_after (Gains values)
  pub step : IsPlain values before after ⊎ IsCall source t values before after

-- the run ended before another step, or by one that is no call to record
pub record Stops (t : ℕ) (end : RunEnd) (before : Point) (after : Recorder) (told told_after : Option (List ℕ)) : Type 0
  where
    pub gained : Tells told told_after (Gains [])
    pub ends_in : EndsIn before.state t end
    pub form : IsEnd end
    pub tape : after.tape ≡ before.tape

abbrev pub IsStepOf : Source → ℕ → Option RunEnd → Point → Recorder → Option (List ℕ) → Option (List ℕ) → Type 0
IsStepOf source t None before after told told_after = GoesOn source t before after told told_after
IsStepOf source t (Some end) before after told told_after = Stops t end before after told told_after

-- the clock gave some answers
pub record Gained (told told_after : Option (List ℕ)) : Type 0 where
  pub values : List ℕ
  pub gained : Tells told told_after (Gains values)
