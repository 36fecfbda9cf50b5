-- How the offsets of a trace's calls count the bytes that the run moves.
use Rattle.std.specs.Prelude.{◌≡◌, ℕ, ◌+◌, ◌<◌, ◌≤◌, nat_lt, List, length, Option, Some}
use Rattle.std.specs.List.{filter}
use Rattle.std.specs.Option.{option_and_then}
use Rattle.isa.specs.declared.CallKind.TheVariants as kind
use Rattle.log_model.specs.declared.CallRecord.{CallRecord}
use Rattle.log_model.specs.Logs.{at_of}
use Rattle.log_model.specs.Moved.{received, written}
use Rattle.flow_model.specs.declared.StepSeen.{StepSeen}
use Rattle.flow_model.specs.declared.CallSeen.{CallSeen}
use Rattle.flow_model.specs.Origins.{step_at}

-- the call of step k of a trace
abbrev pub call_at : List StepSeen → ℕ → Option CallSeen
call_at trace k = option_and_then (λ s. s.call) (step_at trace k)

-- the records of the calls among the first k steps
abbrev pub records_before : ℕ → List CallRecord → List CallRecord
records_before k records = filter (λ r. nat_lt (at_of r) k) records

-- the offset of a read that moves bytes is how many bytes the steps before it read on its channel, and that of a write
-- how many they wrote on its channel
pub record OffsetsCount (trace : List StepSeen) (records : List CallRecord) : Type 0 where
  pub reads : (k : ℕ) (call : CallSeen) → call_at trace k ≡ Some call → call.kind ≡ kind.Read → 0 < call.length
      → call.offset ≡ length (received call.channel (records_before k records))
  pub writes : (k : ℕ) (call : CallSeen) → call_at trace k ≡ Some call → call.kind ≡ kind.Write → 0 < call.length
      → call.offset ≡ length (written call.channel (records_before k records))

-- the bytes of each write on a channel follow those of every earlier write on it
pub record AreWritesApart (trace : List StepSeen) : Type 0 where
  pub follow : (j k : ℕ) (a b : CallSeen) → j < k → call_at trace j ≡ Some a → call_at trace k ≡ Some b → a.kind ≡ kind.Write → b.kind ≡ kind.Write
      → 0 < a.length → 0 < b.length → a.channel ≡ b.channel → a.offset + a.length ≤ b.offset
