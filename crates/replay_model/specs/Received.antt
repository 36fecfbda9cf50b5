-- The source bytes that a run received, by the read calls of its trace.
use Rattle.std.specs.Prelude.{◌≡◌, ◌↔◌, ℕ, ◌+◌, ◌<◌, ◌≤◌, List, length, Some}
use Rattle.isa.specs.declared.CallKind.TheVariants as kind
use Rattle.log_model.specs.declared.CallRecord.{CallRecord}
use Rattle.log_model.specs.Moved.{received}
use Rattle.flow_model.specs.declared.StepSeen.{StepSeen}
use Rattle.flow_model.specs.declared.CallSeen.{CallSeen}
use Rattle.replay_model.specs.Offsets.{call_at}

-- step k of the trace is a read, and the byte at this offset of this channel is one of those that it moves
pub record ReadsByteAt (trace : List StepSeen) (channel offset k : ℕ) : Type 0 where
  pub call : CallSeen
  pub there : call_at trace k ≡ Some call
  pub reads : call.kind ≡ kind.Read
  pub on : call.channel ≡ channel
  pub from : call.offset ≤ offset
  pub to : offset < call.offset + call.length

-- some step of the trace reads the byte at this offset of this channel
abbrev pub IsReceived : List StepSeen → ℕ → ℕ → Type 0
IsReceived trace channel offset = (k : ℕ) × ReadsByteAt trace channel offset k

-- the bytes of a channel that the trace reads are as many as its records received on it, from the first on
abbrev pub ReadsAreReceived : List StepSeen → List CallRecord → Type 0
ReadsAreReceived trace records =
    (channel offset : ℕ) → IsReceived trace channel offset ↔ (offset < length (received channel records))
