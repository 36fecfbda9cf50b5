-- Which steps the commands `read C:O` and `wrote C:O` tell.
use Rattle.std.specs.Prelude.{◌≡◌, ℕ, ◌+◌, ◌<◌, ◌≤◌, length, Some, MatchOption}
use Rattle.isa.specs.declared.CallKind.{CallKind}
use Rattle.isa.specs.declared.CallKind.TheVariants as kind
use Rattle.flow_model.specs.declared.CallSeen.{CallSeen}
use Rattle.replay_model.specs.Offsets.{call_at}
use Rattle.replayer.specs.Jobs.{Job, IsJob, trace_of}
use Rattle.run_output.specs.declared.ways.Way.{Way}
use Rattle.run_output.specs.declared.ways.Way.TheVariants.{Received, Written}
use Rattle.run_output.specs.Ways.{moved}
use Rattle.debug_model.specs.Commands.{step_of_byte}

abbrev pub kind_of_way : Way → CallKind
kind_of_way Received = kind.Read
kind_of_way Written = kind.Write

-- step k of the run is a read, or a write, and the byte at this offset of this channel is one of those that it moves
pub record MovesByteAt (job : Job) (way : Way) (channel offset k : ℕ) : Type 0 where
  pub call : CallSeen
  pub there : call_at (trace_of job) k ≡ Some call
  pub is : call.kind ≡ kind_of_way way
  pub on : call.channel ≡ channel
  pub from : call.offset ≤ offset
  pub to : offset < call.offset + call.length

-- a step that is told moves the byte. Where none is told, the run moved no more bytes that way on the channel
abbrev pub StepOfByteIsTold : Type 0
StepOfByteIsTold = (job : Job) (way : Way) (channel offset : ℕ) → IsJob job
    → MatchOption (step_of_byte way job.log (channel, offset))
    (length (moved way channel job.log.records) ≤ offset) (MovesByteAt job way channel offset)
