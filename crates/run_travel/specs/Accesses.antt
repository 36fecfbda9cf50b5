-- The bytes of memory that a step reads, and those that it writes. That its instruction is fetched counts for nothing.
use Rattle.std.specs.Prelude.{ℕ, List, Option, Some, None}
use Rattle.std.specs.List.{range_with_len}
use Rattle.isa.specs.declared.CallKind.{CallKind}
use Rattle.isa.specs.declared.CallKind.TheVariants.{Write}
use Rattle.rv_decode.specs.Accesses.{Access, Loads, Stores, Neither, access_of}
use Rattle.flow_model.specs.declared.StepSeen.{StepSeen}
use Rattle.flow_model.specs.declared.CallSeen.{CallSeen}
use Rattle.checkpoints.specs.Touched.{stored_size, received_size}
use Rattle.run_travel.specs.declared.access.Span.{Span}

-- the addresses of some bytes
abbrev pub places : Span → List ℕ
places s = range_with_len s.place s.size

-- how many bytes an instruction loads
abbrev pub size_loaded : Access → ℕ
size_loaded (Loads l) = l.size
size_loaded (Stores s) = 0
size_loaded Neither = 0

-- a write takes the bytes that it moves out of memory
abbrev pub size_taken : CallKind → ℕ → ℕ
size_taken Write n = n
size_taken _ n = 0

-- what a step with this call, if it is one, reads and writes. What is stored, and what a read puts there, is what
-- checkpoints note
abbrev pub read_by : StepSeen → Option CallSeen → Span
read_by step None = record { place = step.place; size = size_loaded (access_of step.instr) }
read_by step (Some call) = record { place = call.place; size = size_taken call.kind call.length }

abbrev pub written_by : StepSeen → Option CallSeen → Span
written_by step None = record { place = step.place; size = stored_size step.instr }
written_by step (Some call) = record { place = call.place; size = received_size call.kind call.length }
