-- What each call of a recorded run gets, as a function of the state that it is made in. What a recording is doesn't
-- rest on it: a log's records are the ones that this gives.
use Rattle.std.specs.Prelude.{◌≡◌, ℕ, List, [], length, ℤ, pos, negsuc, slice_index}
use Rattle.isa.specs.declared.CallKind.{CallKind}
use Rattle.isa.specs.declared.CallKind.TheVariants as kind
use Rattle.isa.specs.Machine.{State, Called, Trapped, next, reg, bytes_at, call_of}
use Rattle.isa.specs.Calls.{refusal_of}
use Rattle.log_model.specs.declared.CallRecord.{CallRecord}
use Rattle.log_model.specs.declared.CallRecord.TheVariants.{Read, Write, Clock, Other}
use Rattle.log_model.specs.declared.RunEnd.{RunEnd}
use Rattle.log_model.specs.declared.RunEnd.TheVariants.{Exit, Trap, Limit}
use Rattle.replay_model.specs.Comparison.{arguments_of}
use Rattle.record_model.specs.Recorded.{part_of}

-- the result and the bytes of a read or a write that would move these bytes: where it is refused, the refusal and no
-- bytes
abbrev pub result_of : ℤ → List ℕ → ℤ
result_of (negsuc n) whole = negsuc n
result_of (pos n) whole = pos (length whole)

abbrev pub bytes_of : ℤ → List ℕ → List ℕ
bytes_of (negsuc n) whole = []
bytes_of (pos n) whole = whole

-- the record of a read after t steps that would get this part of its channel, where there are so many channels
abbrev pub read_record : ℕ → State → ℕ → List ℕ → CallRecord
read_record t s channels part =
    let args = arguments_of s in
    let refused = refusal_of s channels args in
    Read t args (result_of refused part) (bytes_of refused part)

-- the record of a write
abbrev pub write_record : ℕ → State → CallRecord
write_record t s =
    let args = arguments_of s in
    let refused = refusal_of s 16 args in
    let whole = bytes_at s (reg s 11) (reg s 12) in
    Write t args (result_of refused whole) (bytes_of refused whole)

-- the record of a call of this kind after t steps, where so many bytes were received on the channel that x10 names, and
-- the clock is going to give these answers. The exit has no record
abbrev pub record_at : List (List ℕ) → ℕ → ℕ → List ℕ → ℕ → State → CallKind → CallRecord
record_at inputs piece offset answers t s kind.Read = read_record t s (length inputs)
    (part_of inputs piece offset (arguments_of s))
record_at inputs piece offset answers t s kind.Write = write_record t s
record_at inputs piece offset answers t s kind.Clock = Clock t (slice_index answers 0)
record_at inputs piece offset answers t s kind.Other = Other t (reg s 17)
record_at inputs piece offset answers t s kind.Exit = Other t (reg s 17)

-- the run ends by itself in this state, after t steps
abbrev pub EndsIn : State → ℕ → RunEnd → Type 0
EndsIn s t (Exit at code) = (at ≡ t) × (next s ≡ Called (call_of s)) × ((call_of s).kind ≡ kind.Exit) ×
    (code ≡ reg s 10)
EndsIn s t (Trap at k pc) = (at ≡ t) × (next s ≡ Trapped k) × (pc ≡ s.pc)
EndsIn s t (Limit at) = ⊥
