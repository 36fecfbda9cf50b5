-- A wire in memory whose calls can fail: what each call answers, and the wire after it.
use Rattle.std.specs.Prelude.{ℕ, ◌&&◌, min, nat_le, nat_lt, Bool, true, false, List, take, length, Option, Some, None}
use Rattle.outer_io.specs.Faults.{shown_count}
use Rattle.memory_outside.specs.Calls.{Calling, goes_through, after_call}
use Rattle.outer_wire.specs.Wires.{WireShown}
use Rattle.memory_wire.specs.Passing.{PassingAt, after_receive, after_send}

pub record MemoryWired : Type 0 where
  -- what passed, what is still to come, and the room for more
  pub passing : PassingAt
  -- the numbers of the calls that fail, and of the next one
  pub calls : Calling
  -- how many bytes a call moves at most
  pub piece : ℕ

abbrev pub memory_wire_shown : MemoryWired → WireShown
memory_wire_shown w = record { history = Some w.passing.history; faults = shown_count w.calls.faults }

-- after one more call, which went through or not
abbrev pub counted : Bool → MemoryWired → MemoryWired
counted went w = record w { calls = after_call went w.calls }

-- ---- bytes are received into a buffer of this room: it fails where there is no room for a call

abbrev pub received_if : Bool → ℕ → ℕ → MemoryWired → Option ℕ × MemoryWired
received_if true room n w = (Some n, record (counted true w) { passing = after_receive room n w.passing })
received_if false room n w = (None, counted false w)

abbrev pub memory_receive : ℕ → MemoryWired → Option ℕ × MemoryWired
memory_receive room w =
    received_if (goes_through (nat_lt 0 w.passing.calls_left) w.calls) room (min (min room w.piece) (length w.passing.coming)) w

-- ---- a piece is sent: it fails where there is no room for it, or for a call

abbrev pub sent_if : Bool → List ℕ → MemoryWired → Option ℕ × MemoryWired
sent_if true moved w = (Some (length moved), record (counted true w) { passing = after_send moved w.passing })
sent_if false moved w = (None, counted false w)

abbrev pub send_moved : List ℕ → MemoryWired → Option ℕ × MemoryWired
send_moved moved w = sent_if (goes_through (nat_le (length moved) w.passing.room && nat_lt 0 w.passing.calls_left) w.calls) moved w

abbrev pub memory_send : List ℕ → MemoryWired → Option ℕ × MemoryWired
memory_send piece w = send_moved (take (min (length piece) w.piece) piece) w
