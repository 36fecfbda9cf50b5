-- Sinks in memory: what a put answers, and the sink after it.
use Rattle.std.specs.Prelude.{◌≡◌, ℕ, ◌||◌, not, min, nat_le, Bool, false, List, take, length, Option, Some, None, if◌then◌else◌}
use Rattle.outer_io.specs.Faults.{shown_count}
use Rattle.outer_io.specs.Shown.{SinkShown}
use Rattle.outer_io.specs.Buffered.{Buffered, after_push}
use Rattle.memory_outside.specs.Calls.{Calling, goes_through, after_call}

-- ---- one whose puts can fail

pub record MemoryWritten : Type 0 where
  -- what was written, and the room for more
  pub buffer : Buffered
  -- the numbers of the puts that fail, and of the next one
  pub calls : Calling
  -- how many bytes a put moves at most
  pub piece : ℕ

abbrev pub memory_sink_shown : MemoryWritten → SinkShown
memory_sink_shown s = record { written = Some s.buffer.bytes; faults = shown_count s.calls.faults }

abbrev pub write_if : Bool → List ℕ → MemoryWritten → Option ℕ × MemoryWritten
write_if went moved s = (
  if went then Some (length moved) else None,
  record s { buffer = if went then after_push moved s.buffer else s.buffer; calls = after_call went s.calls },
)

abbrev pub write_moved : List ℕ → MemoryWritten → Option ℕ × MemoryWritten
write_moved moved s = write_if (goes_through (nat_le (length moved) s.buffer.room) s.calls) moved s

abbrev pub memory_write : List ℕ → MemoryWritten → Option ℕ × MemoryWritten
memory_write piece s = write_moved (take (min (length piece) s.piece) piece) s

-- ---- one that never fails

pub record SureWritten : Type 0 where
  -- what was written, and the room for more
  pub buffer : Buffered
  -- whether a put wanted more than the room
  pub is_lost : Bool

abbrev pub sure_sink_shown : SureWritten → SinkShown
sure_sink_shown s = record { written = if s.is_lost then None else Some s.buffer.bytes; faults = 0 }

-- no put so far wanted more than the room
abbrev pub StaysWithinRoom : SureWritten → Type 0
StaysWithinRoom s = s.is_lost ≡ false

abbrev pub sure_write : List ℕ → SureWritten → Option ℕ × SureWritten
sure_write piece s = (
  Some (length piece),
  record {
    buffer = if nat_le (length piece) s.buffer.room then after_push piece s.buffer else s.buffer;
    is_lost = s.is_lost || not (nat_le (length piece) s.buffer.room);
  },
)
