-- Bytes in a buffer, and the room for more.
use Rattle.std.specs.Prelude.{ℕ, ◌+◌, ◌-◌, List, [], ◌++◌, length}

pub record Buffered : Type 0 where
  pub bytes : List ℕ
  pub room : ℕ

-- with this piece at the end
abbrev pub after_push : List ℕ → Buffered → Buffered
after_push piece buffer = record { bytes = buffer.bytes ++ piece; room = buffer.room - length piece }

-- with no bytes
abbrev pub emptied : Buffered → Buffered
emptied buffer = record { bytes = []; room = buffer.room + length buffer.bytes }
