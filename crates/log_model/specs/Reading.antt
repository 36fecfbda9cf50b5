-- Bytes read as a log, from the front: the log that they are a text of, or their first fault and its offset.
use Rattle.std.specs.Prelude.{ℕ, suc, zero, ◌+◌, ◌-◌, ◌==◌, if◌then◌else◌, List, [], ◌∷◌, length, get_or, set, take, drop, Option, Some, None, Result, Ok, Err, ℤ, slice_index}
use Rattle.std.specs.Int.{w32, cast_signed}
use Rattle.lists.specs.Fields.{word_at}
use Rattle.log_model.specs.declared.Version.{Version}
use Rattle.log_model.specs.declared.Version.TheVariants.{One, Two}
use Rattle.log_model.specs.declared.CallRecord.{CallRecord}
use Rattle.log_model.specs.declared.CallRecord.TheVariants.{Read, Write, Clock, Other}
use Rattle.log_model.specs.declared.RunEnd.{RunEnd}
use Rattle.log_model.specs.declared.RunEnd.TheVariants.{Exit, Trap, Limit}
use Rattle.log_model.specs.declared.Item.{Item}
use Rattle.log_model.specs.declared.Item.TheVariants.{Call, End}
use Rattle.log_model.specs.declared.LogKind.{LogKind}
use Rattle.log_model.specs.declared.LogKind.TheVariants.{Magic, Header, Short, Trailing}
use Rattle.log_model.specs.Logs.{Log, at_of}
use Rattle.log_model.specs.Faults.{version_of, channel_count, channel_length, is_channel_cut, long_at, tag_of, step_of, fields_of, fixed_length, moved, data_length, left_on, header_fault, record_fault}

-- ---- the record at the front, where it has no fault

-- of a read or a write the arguments and the result
abbrev pub arguments_of : List ℕ → List ℕ
arguments_of fields = word_at fields 0 ∷ word_at fields 4 ∷ word_at fields 8 ∷ []

abbrev pub result_of : List ℕ → ℤ
result_of fields = cast_signed w32 (word_at fields 12)

-- the data that follow the fields
abbrev pub data_of : Version → ℕ → List ℕ → List ℕ
data_of v tag rest = take (data_length v tag rest) (drop (fixed_length v tag) rest)

-- the bytes of a read: in version 1 they follow the fields, in version 2 they are the front of what its channel has left
abbrev pub read_bytes : Version → List (List ℕ) → List ℕ → List ℕ
read_bytes One left rest = data_of One 1 rest
read_bytes Two left rest = take (moved (fields_of Two rest)) (left_on left (fields_of Two rest))

-- what the record says: a call, or the end of the run
abbrev pub item_of : Version → List (List ℕ) → List ℕ → Item
item_of v left rest = let tag = tag_of rest in let at = step_of v rest in let fields = fields_of v rest in
    if tag == 1 then Call (Read at (arguments_of fields) (result_of fields) (read_bytes v left rest)) else
    if tag == 2 then Call (Write at (arguments_of fields) (result_of fields) (data_of v 2 rest)) else
    if tag == 3 then Call (Clock at (long_at fields 0)) else
    if tag == 4 then Call (Other at (word_at fields 0)) else
    if tag == 5 then End (Exit at (word_at fields 0)) else
    if tag == 6 then End (Trap at (word_at fields 0) (word_at fields 4)) else
    End (Limit at)

-- how many bytes the record takes
abbrev pub item_length : Version → List ℕ → ℕ
item_length v rest = let tag = tag_of rest in fixed_length v tag + data_length v tag rest

-- what is left of the channels after a call: a read took its bytes off the front of its own, if there is one
abbrev pub left_after : CallRecord → List (List ℕ) → List (List ℕ)
left_after (Read at args result bytes) left =
    let channel = slice_index args 0 in set left channel (drop (length bytes) (get_or left channel []))
left_after (Write at args result bytes) left = left
left_after (Clock at value) left = left
left_after (Other at number) left = left

-- ---- the channels

-- the same of a value, where there is one
abbrev pub map_ok : {A B E : Type 0} → (A → B) → Result A E → Result B E
map_ok f (Ok value) = Ok (f value)
map_ok f (Err fault) = Err fault

-- the channels, and the bytes after them
abbrev pub Channels : Type 0
Channels = List (List ℕ) × List ℕ

abbrev pub with_channel : List ℕ → Channels → Channels
with_channel channel read = (channel ∷ read.0, read.1)

-- so many channels, from this offset on, and the bytes after them; or the offset of the first that isn't whole
unfoldable pub channels_of : (count offset : ℕ) → List ℕ → Result Channels (LogKind × ℕ)
channels_of zero offset rest = Ok ([], rest)
channels_of (suc count) offset rest =
    let size = channel_length rest in
    if is_channel_cut rest then Err (Header, offset) else
    map_ok (with_channel (take (word_at rest 0) (drop 4 rest))) (channels_of count (offset + size) (drop size rest))

-- ---- the records

-- what is after the channels: the calls and the end
abbrev pub Body : Type 0
Body = List CallRecord × RunEnd

abbrev pub with_call : CallRecord → Body → Body
with_call call body = (call ∷ body.0, body.1)

-- nothing may follow the end, which these bytes do, from this offset on
abbrev pub with_end : RunEnd → ℕ → List ℕ → Result Body (LogKind × ℕ)
with_end end offset [] = Ok ([], end)
with_end end offset (byte ∷ bytes) = Err (Trailing, offset)

-- The bytes from this offset on: the fault of the record at the front; or else that record and what follows it, up to
-- the end. The first step number has to be at least `least`, and `left` is left of the channels. There are at most
-- `most` records: as many as there are bytes is enough.
unfoldable pub body_of : Version → (most least offset : ℕ) → List (List ℕ) → List ℕ → Result Body (LogKind × ℕ)
body_of v zero least offset left rest = Err (Short, offset)
body_of v (suc most) least offset left rest =
    let next = offset + item_length v rest in
    let after = drop (item_length v rest) rest in
    elim (record_fault v least left rest) [
      | Some kind ↦ Err (kind, offset)
      | None ↦ elim (item_of v left rest) [
        | Call call ↦ map_ok (with_call call) (body_of v most (at_of call + 1) next (left_after call left) after)
        | End end ↦ with_end end next after
      ]
    ]

-- ---- the whole

-- the log with this header, these calls and this end
abbrev pub with_header : List ℕ → Body → Log
with_header header body = record {
  pages = word_at header 40;
  inputs = word_at header 44;
  digest = take 32 (drop 8 header);
  records = body.0;
  end = body.1;
}

-- the records and the end, of bytes of this length whose channels are read
abbrev pub after_channels : Version → ℕ → Result Channels (LogKind × ℕ) → Result Body (LogKind × ℕ)
after_channels v size (Err fault) = Err fault
after_channels v size (Ok read) = body_of v size 0 (size - length read.1) read.0 read.1

-- what is after the header, in this version
abbrev pub body_in : Option Version → List ℕ → Result Body (LogKind × ℕ)
body_in None bytes = Err (Magic, 0)
body_in (Some v) bytes =
    after_channels v (length bytes) (channels_of (channel_count v bytes) 48 (drop 48 bytes))

-- the header's fault; or else the log with what is read after the header
unfoldable pub log_of : List ℕ → Result Log (LogKind × ℕ)
log_of bytes =
    elim (header_fault bytes) [
      | Some fault ↦ Err fault
      | None ↦ map_ok (with_header bytes) (body_in (version_of bytes) bytes)
    ]
