-- The first fault of bytes that are no log, and its offset.
use Rattle.std.specs.Prelude.{◌≡◌, ℕ, ◌+◌, ◌-◌, ◌^◌, ◌<◌, ◌≤◌, ◌==◌, nat_eq, nat_lt, nat_le, Bool, true, false, not, ◌&&◌, ◌||◌, if◌then◌else◌, List, [], ◌∷◌, ◌++◌, length, get_or, take, drop, Option, Some, None, is_none, slice_index}
use Rattle.std.specs.List.{flat_map, list_any, AllByRecursion, starts_with}
use Rattle.std.specs.Int.{w64, from_le_bytes}
use Rattle.lists.specs.Fields.{word_at}
use Rattle.lists.specs.FirstTrue.{first_true}
use Rattle.log_model.specs.declared.Version.{Version}
use Rattle.log_model.specs.declared.Version.TheVariants.{One, Two}
use Rattle.log_model.specs.declared.CallRecord.{CallRecord}
use Rattle.log_model.specs.declared.RunEnd.{RunEnd}
use Rattle.log_model.specs.declared.LogKind.{LogKind}
use Rattle.log_model.specs.declared.LogKind.TheVariants.{Magic, Header, Short, Tag, Order, Result, Trailing, Bytes}
use Rattle.log_model.specs.Moved.{received}
use Rattle.log_model.specs.Logs.{magic, channel_text, at_of, end_at, record_text, end_text, least_after, IsRecord, IsEnd, Rise}

-- ---- the header: 8 bytes of magic, 32 of digest, 4 of pages, 4 of inputs

-- the version that the first 8 bytes say
abbrev pub version_of : List ℕ → Option Version
version_of bytes =
    if starts_with nat_eq bytes (magic One) then Some One else
    if starts_with nat_eq bytes (magic Two) then Some Two else None

abbrev pub are_pages_wrong : ℕ → Bool
are_pages_wrong pages = (pages == 0) || nat_lt 4096 pages

-- the first fault of the header, with its offset
abbrev pub header_fault : List ℕ → Option (LogKind × ℕ)
header_fault bytes = first_true (
    (is_none (version_of bytes), (Magic, 0)) ∷
    (nat_lt (length bytes) 48, (Header, 8)) ∷
    (are_pages_wrong (word_at bytes 40), (Header, 40)) ∷
    (nat_lt 16 (word_at bytes 44), (Header, 44)) ∷ []
    )

-- ---- the channels after the header, in version 2 alone: a length of 4 bytes, and as many bytes

-- how many channels there are
abbrev pub channel_count : Version → List ℕ → ℕ
channel_count One bytes = 0
channel_count Two bytes = word_at bytes 44

-- how many bytes the channel at the front takes: more than there are, where its length isn't whole
abbrev pub channel_length : List ℕ → ℕ
channel_length rest = 4 + word_at rest 0

-- the channel at the front isn't wholly there
abbrev pub is_channel_cut : List ℕ → Bool
is_channel_cut rest = nat_lt (length rest) (channel_length rest)

-- ---- a record, at the front of the bytes that are left: a tag, the step number, and then of a read or a write the
-- arguments and the result, of a trap its kind and pc, of other records one number

-- the number of eight bytes at a place
abbrev pub long_at : List ℕ → ℕ → ℕ
long_at bytes i = from_le_bytes w64 (take 8 (drop i bytes))

abbrev pub tag_of : List ℕ → ℕ
tag_of rest = slice_index rest 0

-- the step number follows the tag: 4 bytes in version 1, 8 in version 2
abbrev pub step_length : Version → ℕ
step_length One = 4
step_length Two = 8

abbrev pub step_of : Version → List ℕ → ℕ
step_of One rest = word_at rest 1
step_of Two rest = long_at rest 1

-- what follows the step number: of a read or a write the arguments from 0, 4 and 8 and the result from 12, of a trap its
-- kind from 0
abbrev pub fields_of : Version → List ℕ → List ℕ
fields_of v rest = drop (1 + step_length v) rest

-- the bytes of the fields after the step number
abbrev pub fields_length : ℕ → ℕ
fields_length tag =
    if (tag == 1) || (tag == 2) then 16 else
    if (tag == 3) || (tag == 6) then 8 else
    if tag == 7 then 0 else 4

-- the bytes of the tag, the step number and the fields
abbrev pub fixed_length : Version → ℕ → ℕ
fixed_length v tag = 1 + step_length v + fields_length tag

-- step numbers are below this: those of calls and of an exit are below 2^40, of a trap or a limit at most 2^40
abbrev pub step_bound : ℕ → ℕ
step_bound tag = if nat_lt tag 6 then 2 ^ 40 else 2 ^ 40 + 1

-- it isn't above that of the record before, or too high
abbrev pub is_step_wrong : ℕ → ℕ → ℕ → Bool
is_step_wrong least tag at = nat_lt at least || nat_le (step_bound tag) at

-- a result as its word: -9 and -14 are refusals
abbrev pub is_refusal : ℕ → Bool
is_refusal result = (result == 2 ^ 32 - 9) || (result == 2 ^ 32 - 14)

-- a read's result is a refusal or at most the length requested, a write's a refusal or that length, and both fit an i32
abbrev pub is_read_result_wrong : ℕ → ℕ → Bool
is_read_result_wrong requested result = not (is_refusal result || (nat_le result requested && nat_lt result (2 ^ 31)))

abbrev pub is_write_result_wrong : ℕ → ℕ → Bool
is_write_result_wrong requested result = not (is_refusal result || ((result == requested) && nat_lt result (2 ^ 31)))

abbrev pub is_trap_kind_wrong : ℕ → Bool
is_trap_kind_wrong kind = not (nat_le kind 3 || (kind == 5) || (kind == 7))

abbrev pub is_result_wrong : ℕ → List ℕ → Bool
is_result_wrong tag fields =
    ((tag == 1) && is_read_result_wrong (word_at fields 8) (word_at fields 12)) ||
    ((tag == 2) && is_write_result_wrong (word_at fields 8) (word_at fields 12)) ||
    ((tag == 6) && is_trap_kind_wrong (word_at fields 0))

-- how many bytes a read or a write with these fields moved
abbrev pub moved : List ℕ → ℕ
moved fields = if nat_lt (word_at fields 12) (2 ^ 31) then word_at fields 12 else 0

-- what was read stands in the channels before the records: in version 2
abbrev pub keeps_reads : Version → Bool
keeps_reads One = false
keeps_reads Two = true

-- the bytes that were moved follow the fields: a write's, and in version 1 a read's
abbrev pub has_data : Version → ℕ → Bool
has_data v tag = (tag == 2) || ((tag == 1) && not (keeps_reads v))

-- they stand in a channel: in version 2 a read's
abbrev pub has_channel : Version → ℕ → Bool
has_channel v tag = (tag == 1) && keeps_reads v

-- the bytes of data after the fields
abbrev pub data_length : Version → ℕ → List ℕ → ℕ
data_length v tag rest = if has_data v tag then moved (fields_of v rest) else 0

-- what is left of the channel that is a read's first argument; nothing where there is no such channel
abbrev pub left_on : List (List ℕ) → List ℕ → List ℕ
left_on left fields = get_or left (word_at fields 0) []

-- some channel has bytes left
abbrev pub are_left : List (List ℕ) → Bool
are_left left = list_any (λ bytes. nat_lt 0 (length bytes)) left

-- a read takes more than is left on its channel, or bytes are left at the end
abbrev pub are_bytes_wrong : Version → ℕ → List (List ℕ) → List ℕ → Bool
are_bytes_wrong v tag left fields =
    (has_channel v tag && nat_lt (length (left_on left fields)) (moved fields)) || (nat_lt 4 tag && are_left left)

-- the first fault of the record at the front, where its step number has to be at least `least` and this is left of the
-- channels
abbrev pub record_fault : Version → ℕ → List (List ℕ) → List ℕ → Option LogKind
record_fault v least left rest = let tag = tag_of rest in first_true (
    (length rest == 0, Short) ∷
    ((tag == 0) || nat_lt 7 tag, Tag) ∷
    (nat_lt (length rest) (fixed_length v tag), Short) ∷
    (is_step_wrong least tag (step_of v rest), Order) ∷
    (is_result_wrong tag (fields_of v rest), Result) ∷
    (are_bytes_wrong v tag left (fields_of v rest), Bytes) ∷
    (nat_lt (length rest) (fixed_length v tag + data_length v tag rest), Short) ∷ []
    )

-- ---- the bytes of a log

-- step numbers that are below this can be written
abbrev pub step_end : Version → ℕ
step_end One = 2 ^ 32
step_end Two = 2 ^ 64

-- the bytes of a channel that these calls took from what stands before the records: in version 2 all that they read on it
abbrev pub taken : Version → ℕ → List CallRecord → List ℕ
taken One channel records = []
taken Two channel records = received channel records

-- the calls took the front of each channel, and this is left of them
pub record AreLeft (v : Version) (channels : List (List ℕ)) (records : List CallRecord) (left : List (List ℕ)) : Type 0 where
  pub as_many : length left ≡ length channels
  pub each : (c : ℕ) → get_or channels c [] ≡ taken v c records ++ get_or left c []

-- these whole channels follow a header of this version, from offset 48 on, and `rest` follows them
pub record AreChannels (v : Version) (bytes : List ℕ) (channels : List (List ℕ)) (rest : List ℕ) : Type 0 where
  pub header : header_fault bytes ≡ None
  pub version : version_of bytes ≡ Some v
  pub counted : AllByRecursion (λ c. length c < 2 ^ 32) channels
  pub text : drop 48 bytes ≡ flat_map channel_text channels ++ rest

-- these records follow all channels, are in order and followed by `rest`, and this is left of the channels
pub record IsRead (v : Version) (bytes : List ℕ) (records : List CallRecord) (left : List (List ℕ)) (rest : List ℕ) : Type 0 where
  pub channels : List (List ℕ)
  pub stand : AreChannels v bytes channels (flat_map (record_text v) records ++ rest)
  pub are_all : length channels ≡ channel_count v bytes
  pub are_records : AllByRecursion IsRecord records
  pub written : AllByRecursion (λ r. at_of r < step_end v) records
  pub rise : Rise 0 records
  pub taken : AreLeft v channels records left

-- Bytes have this fault at this offset: in the header; in the channel after whole channels; in the record after whole
-- records; or after an end record
pub data HasFault (bytes : List ℕ) : LogKind → ℕ → Type 0 where
  InHeader : {kind : LogKind} {offset : ℕ} → header_fault bytes ≡ Some (kind, offset) → HasFault bytes kind offset
  InChannel : (v : Version) (channels : List (List ℕ)) (rest : List ℕ) → AreChannels v bytes channels rest
      → length channels < channel_count v bytes → is_channel_cut rest ≡ true
      → HasFault bytes Header (length bytes - length rest)
  InRecord : {kind : LogKind} (v : Version) (records : List CallRecord) (left : List (List ℕ)) (rest : List ℕ)
      → IsRead v bytes records left rest → record_fault v (least_after 0 records) left rest ≡ Some kind
      → HasFault bytes kind (length bytes - length rest)
  AfterEnd : (v : Version) (records : List CallRecord) (end : RunEnd) (left : List (List ℕ)) (rest : List ℕ)
      → IsRead v bytes records left (end_text v end ++ rest) → IsEnd end → end_at end < step_end v
      → least_after 0 records ≤ end_at end → are_left left ≡ false → 0 < length rest
      → HasFault bytes Trailing (length bytes - length rest)
