-- Logs, and the text in bytes that each has in either version. Numbers are little-endian.
use Rattle.std.specs.Prelude.{◌≡◌, ℕ, ◌+◌, ◌^◌, ◌<◌, ◌≤◌, ◌⊎◌, nat_lt, if◌then◌else◌, List, [], ◌∷◌, ◌++◌, length, map, ℤ, pos, negsuc, ◌≤ℤ◌, ◌<ℤ◌, slice_index}
use Rattle.std.specs.List.{flat_map, range_with_len, AllByRecursion}
use Rattle.std.specs.Int.{w32, w64, to_le_bytes, cast_unsigned}
use Rattle.log_model.specs.declared.Version.{Version}
use Rattle.log_model.specs.declared.Version.TheVariants.{One, Two}
use Rattle.log_model.specs.declared.CallRecord.{CallRecord}
use Rattle.log_model.specs.declared.CallRecord.TheVariants.{Read, Write, Clock, Other}
use Rattle.log_model.specs.declared.RunEnd.{RunEnd}
use Rattle.log_model.specs.declared.RunEnd.TheVariants.{Exit, Trap, Limit}
use Rattle.log_model.specs.Moved.{received}

-- the window's pages, the number of input channels, the digest of the program, the calls and the end
pub record Log : Type 0 where
  pub pages : ℕ
  pub inputs : ℕ
  pub digest : List ℕ
  pub records : List CallRecord
  pub end : RunEnd

-- the number of steps done before a call
abbrev pub at_of : CallRecord → ℕ
at_of (Read at args result bytes) = at
at_of (Write at args result bytes) = at
at_of (Clock at value) = at
at_of (Other at number) = at

-- the number of steps done before the end
abbrev pub end_at : RunEnd → ℕ
end_at (Exit at code) = at
end_at (Trap at kind pc) = at
end_at (Limit at) = at

-- the number of all steps: the exit call is one
abbrev pub steps_by : RunEnd → ℕ
steps_by (Exit at code) = at + 1
steps_by (Trap at kind pc) = at
steps_by (Limit at) = at

abbrev pub steps : Log → ℕ
steps log = steps_by log.end

-- ---- the text

abbrev pub word32 : ℕ → List ℕ
word32 n = to_le_bytes w32 n

abbrev pub word64 : ℕ → List ℕ
word64 n = to_le_bytes w64 n

abbrev pub signed32 : ℤ → List ℕ
signed32 z = word32 (cast_unsigned w32 z)

-- a step number: four bytes in version 1, eight in version 2
abbrev pub step_text : Version → ℕ → List ℕ
step_text One at = word32 at
step_text Two at = word64 at

-- the bytes of a read stand in its record in version 1 alone
abbrev pub read_text : Version → List ℕ → List ℕ
read_text One bytes = bytes
read_text Two bytes = []

-- a record: the tag, the step number, the fields, the bytes
abbrev pub record_text : Version → CallRecord → List ℕ
record_text v (Read at args result bytes) = 1 ∷ step_text v at ++ flat_map word32 args ++ signed32 result ++ read_text v bytes
record_text v (Write at args result bytes) = 2 ∷ step_text v at ++ flat_map word32 args ++ signed32 result ++ bytes
record_text v (Clock at value) = 3 ∷ step_text v at ++ word64 value
record_text v (Other at number) = 4 ∷ step_text v at ++ word32 number

abbrev pub end_text : Version → RunEnd → List ℕ
end_text v (Exit at code) = 5 ∷ step_text v at ++ word32 code
end_text v (Trap at kind pc) = 6 ∷ step_text v at ++ word32 kind ++ word32 pc
end_text v (Limit at) = 7 ∷ step_text v at

-- `JETLOG1` or `JETLOG2`, and a line feed
abbrev pub magic : Version → List ℕ
magic One = 0x4a ∷ 0x45 ∷ 0x54 ∷ 0x4c ∷ 0x4f ∷ 0x47 ∷ 0x31 ∷ 0x0a ∷ []
magic Two = 0x4a ∷ 0x45 ∷ 0x54 ∷ 0x4c ∷ 0x4f ∷ 0x47 ∷ 0x32 ∷ 0x0a ∷ []

abbrev pub header_text : Version → Log → List ℕ
header_text v log = magic v ++ log.digest ++ word32 log.pages ++ word32 log.inputs

-- what stands before the records: in version 2 all bytes received on each channel
abbrev pub kept_channels : Version → Log → List (List ℕ)
kept_channels One log = []
kept_channels Two log = map (λ c. received c log.records) (range_with_len 0 log.inputs)

-- a channel: how many bytes, and then they
abbrev pub channel_text : List ℕ → List ℕ
channel_text bytes = word32 (length bytes) ++ bytes

-- a log's text in a version
abbrev pub log_text : Version → Log → List ℕ
log_text v log =
    header_text v log ++ flat_map channel_text (kept_channels v log) ++
    flat_map (record_text v) log.records ++ end_text v log.end

-- ---- which logs there are

-- each is below 256
abbrev pub IsBytes : List ℕ → Type 0
IsBytes bytes = AllByRecursion (λ b. b < 256) bytes

-- the results of a read or a write that is refused: -9 and -14
abbrev pub no_such_channel : ℤ
no_such_channel = negsuc 8

abbrev pub outside_window : ℤ
outside_window = negsuc 13

abbrev pub IsRefusal : ℤ → Type 0
IsRefusal result = (result ≡ no_such_channel) ⊎ (result ≡ outside_window)

-- how many bytes a result says were moved
abbrev pub moved_length : ℤ → ℕ
moved_length (pos n) = n
moved_length (negsuc n) = 0

-- the three arguments of a read or a write, the result, and as many bytes as it says
pub record IsTransfer (args : List ℕ) (result : ℤ) (bytes : List ℕ) : Type 0 where
  pub three : length args ≡ 3
  pub words : AllByRecursion (λ n. n < 2 ^ 32) args
  pub fits : result <ℤ pos (2 ^ 31)
  pub whole : length bytes ≡ moved_length result
  pub are_bytes : IsBytes bytes

-- a read moves at most the length requested, a write all of it; a call's step number is below 2^40
abbrev pub IsRecord : CallRecord → Type 0
IsRecord (Read at args result bytes) =
    (at < 2 ^ 40) × IsTransfer args result bytes ×
    (IsRefusal result ⊎ ((pos 0 ≤ℤ result) × (result ≤ℤ pos (slice_index args 2))))
IsRecord (Write at args result bytes) =
    (at < 2 ^ 40) × IsTransfer args result bytes × (IsRefusal result ⊎ (result ≡ pos (slice_index args 2)))
IsRecord (Clock at value) = (at < 2 ^ 40) × (value < 2 ^ 64)
IsRecord (Other at number) = (at < 2 ^ 40) × (number < 2 ^ 32)

-- the exception codes that end a run
abbrev pub IsTrapKind : ℕ → Type 0
IsTrapKind k = (k ≤ 3) ⊎ (k ≡ 5) ⊎ (k ≡ 7)

-- an exit is a step, and a trap or a limit comes after at most 2^40 steps
abbrev pub IsEnd : RunEnd → Type 0
IsEnd (Exit at code) = (at < 2 ^ 40) × (code < 2 ^ 32)
IsEnd (Trap at kind pc) = (at ≤ 2 ^ 40) × IsTrapKind kind × (pc < 2 ^ 32)
IsEnd (Limit at) = at ≤ 2 ^ 40

-- step numbers rise strictly: the first is at least `least`, and each other above the one before it
abbrev pub Rise : ℕ → List CallRecord → Type 0
Rise least [] = Unit {0}
Rise least (r ∷ rs) = (least ≤ at_of r) × Rise (at_of r + 1) rs

-- the least step number that may follow these records
abbrev pub least_after : ℕ → List CallRecord → ℕ
least_after least [] = least
least_after least (r ∷ rs) = least_after (at_of r + 1) rs

pub record IsLog (log : Log) : Type 0 where
  pub pages : (1 ≤ log.pages) × (log.pages ≤ 4096)
  pub inputs : log.inputs ≤ 16
  pub digest : length log.digest ≡ 32
  pub digest_bytes : IsBytes log.digest
  pub records : AllByRecursion IsRecord log.records
  pub end : IsEnd log.end
  pub rise : Rise 0 log.records
  pub ends_after : least_after 0 log.records ≤ end_at log.end

-- ---- which logs a version can hold

-- the bytes received on a channel: they can be counted in four bytes, and there are none where there is no such channel
abbrev pub FitsChannel : ℕ → ℕ → List ℕ → Type 0
FitsChannel inputs channel bytes = (length bytes < 2 ^ 32) × (inputs ≤ channel → bytes ≡ [])

-- version 1 a log whose step numbers are below 2^32, version 2 one whose reads are of its channels
abbrev pub CanHold : Version → Log → Type 0
CanHold One log = AllByRecursion (λ r. at_of r < 2 ^ 32) log.records × (end_at log.end < 2 ^ 32)
CanHold Two log = (channel : ℕ) → FitsChannel log.inputs channel (received channel log.records)

-- these bytes are a text of this log
pub record IsTextOf (log : Log) (bytes : List ℕ) : Type 0 where
  pub version : Version
  pub held : CanHold version log
  pub spelt : bytes ≡ log_text version log

-- ---- how long a text of version 2 is

-- how many bytes of a call its channel keeps: a read's, on one of so many channels
abbrev pub kept_length : ℕ → CallRecord → ℕ
kept_length inputs (Read at args result bytes) = if nat_lt (slice_index args 0) inputs then length bytes else 0
kept_length inputs (Write at args result bytes) = 0
kept_length inputs (Clock at value) = 0
kept_length inputs (Other at number) = 0

-- the bytes that a call adds to the text: its record, and what its channel keeps
abbrev pub share : ℕ → CallRecord → ℕ
share inputs r = length (record_text Two r) + kept_length inputs r
