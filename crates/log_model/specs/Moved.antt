-- The bytes that a run moved on its channels, as the records of its calls tell them. Counts and offsets are the
-- lengths of these lists.
use Rattle.std.specs.Prelude.{ℕ, ◌==◌, Bool, false, if◌then◌else◌, List, [], slice_index}
use Rattle.std.specs.List.{flat_map}
use Rattle.log_model.specs.declared.CallRecord.{CallRecord}
use Rattle.log_model.specs.declared.CallRecord.TheVariants.{Read, Write, Clock, Other}

-- the bytes that a call read, and those that it wrote
abbrev pub received_of : CallRecord → List ℕ
received_of (Read at args result bytes) = bytes
received_of (Write at args result bytes) = []
received_of (Clock at value) = []
received_of (Other at number) = []

abbrev pub written_of : CallRecord → List ℕ
written_of (Read at args result bytes) = []
written_of (Write at args result bytes) = bytes
written_of (Clock at value) = []
written_of (Other at number) = []

-- a read or a write on this channel, which is its first argument
abbrev pub is_on : ℕ → CallRecord → Bool
is_on channel (Read at args result bytes) = slice_index args 0 == channel
is_on channel (Write at args result bytes) = slice_index args 0 == channel
is_on channel (Clock at value) = false
is_on channel (Other at number) = false

-- the bytes that a call read, or wrote, on a channel
abbrev pub received_by : ℕ → CallRecord → List ℕ
received_by channel r = if is_on channel r then received_of r else []

abbrev pub written_by : ℕ → CallRecord → List ℕ
written_by channel r = if is_on channel r then written_of r else []

-- all bytes that these calls read, or wrote, on a channel, in order
abbrev pub received : ℕ → List CallRecord → List ℕ
received channel records = flat_map (received_by channel) records

abbrev pub written : ℕ → List CallRecord → List ℕ
written channel records = flat_map (written_by channel) records
