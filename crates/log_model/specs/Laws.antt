-- What is true of all logs and of all bytes.
use Rattle.std.specs.Prelude.{◌≡◌, ◌↔◌, ℕ, ◌+◌, ◌*◌, ◌<◌, ◌⊎◌, List, length, take, Ok, Err}
use Rattle.std.specs.List.{sum_by}
use Rattle.log_model.specs.declared.Version.TheVariants.{One, Two}
use Rattle.log_model.specs.declared.LogKind.{LogKind}
use Rattle.log_model.specs.Logs.{Log, IsLog, IsBytes, IsTextOf, CanHold, record_text, end_text, log_text, share}
use Rattle.log_model.specs.Faults.{HasFault}
use Rattle.log_model.specs.Reading.{log_of}

-- bytes are read as a log exactly where they are a text of it
abbrev pub ReadsLogs : Type 0
ReadsLogs =
    (bytes : List ℕ) (log : Log) → IsBytes bytes → (log_of bytes ≡ Ok log) ↔ (IsLog log × IsTextOf log bytes)

-- a fault is read exactly where bytes have it
abbrev pub ReadsFaults : Type 0
ReadsFaults =
    (bytes : List ℕ) (kind : LogKind) (offset : ℕ) → IsBytes bytes
    → (log_of bytes ≡ Err (kind, offset)) ↔ HasFault bytes kind offset

-- what version 2 can hold is read from its text as it was, whichever version it was read from before
abbrev pub WideLogsAreRead : Type 0
WideLogsAreRead = (log : Log) → IsLog log → CanHold Two log → log_of (log_text Two log) ≡ Ok log

-- bytes are a text of one log: what stands in a log stands in its texts
abbrev pub HaveOneText : Type 0
HaveOneText = (a b : Log) (bytes : List ℕ) → IsLog a → IsLog b → IsTextOf a bytes → IsTextOf b bytes → a ≡ b

abbrev pub FaultyAreNoLogs : Type 0
FaultyAreNoLogs =
    (bytes : List ℕ) (kind : LogKind) (offset : ℕ) (log : Log)
    → HasFault bytes kind offset → IsLog log → IsTextOf log bytes → ⊥

abbrev pub HaveOneFault : Type 0
HaveOneFault = (bytes : List ℕ) (k j : LogKind) (o p : ℕ) → HasFault bytes k o → HasFault bytes j p → (k ≡ j) × (o ≡ p)

abbrev pub AreLogsOrFaulty : Type 0
AreLogsOrFaulty =
    (bytes : List ℕ) → IsBytes bytes
    → ((log : Log) × IsLog log × IsTextOf log bytes) ⊎ ((kind : LogKind) × (offset : ℕ) × HasFault bytes kind offset)

-- version 1: 48 bytes of header, and then the records' and the end's; version 2: also a length for each channel, and
-- with each record what its channel keeps of it
abbrev pub HaveLength : Type 0
HaveLength =
    (log : Log) → IsLog log
    → (length (log_text One log) ≡
    48 + sum_by (λ r. length (record_text One r)) log.records + length (end_text One log.end)) ×
    (length (log_text Two log) ≡
    48 + 4 * log.inputs + sum_by (share log.inputs) log.records + length (end_text Two log.end))

-- less than the whole of a text of a log is no log's text
abbrev pub ArePrefixFree : Type 0
ArePrefixFree =
    (log other : Log) (bytes : List ℕ) (n : ℕ) → IsLog log → IsLog other
    → IsTextOf log bytes → n < length bytes → IsTextOf other (take n bytes) → ⊥
