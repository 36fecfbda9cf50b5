-- One record at the front of the bytes that are left, taken apart and put together.
use Rattle.std.specs.Prelude.{◌≡◌, ℕ, ◌≤◌, if◌then◌else◌, List, length, take, drop, None}
use Rattle.log_model.specs.declared.Version.{Version}
use Rattle.log_model.specs.declared.Version.TheVariants.{One, Two}
use Rattle.log_model.specs.declared.Item.{Item}
use Rattle.log_model.specs.declared.Item.TheVariants.{Call, End}
use Rattle.log_model.specs.Faults.{tag_of, step_of, fields_of, fixed_length, moved, has_data, left_on, record_fault}
use Rattle.log_model.specs.Reading.{data_of, item_of, item_length, left_after}
use Rattle.log_model.specs.declared.LogKind.{LogKind}
use Rattle.log_model.specs.declared.FaultInLog.{FaultInLog}
use Rattle.no_memory.specs.declared.Fault.{Fault}
use Rattle.no_memory.specs.declared.Fault.TheVariants.{At, NoMemory}
use Rattle.replay_log.specs.declared.record_parts.RecordParts.{RecordParts}
use Rattle.replay_log.specs.Tags.{number}

-- how many bytes of data follow these fields
abbrev pub data_count : Version → ℕ → List ℕ → ℕ
data_count v tag fields = if has_data v tag then moved fields else 0

-- the parts of the record at the front, which has no fault
pub record ArePartsOf (v : Version) (least : ℕ) (left : List (List ℕ)) (rest : List ℕ) (parts : RecordParts) : Type 0 where
  pub none : record_fault v least left rest ≡ None
  pub tag : number parts.tag ≡ tag_of rest
  pub fixed : fixed_length v (tag_of rest) ≤ length rest
  pub at : parts.at ≡ step_of v rest
  pub fields : parts.fields.now ≡ fields_of v rest
  pub bytes : parts.bytes.now ≡ data_of v (tag_of rest) rest
  pub after : parts.after.now ≡ drop (item_length v rest) rest

-- the bytes of a read with these fields, and these bytes after them
abbrev pub bytes_read : Version → List (List ℕ) → List ℕ → List ℕ → List ℕ
bytes_read One left fields bytes = bytes
bytes_read Two left fields bytes = take (moved fields) (left_on left fields)

-- what is left of the channels after a record
abbrev pub left_by : Item → List (List ℕ) → List (List ℕ)
left_by (Call call) left = left_after call left
left_by (End end) left = left

-- the record at the front has no fault and says this, those are the bytes after it, and that is left of the channels
pub record IsFirst (v : Version) (least : ℕ) (left : List (List ℕ)) (rest : List ℕ) (item : Item) (after : List ℕ) (kept : List (List ℕ)) : Type 0 where
  pub none : record_fault v least left rest ≡ None
  pub says : item ≡ item_of v left rest
  pub leaves : after ≡ drop (item_length v rest) rest
  pub keeps : kept ≡ left_by item left

-- the fault of the bytes, where the record at fault begins at this offset
abbrev pub at_offset : Fault LogKind → ℕ → Fault FaultInLog
at_offset (At kind) offset = At (record { kind = kind; offset = offset })
at_offset (NoMemory no_memory) offset = NoMemory no_memory
