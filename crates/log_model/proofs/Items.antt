-- A record of a log: a call or the end.
use Rattle.std.proofs.Common.{◌≡◌, ℕ, ◌≤◌, ◌<◌, false, List, [], ◌++◌, length, get_or, drop}
use Rattle.std.specs.Prelude.{slice_index}
use Rattle.log_model.specs.declared.Version.{Version}
use Rattle.log_model.specs.declared.Version.TheVariants.{One, Two}
use Rattle.log_model.specs.declared.CallRecord.{CallRecord}
use Rattle.log_model.specs.declared.CallRecord.TheVariants.{Read}
use Rattle.log_model.specs.declared.Item.{Item}
use Rattle.log_model.specs.declared.Item.TheVariants.{Call, End}
use Rattle.log_model.specs.Logs.{at_of, end_at, record_text, end_text, IsRecord, IsEnd}
use Rattle.log_model.specs.Faults.{step_end, are_left}

abbrev pub item_text : Version → Item → List ℕ
item_text v (Call r) = record_text v r
item_text v (End e) = end_text v e

-- the number of steps done before it
abbrev pub item_at : Item → ℕ
item_at (Call r) = at_of r
item_at (End e) = end_at e

abbrev pub IsForm : Item → Type 0
IsForm (Call r) = IsRecord r
IsForm (End e) = IsEnd e

-- in version 2 these bytes are the front of what a channel has left
abbrev pub IsFront : Version → List ℕ → List ℕ → Type 0
IsFront One bytes channel = Unit {0}
IsFront Two bytes channel = channel ≡ bytes ++ drop (length bytes) channel

abbrev pub IsCallOf : Version → List (List ℕ) → CallRecord → Type 0
IsCallOf v left (Read at args result bytes) = IsFront v bytes (get_or left (slice_index args 0) [])
IsCallOf v left r = Unit {0}

-- what is left of the channels allows it
abbrev pub IsItemOf : Version → List (List ℕ) → Item → Type 0
IsItemOf v left (Call r) = IsCallOf v left r
IsItemOf v left (End e) = are_left left ≡ false

-- the bytes are its text and what is after it
pub record IsNext (v : Version) (least : ℕ) (left : List (List ℕ)) (bytes : List ℕ) (item : Item) (after : List ℕ) : Type 0 where
  pub form : IsForm item
  pub written : item_at item < step_end v
  pub order : least ≤ item_at item
  pub allowed : IsItemOf v left item
  pub parts : bytes ≡ item_text v item ++ after
