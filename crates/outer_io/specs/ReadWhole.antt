-- What reading a whole file answers.
use Rattle.std.specs.Prelude.{◌≡◌, ◌<◌, ◌≤◌, ◌⊎◌, ℕ, ◌+◌, Bool, List, [], ◌∷◌, length, Option, Some}
use Rattle.outer_io.specs.Tells.{Tells}
use Rattle.outer_io.specs.Files.{Files, Text}
use Rattle.outer_io.specs.Shown.{StoreShown}
use Rattle.outer_io.specs.Faults.{Rose}
use Rattle.outer_io.specs.declared.whole.Unread.{Unread}
use Rattle.outer_io.specs.declared.whole.Unread.TheVariants.{ReadFault, TooLong}

-- the file has this content
abbrev pub HasContent : Text → List ℕ → Files → Files → Type 0
HasContent name content old new = new.file name ≡ Some content

-- one byte more than this was taken of the file, which is that long
pub record IsLonger (name : Text) (max : ℕ) (old new : Files) : Type 0 where
  pub content : List ℕ
  pub is_there : new.file name ≡ Some content
  pub longer : max < length content
  pub reading : new.reading ≡ name
  pub taken : length new.taken ≡ max + 1

-- nothing was taken, or of this file at most so many bytes
abbrev pub TakesAtMost : Text → ℕ → Files → Files → Type 0
TakesAtMost name most old new = ((new.reading ≡ old.reading) × (new.taken ≡ old.taken)) ⊎ ((new.reading ≡ name) × (length new.taken ≤ most))

-- when each error comes; `old` and `new` are what the store showed before the call and after it. A store that fails does so before
-- more than `max` bytes were taken
abbrev pub ReadCause : Text → ℕ → StoreShown → StoreShown → Unread → Type 0
ReadCause name max old new ReadFault = Rose old.faults new.faults × Tells old.files new.files (TakesAtMost name max)
ReadCause name max old new (TooLong taken) = (taken ≡ max + 1) × Tells old.files new.files (IsLonger name max)

-- ---- the calls

-- a `read`: the room of the buffer, the answer, and the store before it
pub record Call (S : Type 0) : Type 0 where
  pub room : ℕ
  pub answer : Option ℕ
  pub before : S

-- these reads, the last first, made `new` of `old`, and each buffer had at most so much room
abbrev pub AreReads : {S : Type 0} → (S → ℕ → Option ℕ → S → Type 0) → ℕ → List (Call S) → S → S → Type 0
AreReads reads most [] old new = new ≡ old
AreReads reads most (last ∷ earlier) old new = (last.room ≤ most) × reads last.before last.room last.answer new × AreReads reads most earlier old last.before

-- one `begin_read` of this name made `new` of `old`, and then reads into buffers of at most so much room
pub record ComesByReads {S : Type 0} (begins : S → Text → Bool → S → Type 0) (reads : S → ℕ → Option ℕ → S → Type 0) (name : Text) (most : ℕ) (old new : S) : Type 0 where
  pub begun : S
  pub went : Bool
  pub begins_so : begins old name went begun
  pub calls : List (Call S)
  pub are_reads : AreReads reads most calls begun new
