-- How a command ends.
use Rattle.std.specs.Prelude.{◌≡◌, ◌≤◌, ◌⊎◌, ℕ, List, [], Option, Some, None, Result, Ok, Err}
use Rattle.outer_io.specs.Faults.{Rose}
use Rattle.outer_io.specs.Shown.{SinkShown}
use Rattle.outer_io.specs.Tells.{Tells, Gains, GainsPrefix}
use Rattle.outer_io.specs.Files.{Files}
use Rattle.jet_words.specs.Commands.{CommandOf}
use Rattle.jet_refusal.specs.declared.refusal.Refusal.{Refusal}
use Rattle.jet_refusal.specs.declared.refusal.Refusal.TheVariants as refusal
use Rattle.jet_refusal.specs.Refusals.{status_of}
use Rattle.jet_refusal.specs.Causes.{Causes, IsOwedTo}
use Rattle.jet_refusal.specs.Faults.{IsOutOfMemory}
use Rattle.jet_model.specs.Contents.{Contents}
use Rattle.command_parts.specs.Outcome.{HeldBefore}
use Rattle.jet_commands.specs.Plans.{IsAnswer, target_of}
use Rattle.outer_io.specs.Outside.{Change, IfTold, IsFaultless}
use Rattle.jet_commands.specs.Writing.{Delivers, DeliversPart, FailsToWrite}

-- the files as they were come to some text, which was so delivered
pub record Writes (wanted : Contents → List ℕ → Type 0) (delivers : List ℕ → Files → Files → Type 0) (old new : Files) : Type 0 where
  pub text : List ℕ
  pub is_wanted : wanted old.file text
  pub delivered : delivers text old new

-- the text of a command
abbrev pub IsText : CommandOf → Change → Contents → List ℕ → Type 0
IsText command change file text = IsAnswer command change.before.heard change.after.heard file (Ok text)

-- the text that is wanted was written whole
abbrev pub WritesWhole : CommandOf → Change → (Contents → List ℕ → Type 0) → Files → Files → Type 0
WritesWhole command change wanted = Writes wanted (Delivers (target_of command) change.before.output change.after.output)

-- the same, but at most its first bytes were written
abbrev pub WritesPart : CommandOf → Change → (Contents → List ℕ → Type 0) → Files → Files → Type 0
WritesPart command change wanted = Writes wanted (DeliversPart (target_of command) change.before.output change.after.output)

-- what a refusal is owed to: there is no command; or the files as they were come to it; or the store failed; or what is written
-- to failed
abbrev pub causes_of : Option CommandOf → Change → Refusal → Causes
causes_of None change refusal = record { usage = Unit {0}; files = ⊥; read = ⊥; write = ⊥ }
causes_of (Some command) change refusal = record {
  usage = ⊥;
  files = IfTold change (HeldBefore (λ file. IsAnswer command change.before.heard change.after.heard file (Err refusal)));
  read = Rose change.before.store.faults change.after.store.faults;
  write = FailsToWrite (target_of command) change.before.store change.after.store change.before.output change.after.output
      × IfTold change (WritesPart command change (IsText command change));
}

-- nothing failed, and the text was written whole; there is no text where there is no command
abbrev pub IsDelivered : Option CommandOf → Change → Type 0
IsDelivered None change = ⊥
IsDelivered (Some command) change = IsFaultless change × IfTold change (WritesWhole command change (IsText command change))

-- how a command ended: its text was written whole, or it was refused
abbrev pub Ends : Option CommandOf → Change → Result (Unit {0}) Refusal → Type 0
Ends command change (Ok done) = IsDelivered command change
Ends command change (Err refusal) = IsOwedTo (causes_of command change refusal) refusal

-- ---- what was not done

-- these refusals can come after the clock was asked
abbrev pub IsLate : Refusal → Type 0
IsLate r = ((size : ℕ) × (r ≡ refusal.LogTooLong size)) ⊎ (r ≡ refusal.WriteFault) ⊎ IsOutOfMemory r

-- before every other refusal the clock gave no answer; `heard` and `heard_after` are what it told before and after
abbrev pub IsUnasked : Option (List ℕ) → Option (List ℕ) → Refusal → Type 0
IsUnasked heard heard_after r = IsLate r ⊎ Tells heard heard_after (Gains [])

-- nothing was written
pub record IsUnwritten (status : ℕ) : Type 0 where
  pub not_done : status ≡ 0 → ⊥
  pub not_failed : status ≡ 8 → ⊥
