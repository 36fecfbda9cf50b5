-- What the outcome of calls that read files says of the files.
use Rattle.std.specs.Prelude.{◌≡◌, ℕ, List, Result, Ok, Err, Vec}
use Rattle.std.specs.declared.alloc.Global.{Global}
use Rattle.outer_io.specs.Faults.{Rose}
use Rattle.outer_io.specs.Tells.{Tells}
use Rattle.outer_io.specs.Files.{Files}
use Rattle.outer_io.specs.Shown.{StoreShown}
use Rattle.jet_refusal.specs.declared.refusal.Refusal.{Refusal}
use Rattle.jet_refusal.specs.Causes.{Causes, IsOwedTo}
use Rattle.jet_model.specs.Contents.{Contents}

-- it held of the files, as they were before the calls
pub record HeldBefore (fact : Contents → Type 0) (old new : Files) : Type 0 where
  pub held : fact old.file

-- the causes of a refusal where files are read: what they hold is refused, or the store failed
abbrev pub by_reading : Type 0 → Type 0 → Causes
by_reading refused failed = record { usage = ⊥; files = refused; read = failed; write = ⊥ }

-- The outcome is one by this relation. `before` and `after` are what the store showed. Where it tells its files, the
-- relation holds of them and the outcome; or the store failed; or memory is out. Where the outcome is a value, no call of the store failed.
abbrev pub IsOutcomeBy : {A : Type 0} → (Contents → Result A Refusal → Type 0) → StoreShown → StoreShown → Result A Refusal → Type 0
IsOutcomeBy relation before after (Ok x) = (after.faults ≡ before.faults) × Tells before.files after.files (HeldBefore (λ file. relation file (Ok x)))
IsOutcomeBy relation before after (Err r) =
    IsOwedTo (by_reading (Tells before.files after.files (HeldBefore (λ file. relation file (Err r)))) (Rose before.faults after.faults)) r

-- the outcome is that of the files by this function
abbrev pub IsOutcomeOf : {A : Type 0} → (Contents → Result A Refusal) → StoreShown → StoreShown → Result A Refusal → Type 0
IsOutcomeOf of before after outcome = IsOutcomeBy (λ file answer. of file ≡ answer) before after outcome

-- the outcome of work that reads no file is this answer, or memory is out
abbrev pub IsWork : {A : Type 0} → Result A Refusal → Result A Refusal → Type 0
IsWork answer (Ok x) = answer ≡ Ok x
IsWork answer (Err r) = IsOwedTo (by_reading (answer ≡ Err r) ⊥) r

-- ---- outcomes, as the definitions see them

abbrev pub seen_by : {A B : Type 0} → (A → B) → Result A Refusal → Result B Refusal
seen_by view (Ok x) = Ok (view x)
seen_by view (Err r) = Err r

abbrev pub bytes_of : Vec ℕ Global → List ℕ
bytes_of bytes = bytes.items
