-- What a call sees and leaves outside.
use Rattle.std.specs.Prelude.{◌≡◌, ◌-◌, ◌^◌, ◌<◌, ℕ, List, Option, Some, IsSome}
use Rattle.outer_io.specs.Files.{Files}
use Rattle.outer_io.specs.Shown.{StoreShown, SinkShown}
use Rattle.outer_io.specs.Tells.{Tells}

-- what the store and the output show, and what the clock answered so far, if it tells it
pub record Outside : Type 0 where
  pub store : StoreShown
  pub output : SinkShown
  pub heard : Option (List ℕ)

-- the outside before a call and after it
pub record Change : Type 0 where
  pub before : Outside
  pub after : Outside

-- the same, by the members of the three and by their values before and after
abbrev pub change : {S O K : Type 0} → (S → StoreShown) → (O → SinkShown) → (K → Option (List ℕ)) → S → O → K → S → O → K → Change
change store output heard s o k s' o' k' = record {
  before = record { store = store s; output = output o; heard = heard k };
  after = record { store = store s'; output = output o'; heard = heard k' };
}

-- where the store tells its files to the end, those before and after are so related
abbrev pub IfTold : Change → (Files → Files → Type 0) → Type 0
IfTold change related = Tells change.before.store.files change.after.store.files related

-- neither count of faults rose
pub record IsFaultless (change : Change) : Type 0 where
  pub store : change.after.store.faults ≡ change.before.store.faults
  pub output : change.after.output.faults ≡ change.before.output.faults

-- the store tells its files to the end, and the counts of faults stood below their last value and didn't rise
pub record IsUndisturbed (change : Change) : Type 0 where
  pub told : Files
  pub tells : change.before.store.files ≡ Some told
  pub still_tells : IsSome change.after.store.files
  pub store_room : change.before.store.faults < 2 ^ 64 - 1
  pub store_faults : change.after.store.faults ≡ change.before.store.faults
  pub output_room : change.before.output.faults < 2 ^ 64 - 1
  pub output_faults : change.after.output.faults ≡ change.before.output.faults
