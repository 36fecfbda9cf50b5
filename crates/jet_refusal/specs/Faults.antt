-- The refusals of faults.
use Rattle.std.specs.Prelude.{◌≡◌}
use Rattle.replay_model.specs.declared.Misfit.{Misfit}
use Rattle.replay_model.specs.declared.Misfit.TheVariants as misfit
use Rattle.record_model.specs.declared.Unrecorded.{Unrecorded}
use Rattle.record_model.specs.declared.Unrecorded.TheVariants as unrecorded
use Rattle.no_memory.specs.declared.NoMemory.{NoMemory as OutOfMemory}
use Rattle.no_memory.specs.declared.Fault.{Fault}
use Rattle.no_memory.specs.declared.Fault.TheVariants.{At, NoMemory}
use Rattle.jet_refusal.specs.declared.refusal.Refusal.{Refusal}
use Rattle.jet_refusal.specs.declared.refusal.Refusal.TheVariants as refusal

-- of a log that doesn't fit its program
abbrev pub misfit_refusal : Misfit → Refusal
misfit_refusal (misfit.WrongProgram kept seen) = refusal.Program kept seen
misfit_refusal (misfit.Window window) = refusal.Window window.pages
misfit_refusal (misfit.Diverged d) = refusal.Diverged d

-- of a run that was not recorded
abbrev pub unrecorded_refusal : Unrecorded → Refusal
unrecorded_refusal (unrecorded.Window window) = refusal.Window window.pages
unrecorded_refusal (unrecorded.LogTooLong size) = refusal.LogTooLong size

-- memory ran out
pub record IsOutOfMemory (r : Refusal) : Type 0 where
  pub told : OutOfMemory
  pub is : r ≡ refusal.NoMemory told

-- the refusal of a fault is that of its cause; else out of memory is handed on
abbrev pub IsRefusalOf : {K : Type 0} → (K → Refusal → Type 0) → Fault K → Refusal → Type 0
IsRefusalOf gives (At cause) given = gives cause given
IsRefusalOf gives (NoMemory no_memory) given = given ≡ refusal.NoMemory no_memory
