-- The state that a run begins in, where there is one.
use Rattle.std.proofs.Common.{◌≡◌, ℕ, List, Option, Some, None, refl, subst}
use Rattle.isa.specs.Machine.{State}
use Rattle.isa.specs.ZeroRegister.{IsX0Zero}
use Rattle.elf_model.specs.Image.{Image}
use Rattle.elf_model.specs.Window.{window, start_in, start_with}
use Rattle.elf_model.specs.StartLaws.{StartHasX0Zero}

by_window : (im : Image) (pages : ℕ) (s : State) (w : Option (List ℕ)) → start_with im pages w ≡ Some s → IsX0Zero s
by_window im pages s None e = cc
by_window im pages s (Some memory) e =
    let begun : start_in im pages memory ≡ s = cc in
    let P : State → Type 0 = λ t. IsX0Zero t in subst P begun refl

pub start_has_x0_zero : StartHasX0Zero
start_has_x0_zero im pages s e = by_window im pages s (window im pages) e
