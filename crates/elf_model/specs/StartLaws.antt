-- What holds of the state that a run begins in.
use Rattle.std.specs.Prelude.{◌≡◌, ℕ, Some}
use Rattle.isa.specs.Machine.{State}
use Rattle.isa.specs.ZeroRegister.{IsX0Zero}
use Rattle.elf_model.specs.Image.{Image}
use Rattle.elf_model.specs.Window.{start_of}

-- x0 is 0
abbrev pub StartHasX0Zero : Type 0
StartHasX0Zero = (im : Image) (pages : ℕ) (s : State) → start_of im pages ≡ Some s → IsX0Zero s
