-- Segments that can be laid out in a window.
use Rattle.std.specs.Prelude.{ℕ, ◌+◌, ◌≤◌, List, length}
use Rattle.std.specs.List.{All}
use Rattle.elf_model.specs.Image.{LoadedSegment}

-- a segment begins at or above an address, and its bytes end at or below another one
pub record HasRoom (base past : ℕ) (s : LoadedSegment) : Type 0 where
  pub above_base : base ≤ s.place
  pub below_end : s.place + length s.bytes ≤ past

abbrev pub HaveRoom : ℕ → ℕ → List LoadedSegment → Type 0
HaveRoom base past segments = All (HasRoom base past) segments
