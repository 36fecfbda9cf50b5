-- What is noted of registers beside their labels.
use Rattle.std.specs.Prelude.{◌≡◌, ◌<◌, ℕ, true, false, List, slice_index_or}
use Rattle.taint_shadow.specs.declared.lanes.Lanes.{Lanes}
use Rattle.taint_shadow.specs.Lanes.{alike, clean}
use Rattle.taint_shadow.specs.Marks.{has_mark}

-- x0 isn't noted as labelled, and the lanes of another register that isn't came from nowhere
pub record AreNoted (labelled : ℕ) (registers : List Lanes) : Type 0 where
  pub first : has_mark labelled 0 ≡ false
  pub at : (r : ℕ) → 0 < r → r < 32 → has_mark labelled r ≡ false → slice_index_or registers r clean ≡ clean

-- all lanes of a register that is noted as alike have one label
abbrev pub AreAlike : ℕ → List Lanes → Type 0
AreAlike marks registers = (r : ℕ) → r < 32 → has_mark marks r ≡ true → slice_index_or registers r clean ≡ alike (slice_index_or registers r clean).first
