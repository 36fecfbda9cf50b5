-- Marks of registers, as the bits of a word.
use Rattle.std.specs.Prelude.{◌≡◌, ◌<◌, ◌==◌, ℕ, Bool, true, false, if◌then◌else◌}
use Rattle.std.specs.Int.{bit_at}

-- register r is marked
abbrev pub has_mark : ℕ → ℕ → Bool
has_mark marks r = bit_at marks r == 1

-- each register but x0 is marked
pub record AllButFirst (marks : ℕ) : Type 0 where
  pub first : has_mark marks 0 ≡ false
  pub other : (r : ℕ) → 0 < r → r < 32 → has_mark marks r ≡ true

-- register d is marked, or isn't, and the others are as they were
abbrev pub SetsMark : ℕ → ℕ → Bool → ℕ → Type 0
SetsMark old d b new = (r : ℕ) → r < 32 → has_mark new r ≡ (if d == r then b else has_mark old r)
