-- A count of faults, and the answers that it allows.
use Rattle.std.specs.Prelude.{◌≡◌, ◌<◌, ◌≤◌, ◌+◌, ◌-◌, ◌^◌, min, ℕ, Result, IsOk, IsErr}

-- one more, of a count that stands still at its last value
abbrev pub count_on : ℕ → ℕ
count_on n = min (n + 1) (2 ^ 64 - 1)

-- a count as it is shown
abbrev pub shown_count : ℕ → ℕ
shown_count n = min n (2 ^ 64 - 1)

-- the count rose, or it stood at its last value
abbrev pub Rose : ℕ → ℕ → Type 0
Rose before now = before < 2 ^ 64 - 1 → before < now

-- the count never falls, an error comes only where it rose, and any other answer only where it didn't
pub record HasCause {T E : Type 0} (before now : ℕ) (result : Result T E) : Type 0 where
  pub later : before ≤ now
  pub failed : IsErr result → Rose before now
  pub stood : IsOk result → now ≡ before
