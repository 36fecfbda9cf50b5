-- What holds of the cut times of every run, by every length of 1 at least.
use Rattle.std.specs.Prelude.{◌≡◌, ℕ, ◌≤◌, ◌⊎◌, Some, ◌∷◌, length, slice_get}
use Rattle.epoch_model.specs.Cutting.{IsCutting}
use Rattle.epoch_model.specs.ByLength.{epoch_count, cut_at, cut_times, long_first_times, shrinking_times, shared_length}

-- they rise strictly from 0 to the number of steps, and are 0 alone where there is no step
abbrev pub CutTimesAreCutting : Type 0
CutTimesAreCutting = (steps by : ℕ) → 1 ≤ by → IsCutting steps (cut_times steps by)

-- there are as many as there are epochs
abbrev pub CutTimesAreCounted : Type 0
CutTimesAreCounted = (steps by : ℕ) → length (cut_times steps by) ≡ epoch_count steps by

-- 0 and then the cut times: the k-th is k times the length, or the number of steps
abbrev pub CutTimesAreMultiples : Type 0
CutTimesAreMultiples = (steps by k : ℕ) → k ≤ epoch_count steps by → slice_get (0 ∷ cut_times steps by) k ≡ Some (cut_at steps by k)

-- so do they where the first epoch has several lengths
abbrev pub LongFirstTimesAreCutting : Type 0
LongFirstTimesAreCutting = (lengths steps by : ℕ) → 1 ≤ lengths → 1 ≤ by → IsCutting steps (long_first_times lengths steps by)

-- so do they where eight epochs at most get shorter, and there are steps for more than one
abbrev pub ShrinkingTimesAreCutting : Type 0
ShrinkingTimesAreCutting = (epochs steps : ℕ) → 1 ≤ epochs → epochs ≤ 8 → (epochs ≡ 1) ⊎ (16384 ≤ steps)
    → IsCutting steps (shrinking_times epochs steps (shared_length epochs steps))
