-- How cuts are kept.
use Rattle.std.specs.Prelude.{ℕ, ◌≤◌, List}
use Rattle.epoch_model.specs.ByLength.{epoch_count, cut_times_from, shrinking_times}
use Rattle.epoch_cut.specs.declared.cutting.Shape.{Shape}
use Rattle.epoch_cut.specs.declared.cutting.Shape.TheVariants.{LongFirst, Shrinking}

-- the times at which the epochs of a shape end
abbrev pub times_of : Shape → ℕ → ℕ → List ℕ
times_of (LongFirst lengths) steps length = cut_times_from lengths steps length
times_of (Shrinking epochs) steps length = shrinking_times epochs steps length

-- a run of so many steps can have it
abbrev pub IsShapeOf : Shape → ℕ → ℕ → Type 0
IsShapeOf (LongFirst lengths) steps length = (epoch_count steps length ≤ 4096) × ((1 ≤ lengths) × (lengths ≤ epoch_count steps length))
IsShapeOf (Shrinking epochs) steps length = (1 ≤ epochs) × (epochs ≤ 8)
