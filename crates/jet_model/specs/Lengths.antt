-- How long the epochs of a run are.
use Rattle.std.specs.Prelude.{ℕ, ◌+◌, ◌-◌, ◌*◌, ◌/◌, max, min, List, Option, Some, None}
use Rattle.std.specs.Int.{div_ceil}
use Rattle.flow_model.specs.declared.Rule.{Rule}
use Rattle.flow_model.specs.declared.Rule.TheVariants.{Copy, Keep, Compute, Index}
use Rattle.epoch_model.specs.ByLength.{cut_times, long_first_times, shrinking_times, shared_length}

-- an epoch has at least so many steps, but for the last one, unless the words tell its length
abbrev pub least_length : ℕ
least_length = 262144

-- the first epoch has so many lengths where computed values are followed: it ends when the others do, which begin later and cost more
abbrev pub lengths_of_first : ℕ
lengths_of_first = 3

-- the length of the epochs of a run of so many steps: as the words tell it, or, where the first has several lengths, such that
-- there is an epoch for each worker, and the last one, which begins last, has three quarters of a length
abbrev pub epoch_length : Option ℕ → ℕ → ℕ → ℕ
epoch_length (Some told) workers steps = told
epoch_length None workers steps = max least_length (4 * div_ceil steps (4 * (workers + 2) - 1))

-- how many epochs get shorter: as many as workers, 8 at most, and no more than the run has of the least length
abbrev pub shrinking_epochs : ℕ → ℕ → ℕ
shrinking_epochs workers steps = max 1 (min (min workers 8) (steps / least_length))

-- where the words tell no length and moves alone are followed, an analysis costs little more than the check that goes ahead of
-- it: so each epoch is shorter than the one before it, since it begins later
abbrev pub times_of_moves : ℕ → ℕ → List ℕ
times_of_moves workers steps =
    let epochs = shrinking_epochs workers steps in
    shrinking_times epochs steps (shared_length epochs steps)

-- where computed values are followed too, the first epoch is the longest one
abbrev pub times_of_computed : ℕ → ℕ → List ℕ
times_of_computed workers steps = long_first_times lengths_of_first steps (epoch_length None workers steps)

-- the times at which the epochs of a query with this rule end, where the words tell no length
abbrev pub untold_times : Rule → ℕ → ℕ → List ℕ
untold_times Copy = times_of_moves
untold_times Keep = times_of_moves
untold_times Compute = times_of_computed
untold_times Index = times_of_computed

-- the times at which the epochs end
abbrev pub cuts_by : Option ℕ → Rule → ℕ → ℕ → List ℕ
cuts_by (Some told) rule workers steps = cut_times steps told
cuts_by None rule workers steps = untold_times rule workers steps
