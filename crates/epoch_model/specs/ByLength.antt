-- Runs that are cut by a length.
use Rattle.std.specs.Prelude.{ℕ, ◌+◌, ◌-◌, ◌*◌, ◌/◌, min, max, List, map}
use Rattle.std.specs.Int.{div_ceil}
use Rattle.std.specs.List.{range_with_len}

-- how many epochs a run of so many steps has: the steps by the length, rounded up, and one at least
abbrev pub epoch_count : ℕ → ℕ → ℕ
epoch_count steps length = max 1 (div_ceil steps length)

-- where the first k epochs end: after k times the length, or with the run
abbrev pub cut_at : ℕ → ℕ → ℕ → ℕ
cut_at steps length k = min (k * length) steps

-- the times at which the epochs end, one for each
unfoldable pub cut_times : ℕ → ℕ → List ℕ
cut_times steps length = map (cut_at steps length) (range_with_len 1 (epoch_count steps length))

-- the same from the k-th on: the first k lengths are one epoch
unfoldable pub cut_times_from : ℕ → ℕ → ℕ → List ℕ
cut_times_from k steps length = map (cut_at steps length) (range_with_len k (epoch_count steps length + 1 - k))

-- where the first epoch has so many lengths, or all that there are
abbrev pub long_first_times : ℕ → ℕ → ℕ → List ℕ
long_first_times lengths steps length = cut_times_from (min lengths (epoch_count steps length)) steps length

-- ---- epochs that get shorter: the last one has 1 length, the one before it 3, and the ones before these 6, 10, 15 and so on

-- how many lengths the last m epochs have together
abbrev pub lengths_of_last : ℕ → ℕ
lengths_of_last m = m * (m + 1) * (m + 2) / 6

-- the times at which so many of them end
unfoldable pub shrinking_times : ℕ → ℕ → ℕ → List ℕ
shrinking_times epochs steps length =
    map (λ k. cut_at steps length (lengths_of_last epochs - lengths_of_last (epochs - k))) (range_with_len 1 epochs)

-- how long a length is, where so many epochs that get shorter share the steps of a run
abbrev pub shared_length : ℕ → ℕ → ℕ
shared_length epochs steps = max 1 (div_ceil steps (lengths_of_last epochs))
