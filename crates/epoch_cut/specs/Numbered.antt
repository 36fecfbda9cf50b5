-- Epochs with their numbers.
use Rattle.std.specs.Prelude.{ℕ, suc, List, [], ◌∷◌}
use Rattle.epoch_model.specs.Cutting.{Epoch}

-- an epoch with its number
pub record NumberedEpoch : Type 0 where
  pub number : ℕ
  pub first : ℕ
  pub past_last : ℕ

-- the epochs in order, numbered from k on
abbrev pub numbered : ℕ → List Epoch → List NumberedEpoch
numbered k [] = []
numbered k (e ∷ es) = record { number = k; first = e.first; past_last = e.past_last } ∷ numbered (suc k) es
