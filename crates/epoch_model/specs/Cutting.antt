-- Where a trace is cut into epochs.
use Rattle.std.specs.Prelude.{◌≡◌, ℕ, zero, suc, ◌<◌, List, [], ◌∷◌}

-- the cuts rise strictly from s to n
abbrev pub RisesTo : ℕ → List ℕ → ℕ → Type 0
RisesTo s [] n = s ≡ n
RisesTo s (c ∷ cs) n = (s < c) × RisesTo c cs n

-- the times at which the epochs of a trace of n steps end: one for each epoch. Where there is no step, there is one
-- epoch without steps
abbrev pub IsCutting : ℕ → List ℕ → Type 0
IsCutting zero cs = cs ≡ 0 ∷ []
IsCutting (suc n) cs = RisesTo 0 cs (suc n)

-- an epoch has the steps from `first` up to, and without, `past_last`
pub record Epoch : Type 0 where
  pub first : ℕ
  pub past_last : ℕ

-- the epochs that begin at time s and end at the cuts
abbrev pub epochs : ℕ → List ℕ → List Epoch
epochs s [] = []
epochs s (c ∷ cs) = record { first = s; past_last = c } ∷ epochs c cs
