-- Cuts rise to the number of steps.
use Rattle.std.proofs.Common.{ℕ, zero, suc, ◌+◌, ◌<◌, ◌≤◌, List, [], ◌∷◌, length, get_or, arith, ap}
use Rattle.epoch_model.specs.Cutting.{RisesTo, IsCutting}

rises_end : (s n : ℕ) (cs : List ℕ) → RisesTo s cs n → s ≤ n
rises_end s n [] r = omega (arith, r)
rises_end s n (c ∷ cs) r = omega (arith, r.0, rises_end c n cs r.1)

rises_at : (s n : ℕ) (cs : List ℕ) → RisesTo s cs n → (k : ℕ) → k < length cs → get_or (s ∷ cs) k 0 < get_or cs k 0
rises_at s n [] r k h = absurd (omega (arith, h))
rises_at s n (c ∷ cs) r zero h = r.0
rises_at s n (c ∷ cs) r (suc k) h = rises_at c n cs r.1 k (omega (arith, h))

-- the epochs but the first begin later than the one before
pub begins_later : (n : ℕ) (cuts : List ℕ) → IsCutting n cuts → (k : ℕ) → k + 1 < length cuts → get_or (0 ∷ cuts) k 0 < get_or cuts k 0
begins_later zero cuts e k h = absurd (omega (arith, h, ap length e))
begins_later (suc n) cuts r k h = rises_at 0 (suc n) cuts r k (omega (arith, h))

rises_within : (s n : ℕ) (cs : List ℕ) → RisesTo s cs n → (k : ℕ) → k < length (s ∷ cs) → get_or (s ∷ cs) k 0 ≤ n
rises_within s n cs r zero h = rises_end s n cs r
rises_within s n [] r (suc k) h = absurd (omega (arith, h))
rises_within s n (c ∷ cs) r (suc k) h = rises_within c n cs r.1 k (omega (arith, h))

-- no epoch begins after the run's end
pub begins_within : (n : ℕ) (cuts : List ℕ) → IsCutting n cuts → (k : ℕ) → k < length cuts → get_or (0 ∷ cuts) k 0 ≤ n
begins_within zero cuts e zero h = omega arith
begins_within zero cuts e (suc k) h = absurd (omega (arith, h, ap length e))
begins_within (suc n) cuts r k h = rises_within 0 (suc n) cuts r k (omega (arith, h))
