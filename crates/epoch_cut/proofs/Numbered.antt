-- Epochs with their numbers, one after another.
use Rattle.std.proofs.Common.{◌≡◌, ℕ, zero, suc, ◌+◌, Some, List, [], ◌∷◌, ◌++◌, length, take, refl, ap, ◌∙◌, subst, arith}
use Rattle.std.specs.List.{slice_get}
use Rattle.epoch_model.specs.Cutting.{epochs}
use Rattle.epoch_cut.specs.Numbered.{NumberedEpoch, numbered}

abbrev ticket : ℕ → ℕ → ℕ → NumberedEpoch
ticket number first past = record { number = number; first = first; past_last = past }

-- after the first k epochs comes the one between the cuts k and k + 1
numbered_next : (j s : ℕ) (cuts : List ℕ) (k first past : ℕ) → slice_get (s ∷ cuts) k ≡ Some first → slice_get (s ∷ cuts) (suc k) ≡ Some past → take (suc k) (numbered j (epochs s cuts)) ≡ take k (numbered j (epochs s cuts)) ++ ticket (j + k) first past ∷ []
numbered_next j s [] zero first past at next = cc
numbered_next j s [] (suc k) first past at next = cc
numbered_next j s (c ∷ cuts) zero first past at next =
    let from : s ≡ first = cc in
    let to : c ≡ past = cc in
    let number : j ≡ j + 0 = omega arith in
    rw (← from, ← to) (ap (λ n. ticket n s c ∷ []) number)
numbered_next j s (c ∷ cuts) (suc k) first past at next =
    let number : suc j + k ≡ j + suc k = omega arith in
    ap (λ es. ticket j s c ∷ es) (numbered_next (suc j) c cuts k first past at next ∙ ap (λ n. take k (numbered (suc j) (epochs c cuts)) ++ ticket n first past ∷ []) number)

pub numbered_more : (cuts : List ℕ) (k first past : ℕ) → slice_get (0 ∷ cuts) k ≡ Some first → slice_get (0 ∷ cuts) (k + 1) ≡ Some past → take (k + 1) (numbered 0 (epochs 0 cuts)) ≡ take k (numbered 0 (epochs 0 cuts)) ++ ticket k first past ∷ []
numbered_more cuts k first past at next =
    let one : k + 1 ≡ suc k = omega arith in
    let same : 0 + k ≡ k = omega arith in
    rw one (numbered_next 0 0 cuts k first past at (subst (λ n. slice_get (0 ∷ cuts) n ≡ Some past) one next) ∙ ap (λ n. take k (numbered 0 (epochs 0 cuts)) ++ ticket n first past ∷ []) same)

pub length-numbered : (j s : ℕ) (cuts : List ℕ) → length (numbered j (epochs s cuts)) ≡ length cuts
length-numbered j s [] = refl
length-numbered j s (c ∷ cuts) = ap suc (length-numbered (suc j) c cuts)
