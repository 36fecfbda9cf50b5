-- The cuts of a run: each is within the run, and what is left of them. Crates above cite these lemmas.
use Rattle.std.proofs.Common.{◌≡◌, ℕ, zero, suc, ◌+◌, ◌≤◌, List, [], ◌∷◌, length, slice_get, ap, sym, subst, ◌∙◌, arith}
use Rattle.std.specs.List.{AllByRecursion}
use Rattle.epoch_model.specs.Cutting.{RisesTo, IsCutting}
use Rattle.epoch_model.proofs.Asking.{rises_up}

within : (s n : ℕ) (cs : List ℕ) → RisesTo s cs n → AllByRecursion (λ c. c ≤ n) cs
within s n [] r = tt
within s n (c ∷ cs) r = (rises_up c cs n r.1, within c n cs r.1)

pub all_within : (n : ℕ) (cuts : List ℕ) → IsCutting n cuts → AllByRecursion (λ c. c ≤ n) cuts
all_within zero cuts e = subst (AllByRecursion (λ c. c ≤ 0)) (sym e) (omega arith, tt)
all_within (suc n) cuts r = within 0 (suc n) cuts r

-- the cuts cs that are left, and the time s before them, stand in all cuts from place k on
pub record AreLeft (cuts : List ℕ) (k s : ℕ) (cs : List ℕ) : Type 0 where
  pub count : k + length cs ≡ length cuts
  pub at : (j : ℕ) → slice_get (0 ∷ cuts) (k + j) ≡ slice_get (s ∷ cs) j

pub one_left : (cuts : List ℕ) (k s c : ℕ) (cs : List ℕ) → AreLeft cuts k s (c ∷ cs) → AreLeft cuts (suc k) c cs
one_left cuts k s c cs h = record {
  count = omega (arith, h.count);
  at = λ j. let place : suc k + j ≡ k + suc j = omega arith in ap (slice_get (0 ∷ cuts)) place ∙ h.at (suc j);
}
