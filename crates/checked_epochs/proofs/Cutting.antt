-- The epochs of a cutting: all but the last, which follow one another, and the last, which ends with the run.
use Rattle.std.proofs.Common.{◌≡◌, ℕ, zero, suc, ◌-◌, ◌≤◌, List, [], ◌∷◌, ◌++◌, length, length-append, sym, ap, ◌∙◌, subst, arith}
use Rattle.log_model.specs.declared.RunEnd.{RunEnd}
use Rattle.log_model.specs.declared.RunEnd.TheVariants.{Exit}
use Rattle.log_model.specs.Logs.{end_at, steps_by}
use Rattle.epoch_model.specs.Cutting.{IsCutting, RisesTo, epochs}
use Rattle.epoch_cut.specs.Numbered.{NumberedEpoch, numbered}
use Rattle.checked_epochs.specs.Aheads.{Follow}

-- the last epoch begins before the run's last step, or with the run, and ends with it
pub record IsSplit (s : ℕ) (inner : List NumberedEpoch) (last : NumberedEpoch) (n : ℕ) : Type 0 where
  pub follow : Follow s inner last.first
  pub begins : last.first ≤ n - 1
  pub ends : last.past_last ≡ n

abbrev ticket : ℕ → ℕ → ℕ → NumberedEpoch
ticket number first past = record { number = number; first = first; past_last = past }

split_rising : (k s : ℕ) (cs : List ℕ) (n : ℕ) (inner : List NumberedEpoch) (last : NumberedEpoch) → RisesTo s cs n → inner ++ last ∷ [] ≡ numbered k (epochs s cs) → 1 ≤ length cs → IsSplit s inner last n
split_rising k s [] n inner last r e some = absurd (omega (arith, some))
split_rising k s (c ∷ []) n [] last r e some =
    let is : last ≡ ticket k s c = cc in
    let first = ap (λ (t : NumberedEpoch). t.first) is in
    let past = ap (λ (t : NumberedEpoch). t.past_last) is in
    let below = r.0 in
    let end = r.1 in
    record { follow = sym first; begins = omega arith; ends = past ∙ end }
split_rising k s (c ∷ d ∷ cs) n [] last r e some = absurd (omega (arith, ap length e))
split_rising k s (c ∷ []) n (x ∷ xs) last r e some = absurd (omega (arith, ap length e, length-append xs (last ∷ [])))
split_rising k s (c ∷ d ∷ cs) n (x ∷ xs) last r e some =
    let is : x ≡ ticket k s c = cc in
    let rest : xs ++ last ∷ [] ≡ numbered (suc k) (epochs c (d ∷ cs)) = cc in
    let first = ap (λ (t : NumberedEpoch). t.first) is in
    let past = ap (λ (t : NumberedEpoch). t.past_last) is in
    let below = r.0 in
    let after = split_rising (suc k) c (d ∷ cs) n xs last r.1 rest (omega arith) in
    record {
      follow = (first, omega arith, subst (λ (t : ℕ). Follow t xs last.first) (sym past) after.follow);
      begins = after.begins;
      ends = after.ends;
    }

pub split_cutting : (n : ℕ) (cs : List ℕ) (inner : List NumberedEpoch) (last : NumberedEpoch) → IsCutting n cs → inner ++ last ∷ [] ≡ numbered 0 (epochs 0 cs) → IsSplit 0 inner last n
split_cutting zero cs inner last h e = no_steps inner (e ∙ ap (λ (ts : List ℕ). numbered 0 (epochs 0 ts)) h)
  where
    no_steps : (inner : List NumberedEpoch) → inner ++ last ∷ [] ≡ ticket 0 0 0 ∷ [] → IsSplit 0 inner last 0
    no_steps [] e =
        let is : last ≡ ticket 0 0 0 = cc in
        let first = ap (λ (t : NumberedEpoch). t.first) is in
        record { follow = sym first; begins = omega arith; ends = ap (λ (t : NumberedEpoch). t.past_last) is }
    no_steps (x ∷ xs) e = absurd (omega (arith, ap length e, length-append xs (last ∷ [])))
split_cutting (suc n) [] inner last h e = absurd (omega (arith, ap length e, length-append inner (last ∷ [])))
split_cutting (suc n) (c ∷ cs) inner last h e = split_rising 0 0 (c ∷ cs) (suc n) inner last h e (omega arith)

-- before the last step nothing has come to the log's end
pub before_end : (end : RunEnd) (t : ℕ) → t ≤ steps_by end - 1 → t ≤ end_at end
before_end (Exit at code) t h = omega (arith, h)
before_end end t h = omega (arith, h)
