-- A divergence is the first difference. Crates above cite these lemmas.
use Rattle.std.proofs.Common.{◌≡◌, ℕ, zero, suc, ◌+◌, ◌<◌, ◌≤◌, ◌⊎◌, inl, inr, Option, Some, None, refl, arith, ap, sym, ◌∙◌, subst, add-zero}
use Rattle.std.specs.Prelude.{◌↔◌}
use Rattle.std.proofs.lemmas.Bool.{cases_lt}
use Rattle.isa.specs.Machine.{State}
use Rattle.log_model.specs.Logs.{Log, end_at}
use Rattle.replay_model.specs.declared.Divergence.{Divergence}
use Rattle.replay_model.specs.Run.{Moment, start, advance, moment_after}
use Rattle.replay_model.specs.Comparison.{Compared, difference, or_later, divergence_from, divergence, at_step}
use Rattle.replay_model.specs.Firsts.{difference_after, AgreesToTheEnd, IsFirstDifference}
use Rattle.replay_model.proofs.Agreement.{agrees_at}
use Rattle.replay_model.proofs.Track.{step_time}

-- ---- none

none_where : (log : Log) (n : ℕ) (m : Moment) → ((k : ℕ) → k < n → difference log (moment_after k m) ≡ None) → divergence_from log n m ≡ None
none_where log zero m h = refl
none_where log (suc n) m h =
    ap (λ (o : Option Compared). or_later m.time o (divergence_from log n (advance m))) (h 0 (omega arith))
    ∙ none_where log n (advance m) (λ k b. h (suc k) (omega arith))

pub none_exactly : (s : State) (log : Log) → (divergence s log ≡ None) ↔ AgreesToTheEnd s log
none_exactly s log = (
  (λ d. record { none = λ k h. agrees_at log (end_at log.end + 1) k (start s log) d (omega arith) }),
  (λ a. none_where log (end_at log.end + 1) (start s log) (λ k h. a.none k (omega arith))),
)

-- ---- some

-- k steps later this differs, and nothing before it
record IsFirstFrom (log : Log) (n : ℕ) (m : Moment) (d : Divergence) : Type 0 where
  later : ℕ
  below : later < n
  step : d.step ≡ m.time + later
  differs : difference log (moment_after later m) ≡ Some record { field = d.field; kept = d.kept; seen = d.seen }
  none_before : (k : ℕ) → k < later → difference log (moment_after k m) ≡ None

first_now : (log : Log) (n : ℕ) (m : Moment) (c : Compared) (d : Divergence) → difference log m ≡ Some c → at_step m.time c ≡ d → IsFirstFrom log (suc n) m d
first_now log n m c d e same = record {
  later = 0;
  below = omega arith;
  step = sym (ap (λ (x : Divergence). x.step) same) ∙ sym (add-zero m.time);
  differs = e ∙ ap (λ (x : Divergence). Some record { field = x.field; kept = x.kept; seen = x.seen }) same;
  none_before = λ k h. absurd (omega arith);
}

first_later : (log : Log) (n : ℕ) (m : Moment) (d : Divergence) → difference log m ≡ None → (advance m).time ≡ m.time + 1 → IsFirstFrom log n (advance m) d → IsFirstFrom log (suc n) m d
first_later log n m d none time f = record {
  later = suc f.later;
  below = let h = f.below in omega arith;
  step = let h = f.step in omega arith;
  differs = f.differs;
  none_before = before;
}
  where
    before : (k : ℕ) → k < suc f.later → difference log (moment_after k m) ≡ None
    before zero h = none
    before (suc k) h = f.none_before k (omega arith)

first_by : (log : Log) (n : ℕ) (m : Moment) (d : Divergence) (o : Option Compared) → difference log m ≡ o → or_later m.time o (divergence_from log n (advance m)) ≡ Some d
    → (difference log m ≡ None → divergence_from log n (advance m) ≡ Some d → IsFirstFrom log (suc n) m d) → IsFirstFrom log (suc n) m d
first_by log n m d (Some c) e h later = let same : at_step m.time c ≡ d = cc in first_now log n m c d e same
first_by log n m d None e h later = later e h

first_from : (log : Log) (n : ℕ) (m : Moment) (d : Divergence) → m.time + n ≤ end_at log.end + 1 → divergence_from log n m ≡ Some d → IsFirstFrom log n m d
first_from log zero m d b h = cc
first_from log (suc zero) m d b h = first_by log zero m d (difference log m) refl h (λ none e. cc)
first_from log (suc (suc n)) m d b h =
    first_by log (suc n) m d (difference log m) refl h (λ none e.
    let time = step_time log m (omega arith) none in
    first_later log (suc n) m d none time (first_from log (suc n) (advance m) d (omega arith) e))

first_is : (s : State) (log : Log) (d : Divergence) → divergence s log ≡ Some d → IsFirstDifference s log d
first_is s log d h =
    let f = first_from log (end_at log.end + 1) (start s log) d (omega arith) h in
    let below = f.below in
    let step : f.later ≡ d.step = let e = f.step in omega arith in
    record {
      within = omega arith;
      differs = subst (λ (k : ℕ). difference_after k s log ≡ Some record { field = d.field; kept = d.kept; seen = d.seen }) step f.differs;
      none_before = λ k b. f.none_before k (omega arith);
    }

both : (s : State) (log : Log) (a b : Divergence) → IsFirstDifference s log a → IsFirstDifference s log b → a.step < b.step → ⊥
both s log a b f g h = let none = g.none_before a.step h in let some = f.differs in cc

abbrev what : Divergence → Compared
what d = record { field = d.field; kept = d.kept; seen = d.seen }

one_first : (s : State) (log : Log) (a b : Divergence) → IsFirstDifference s log a → IsFirstDifference s log b → (a.step < b.step) ⊎ (b.step ≤ a.step) → (b.step < a.step) ⊎ (a.step ≤ b.step) → a ≡ b
one_first s log a b f g (inl h) o = absurd (both s log a b f g h)
one_first s log a b f g (inr h) (inl i) = absurd (both s log b a g f i)
one_first s log a b f g (inr h) (inr i) =
    let step : a.step ≡ b.step = omega arith in
    let there = ap (λ (k : ℕ). difference_after k s log) step in
    let x = f.differs in
    let y = g.differs in
    let same : what a ≡ what b = cc in
    ap (λ (t : ℕ). at_step t (what a)) step ∙ ap (at_step b.step) same

first_back : (s : State) (log : Log) (d : Divergence) (o : Option Divergence) → divergence s log ≡ o → IsFirstDifference s log d → o ≡ Some d
first_back s log d None e f =
    let none = agrees_at log (end_at log.end + 1) d.step (start s log) e (let h = f.within in omega arith) in
    let some = f.differs in
    cc
first_back s log d (Some x) e f = ap (λ (y : Divergence). Some y) (one_first s log x d (first_is s log x e) f (cases_lt x.step d.step) (cases_lt d.step x.step))

pub first_exactly : (s : State) (log : Log) (d : Divergence) → (divergence s log ≡ Some d) ↔ IsFirstDifference s log d
first_exactly s log d = (first_is s log d, λ f. first_back s log d (divergence s log) refl f)
