-- A check, step after step.
use Rattle.std.proofs.Common.{◌≡◌, ℕ, suc, ◌+◌, ◌<◌, ◌≤◌, ◌⊎◌, inl, inr, false, Some, None, arith, ap, ap₂, sym, ◌∙◌, subst}
use Rattle.std.proofs.lemmas.Bool.{cases_lt}
use Rattle.isa.specs.Machine.{State}
use Rattle.log_model.specs.Logs.{Log, end_at}
use Rattle.replay_model.specs.declared.Divergence.{Divergence}
use Rattle.replay_model.specs.Run.{start, advance, moment_after}
use Rattle.replay_model.specs.Comparison.{Compared, difference, divergence}
use Rattle.replay_model.specs.Firsts.{difference_after}
use Rattle.replay_model.proofs.Track.{step_time}
use Rattle.replay_model.proofs.Offsets.{moment_later}
use Rattle.replay_model.proofs.Firsts.{none_exactly, first_exactly}
use Rattle.replay_run.specs.Runs.{RunAt}
use Rattle.replayer.specs.CheckedSteps.{IsAdvanced, IsEnded, IsDifferent}

-- so many steps are done, and nothing differed before any of them
pub record IsChecking (log : Log) (s : State) (i : ℕ) (run : RunAt) : Type 0 where
  pub same_log : run.log ≡ log
  pub goes_on : run.waits ≡ false
  pub here : run.moment ≡ moment_after i (start s log)
  pub time : run.moment.time ≡ i
  pub none_before : (k : ℕ) → k < i → difference_after k s log ≡ None

module _ (log : Log) (s : State) (i : ℕ) (run : RunAt) (c : IsChecking log s i run) where
  end_is : end_at run.log.end ≡ end_at log.end
  end_is = ap (λ (l : Log). end_at l.end) c.same_log

  difference_here : difference_after i s log ≡ difference run.log run.moment
  difference_here = ap₂ difference (sym c.same_log) (sym c.here)

  none_to : difference run.log run.moment ≡ None → (k : ℕ) → k < i + 1 → difference_after k s log ≡ None
  none_to d k h = by (cases_lt k i)
    where
      by : (k < i) ⊎ (i ≤ k) → difference_after k s log ≡ None
      by (inl b) = c.none_before k b
      by (inr b) = let same : i ≡ k = omega arith in subst (λ (n : ℕ). difference_after n s log ≡ None) same (difference_here ∙ d)

  pub checking_more : (after : RunAt) → IsAdvanced run after → IsChecking log s (i + 1) after
  checking_more after made =
      let next : suc i ≡ i + 1 = omega arith in
      let time = step_time run.log run.moment made.early made.agrees in
      record {
        same_log = ap (λ (r : RunAt). r.log) made.moved ∙ c.same_log;
        goes_on = ap (λ (r : RunAt). r.waits) made.moved;
        here = ap (λ (r : RunAt). r.moment) made.moved ∙ ap advance c.here ∙ sym (moment_later i (start s log)) ∙ ap (λ (n : ℕ). moment_after n (start s log)) next;
        time = ap (λ (r : RunAt). r.moment.time) made.moved ∙ time ∙ ap (λ (n : ℕ). n + 1) c.time;
        none_before = none_to made.agrees;
      }

  pub checking_ends : IsEnded run → None ≡ divergence s log
  checking_ends ended =
      let late = ended.late in
      let time = c.time in
      let end = end_is in
      sym ((none_exactly s log).1 (record { none = λ k h. none_to ended.agrees k (omega arith) }))

  pub checking_differs : (d : Divergence) → i < end_at log.end + 1 → IsDifferent run d → Some d ≡ divergence s log
  checking_differs d h different =
      let step : d.step ≡ i = ap (λ (x : Divergence). x.step) different.divergence ∙ c.time in
      let what : different.first ≡ record { field = d.field; kept = d.kept; seen = d.seen } = ap (λ (x : Divergence). record { field = x.field; kept = x.kept; seen = x.seen }) (sym different.divergence) in
      sym ((first_exactly s log d).1 (record {
        within = omega arith;
        differs = ap (λ (n : ℕ). difference_after n s log) step ∙ difference_here ∙ different.differs ∙ ap (λ (x : Compared). Some x) what;
        none_before = λ k b. c.none_before k (omega arith);
      }))
