-- Steps that are checked one after another.
use Rattle.std.proofs.Common.{◌≡◌, ℕ, zero, suc, ◌+◌, ◌<◌, false, List, [], ◌∷◌, refl, arith, ap, sym, ◌∙◌, subst}
use Rattle.isa.specs.Machine.{State}
use Rattle.log_model.specs.declared.CallRecord.{CallRecord}
use Rattle.log_model.specs.declared.RunEnd.{RunEnd}
use Rattle.log_model.specs.Logs.{Log}
use Rattle.replay_model.specs.Comparison.{PlainStep, expected}
use Rattle.replay_model.proofs.Agreement.{expects_plain_at_end, expects_plain_before}
use Rattle.replay_model.proofs.Track.{step_time}
use Rattle.replay_run.specs.Runs.{RunAt}
use Rattle.replay_run.specs.Expects.{event_time}
use Rattle.replayer.specs.CheckedSteps.{IsAdvanced, Advances, IsPassed, TookNoRecord}
use Rattle.replayer.proofs.Loops.{IsChecking, checking_more}

-- before the next call or the end a plain step is due
pub plain_before : (t : ℕ) (left : List CallRecord) (end : RunEnd) → t < event_time left end → expected t left end ≡ PlainStep
plain_before t [] end h = expects_plain_at_end t end h
plain_before t (r ∷ rs) end h = expects_plain_before t r rs end h

-- ---- plain steps

pub no_record_taken : (run : RunAt) → run.waits ≡ false → TookNoRecord run run
no_record_taken run goes_on = record { same_log = refl; left = refl; goes_on = goes_on; later = omega arith }

pub no_record_then : (before between after : RunAt) → TookNoRecord before between → TookNoRecord between after → TookNoRecord before after
no_record_then before between after first second =
    let sooner = first.later in
    let later = second.later in
    record {
      same_log = second.same_log ∙ first.same_log;
      left = second.left ∙ first.left;
      goes_on = second.goes_on;
      later = omega arith;
    }

pub no_record_by : (before after : RunAt) → IsAdvanced before after → after.moment.left ≡ before.moment.left → TookNoRecord before after
no_record_by before after made left =
    let time : after.moment.time ≡ before.moment.time + 1 = ap (λ (r : RunAt). r.moment.time) made.moved ∙ step_time before.log before.moment made.early made.agrees in
    record {
      same_log = ap (λ (r : RunAt). r.log) made.moved;
      left = left;
      goes_on = ap (λ (r : RunAt). r.waits) made.moved;
      later = omega arith;
    }

-- ---- steps, and then more

advances_then : (m n : ℕ) (before between after : RunAt) → Advances n before between → Advances m between after → Advances (n + m) before after
advances_then zero n before between after first same =
    let none : n ≡ n + 0 = omega arith in
    subst (λ (k : ℕ). Advances k before after) none (subst (Advances n before) (sym same) first)
advances_then (suc m) n before between after first (there, some, made) =
    let more : suc (n + m) ≡ n + suc m = omega arith in
    subst (λ (k : ℕ). Advances k before after) more (there, advances_then m n before between there first some, made)

pub passed_then : (before between after : RunAt) → IsPassed before between → IsPassed between after → IsPassed before after
passed_then before between after first second =
    record { count = first.count + second.count; steps = advances_then second.count first.count before between after first.steps second.steps }

-- ---- many steps of a check

module _ (log : Log) (s : State) where
  pub checking_passed : (n i : ℕ) (run after : RunAt) → IsChecking log s i run → Advances n run after → IsChecking log s (i + n) after
  checking_passed zero i run after c e =
      let same : i ≡ i + 0 = omega arith in
      subst (λ (r : RunAt). IsChecking log s (i + 0) r) (sym e) (subst (λ (k : ℕ). IsChecking log s k run) same c)
  checking_passed (suc n) i run after c (between, steps, made) =
      let next : (i + n) + 1 ≡ i + suc n = omega arith in
      subst (λ (k : ℕ). IsChecking log s k after) next (checking_more log s (i + n) between (checking_passed n i run between c steps) after made)
