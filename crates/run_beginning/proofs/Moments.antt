-- The run of a log's beginning, moment by moment.
use Rattle.std.proofs.Common.{◌≡◌, ◌∙◌, ap, ap₂, sym, subst, refl, arith, ℕ, zero, suc, ◌+◌, ◌<◌, ◌≤◌, ◌⊎◌, inl, inr, List, [], ◌∷◌, take, Option, Some, None, add-one, zero-add}
use Rattle.std.proofs.lemmas.Bool.{cases_lt}
use Rattle.isa.specs.declared.Instr.TheVariants.{Ecall}
use Rattle.isa.specs.Machine.{State}
use Rattle.log_model.specs.declared.CallRecord.{CallRecord}
use Rattle.log_model.specs.declared.CallRecord.TheVariants.{Read}
use Rattle.log_model.specs.declared.RunEnd.TheVariants.{Limit}
use Rattle.log_model.specs.Logs.{Log, IsLog, Rise, at_of, end_at, steps}
use Rattle.log_model.proofs.Ends.{end_at-le-steps_by}
use Rattle.flow_model.specs.declared.StepSeen.{StepSeen}
use Rattle.flow_model.specs.declared.CallSeen.{CallSeen}
use Rattle.replay_model.specs.Run.{Moment, start, advance, call_seen, step_by, step_of, steps_from}
use Rattle.replay_model.specs.Comparison.{Compared, PlainStep, CallOf, expected, difference_at, difference, or_later, divergence_from, divergence}
use Rattle.replay_model.specs.Offsets.{records_before}
use Rattle.replay_model.proofs.Agreement.{expects_plain_at_end, expects_plain_before, expects_call, expects_end, plain_agrees, call_agrees, agrees_at, later_agrees}
use Rattle.replay_model.proofs.Track.{IsOnTrack, moment, advance_plain, advance_call, agrees_with, step_time, stays_on, on_track_start, none_before}
use Rattle.run_beginning.specs.Beginnings.{beginning}
use Rattle.run_beginning.specs.BeginningLaws.{BeginningAgrees, BeginningOfTrace}
use Rattle.run_beginning.proofs.Fronts.{kept, stops}

-- what a call is seen as hangs on no later call
same_seen : (t : ℕ) (s : State) (done : List CallRecord) (r : CallRecord) (rs front : List CallRecord) → call_seen (moment t s done (r ∷ front)) (r ∷ front) ≡ call_seen (moment t s done (r ∷ rs)) (r ∷ rs)
same_seen t s done (Read at args result bytes) rs front = refl
same_seen t s done r rs front = refl

module _ (log : Log) (n : ℕ) where
  -- the moment of the beginning's run at the time of one of the whole run
  abbrev cut : Moment → Moment
  cut m = record m { left = records_before n m.left }

  -- before the last moment of the beginning nothing differs, and the step and the next moment are those of the whole run
  record IsSame (m : Moment) : Type 0 where
    agrees : difference (beginning n log) (cut m) ≡ None
    next_is : advance (cut m) ≡ cut (advance m)
    step_is : step_of (cut m) ≡ step_of m

  -- a call that isn't due yet is no call of the beginning, or isn't due there either
  plain_expected : (t from : ℕ) (r : CallRecord) (rs : List CallRecord) → t < n → t < at_of r → from ≤ at_of r → Rise (at_of r + 1) rs → expected t (records_before n (r ∷ rs)) (Limit n) ≡ PlainStep
  plain_expected t from r rs inside later low rise = by (cases_lt (at_of r) n) where
    by : (at_of r < n) ⊎ (n ≤ at_of r) → expected t (records_before n (r ∷ rs)) (Limit n) ≡ PlainStep
    by (inl h) = ap (λ (left : List CallRecord). expected t left (Limit n)) (kept n r rs h) ∙ expects_plain_before t r (records_before n rs) (Limit n) later
    by (inr h) = ap (λ (left : List CallRecord). expected t left (Limit n)) (stops n from r rs h (low, rise)) ∙ expects_plain_at_end t (Limit n) inside

  same_plain : (m : Moment) → difference_at m log.inputs PlainStep ≡ None → expected m.time (records_before n m.left) (Limit n) ≡ PlainStep → IsSame m
  same_plain m d e =
      let plain = plain_agrees m log.inputs d in
      record {
        agrees = ap (difference_at (cut m) log.inputs) e ∙ d;
        next_is = advance_plain (cut m) plain.0 plain.1 ∙ sym (ap cut (advance_plain m plain.0 plain.1));
        step_is = ap (step_by (cut m)) plain.1 ∙ sym (ap (step_by m) plain.1);
      }

  same_call : (t : ℕ) (s : State) (done : List CallRecord) (r : CallRecord) (rs : List CallRecord) → at_of r < n → at_of r ≤ t → difference_at (moment t s done (r ∷ rs)) log.inputs (CallOf r) ≡ None → IsSame (moment t s done (r ∷ rs))
  same_call t s done r rs inside due d =
      let m = moment t s done (r ∷ rs) in
      let front = records_before n rs in
      let here = moment t s done (r ∷ front) in
      let is : cut m ≡ here = ap (moment t s done) (kept n r rs inside) in
      let agreed = call_agrees m log.inputs r d in
      let seen : step_of here ≡ step_of m =
      ap (step_by here) agreed.calls
      ∙ ap (λ (c : CallSeen). record { number = t; instr = Ecall; place = 0; call = Some c }) (same_seen t s done r rs front)
      ∙ sym (ap (step_by m) agreed.calls) in
      record {
        agrees = ap (difference (beginning n log)) is ∙ ap (difference_at here log.inputs) (expects_call t r front (Limit n) due) ∙ d;
        next_is = ap advance is ∙ advance_call here agreed.call agreed.calls ∙ sym (ap cut (advance_call m agreed.call agreed.calls));
        step_is = ap step_of is ∙ seen;
      }

  same_by : (t : ℕ) (s : State) (done left : List CallRecord) → IsOnTrack log (moment t s done left) → t < n → n ≤ end_at log.end → difference log (moment t s done left) ≡ None → IsSame (moment t s done left)
  same_by t s done [] on inside below d =
      let m = moment t s done [] in
      same_plain m (agrees_with log m PlainStep (expects_plain_at_end t log.end (omega (arith, inside, below))) d) (expects_plain_at_end t (Limit n) inside)
  same_by t s done (r ∷ rs) on inside below d = by (cases_lt t (at_of r)) where
    m : Moment
    m = moment t s done (r ∷ rs)

    by : (t < at_of r) ⊎ (at_of r ≤ t) → IsSame m
    by (inl h) = same_plain m (agrees_with log m PlainStep (expects_plain_before t r rs log.end h) d) (plain_expected t t r rs inside h on.rise.0 on.rise.1)
    by (inr h) = same_call t s done r rs (omega (arith, h, inside)) h (agrees_with log m (CallOf r) (expects_call t r rs log.end h) d)

  same : (m : Moment) → IsOnTrack log m → m.time < n → n ≤ end_at log.end → difference log m ≡ None → IsSame m
  same m on inside below d = same_by m.time m.state m.done m.left on inside below d

  -- at the last moment no call is left, and a run is cut off wherever it is
  agrees_at_last : (m : Moment) → IsOnTrack log m → m.time ≡ n → difference (beginning n log) (cut m) ≡ None
  agrees_at_last m on now =
      let none = none_before n m.time m.left (omega (arith, now)) on.rise in
      ap (difference_at (cut m) log.inputs)
      (ap (λ (left : List CallRecord). expected m.time left (Limit n)) none ∙ expects_end m.time (Limit n) (omega (arith, now)))

  -- the next j steps, after which the beginning ends
  record IsBeginning (j k : ℕ) (m : Moment) : Type 0 where
    none : divergence_from (beginning n log) (suc j) (cut m) ≡ None
    steps_are : steps_from j (cut m) ≡ take j (steps_from k m)

  no_steps : (k : ℕ) (m : Moment) → steps_from 0 (cut m) ≡ take 0 (steps_from k m)
  no_steps zero m = refl
  no_steps (suc k) m = refl

  is_beginning : (j k q : ℕ) (m : Moment) → IsOnTrack log m → m.time + j ≡ n → n ≤ end_at log.end → j ≤ k → j < q → divergence_from log q m ≡ None → IsBeginning j k m
  is_beginning zero k q m on all below made more d = record {
    none = ap (λ (o : Option Compared). or_later m.time o None) (agrees_at_last m on (omega (arith, all)));
    steps_are = no_steps k m;
  }
  is_beginning (suc j) zero q m on all below made more d = absurd (omega (arith, made))
  is_beginning (suc j) (suc k) zero m on all below made more d = absurd (omega (arith, more))
  is_beginning (suc j) (suc k) (suc q) m on all below made more d =
      let agrees = agrees_at log (suc q) 0 m d (omega arith) in
      let in_time : m.time < end_at log.end = omega (arith, all, below) in
      let here = same m on (omega (arith, all)) below agrees in
      let time = step_time log m in_time agrees in
      let later = is_beginning j k q (advance m) (stays_on log m on in_time agrees) (omega (arith, all, time)) below (omega (arith, made)) (omega (arith, more)) (later_agrees log q m d) in
      record {
        none =
            ap₂ (λ (o : Option Compared) (x : Moment). or_later m.time o (divergence_from (beginning n log) (suc j) x)) here.agrees here.next_is
            ∙ later.none;
        steps_are = ap₂ (λ (x : StepSeen) (xs : List StepSeen). x ∷ xs) here.step_is (ap (steps_from j) here.next_is ∙ later.steps_are);
      }

-- ---- from the start

begins : (s : State) (log : Log) (n : ℕ) → IsLog log → divergence s log ≡ None → n ≤ end_at log.end → IsBeginning log n n (steps log) (start s log)
begins s log n form d below =
    let none : divergence_from log (suc (end_at log.end)) (start s log) ≡ None = subst (λ (k : ℕ). divergence_from log k (start s log) ≡ None) (add-one (end_at log.end)) d in
    is_beginning log n n (steps log) (suc (end_at log.end)) (start s log) (on_track_start log s form) (zero-add n) below (omega (arith, below, end_at-le-steps_by log.end)) (omega (arith, below)) none

pub beginning_agrees : BeginningAgrees
beginning_agrees s log n form d below =
    subst (λ (k : ℕ). divergence_from (beginning n log) k (start s (beginning n log)) ≡ None) (sym (add-one n)) (begins s log n form d below).none

pub beginning_of_trace : BeginningOfTrace
beginning_of_trace s log n form d below = (begins s log n form d below).steps_are
