-- From a cursor on, the steps before the next call that the log has, or before its end, are plain.
use Rattle.std.proofs.Common.{◌≡◌, ℕ, zero, suc, ◌+◌, ◌-◌, ◌<◌, ◌≤◌, ◌⊎◌, inl, inr, List, [], ◌∷◌, Option, Some, None, refl, arith, ap, sym, ◌∙◌, subst}
use Rattle.std.specs.Prelude.{max}
use Rattle.std.proofs.lemmas.Bool.{cases_lt}
use Rattle.isa.specs.declared.Call.{Call}
use Rattle.isa.specs.Machine.{State, Outcome, Retired, Called, next, fetch}
use Rattle.log_model.specs.declared.CallRecord.{CallRecord}
use Rattle.log_model.specs.declared.RunEnd.{RunEnd}
use Rattle.log_model.specs.declared.RunEnd.TheVariants.{Exit, Trap, Limit}
use Rattle.log_model.specs.Logs.{Log, Rise, at_of, end_at, steps, steps_by}
use Rattle.log_model.proofs.Ends.{end_at-le-steps_by}
use Rattle.flow_model.specs.declared.StepSeen.{StepSeen}
use Rattle.flow_model.specs.declared.CallSeen.{CallSeen}
use Rattle.replay_model.specs.Run.{Moment, start, after_outcome, moment_after, call_seen, plain_step, step_of, step_by}
use Rattle.replay_model.specs.Comparison.{PlainStep, CallOf, EndOf, expected, difference, difference_at}
use Rattle.replay_model.proofs.Agreement.{agrees_at, plain_agrees, call_agrees, exit_agrees, expects_call, expects_end}
use Rattle.replay_model.proofs.Track.{agrees_with}
use Rattle.replay_model.proofs.Offsets.{step_at_from, moment_later, steps_within, call_of_plain}
use Rattle.replay_run.specs.Expects.{event_time}
use Rattle.replay_run.specs.Runs.{RunAt, IsUnderLog}
use Rattle.replay_run.proofs.Steps.{event_within}
use Rattle.replayer.specs.Jobs.{Job}
use Rattle.replayer.specs.Cursors.{IsCursor}
use Rattle.replayer.specs.Nexts.{IsPlainAt, IsPlainUntil}
use Rattle.replayer.proofs.Passing.{plain_before}

-- ---- whether a step is a call

plain_is_none : (m : Moment) → (plain_step m.time m.state (fetch m.state)).call ≡ None
plain_is_none m = by (plain_step m.time m.state (fetch m.state)).call refl
  where
    by : (o : Option CallSeen) → (plain_step m.time m.state (fetch m.state)).call ≡ o → o ≡ None
    by None e = refl
    by (Some call) e = call_of_plain m call e

retired_is_none : (m : Moment) (s : State) → next m.state ≡ Retired s → (step_of m).call ≡ None
retired_is_none m s e = ap (λ (o : Outcome). (step_by m o).call) e ∙ plain_is_none m

pub called_is_some : (m : Moment) (call : Call) → next m.state ≡ Called call → (step_of m).call ≡ None → ⊥
called_is_some m call e none =
    let some : (step_of m).call ≡ Some (call_seen m m.left) = ap (λ (o : Outcome). (step_by m o).call) e in
    cc

module _ (job : Job) (run : RunAt) (cursor : IsCursor job run) (under : IsUnderLog run) where
  -- the moment after k steps
  abbrev at : ℕ → Moment
  at k = moment_after k (start job.start job.log)

  -- when the log next has a call, or its end
  abbrev event : ℕ
  event = event_time run.moment.left job.log.end

  within : event ≤ end_at job.log.end
  within = subst (λ (l : Log). event_time run.moment.left l.end ≤ end_at l.end) cursor.stands.same_log (event_within run under)

  agrees : (k : ℕ) → k ≤ end_at job.log.end → difference job.log (at k) ≡ None
  agrees k h = agrees_at job.log (end_at job.log.end + 1) k (start job.start job.log) cursor.is_job.agrees (omega arith)

  -- ---- up to there no record is taken

  record IsStill (k : ℕ) : Type 0 where
    time : (at k).time ≡ k
    left : (at k).left ≡ run.moment.left

  retires : (k : ℕ) → IsStill k → k < event → (s : State) × (next (at k).state ≡ Retired s)
  retires k still h =
      let m = at k in
      let time = still.time in
      let before : m.time < event = omega arith in
      let below : m.time < event_time m.left job.log.end = subst (λ (rs : List CallRecord). m.time < event_time rs job.log.end) (sym still.left) before in
      plain_agrees m job.log.inputs (agrees_with job.log m PlainStep (plain_before m.time m.left job.log.end below) (agrees k (omega (arith, h, within))))

  still_after : (i : ℕ) → run.moment.time + i ≤ event → IsStill (run.moment.time + i)
  still_after zero h =
      let same : run.moment.time + 0 ≡ run.moment.time = omega arith in
      let here : at (run.moment.time + 0) ≡ run.moment = ap at same ∙ sym cursor.stands.here in
      record { time = ap (λ (m : Moment). m.time) here ∙ sym same; left = ap (λ (m : Moment). m.left) here }
  still_after (suc i) h =
      let k = run.moment.time + i in
      let before = still_after i (omega arith) in
      let retired = retires k before (omega arith) in
      let later : run.moment.time + suc i ≡ suc k = omega arith in
      let after : at (run.moment.time + suc i) ≡ after_outcome (at k) (Retired retired.0) =
      ap at later ∙ moment_later k (start job.start job.log) ∙ ap (after_outcome (at k)) retired.1 in
      let time = before.time in
      let next_time : (at k).time + 1 ≡ run.moment.time + suc i = omega arith in
      record { time = ap (λ (m : Moment). m.time) after ∙ next_time; left = ap (λ (m : Moment). m.left) after ∙ before.left }

  still_at : (k : ℕ) → run.moment.time ≤ k → k ≤ event → IsStill k
  still_at k late h =
      let same : run.moment.time + (k - run.moment.time) ≡ k = omega arith in
      subst IsStill same (still_after (k - run.moment.time) (omega arith))

  plain_at : (k : ℕ) → run.moment.time ≤ k → k < event → IsPlainAt job k
  plain_at k late h =
      let below : k < steps job.log = omega (arith, h, within, end_at-le-steps_by job.log.end) in
      let retired = retires k (still_at k late (omega arith)) h in
      record { below = below; no_call = λ s e. by s (sym (step_at_from (steps job.log) k (start job.start job.log) below) ∙ e) retired.0 retired.1 }
    where
      by : (s : StepSeen) → Some (step_of (at k)) ≡ Some s → (t : State) → next (at k).state ≡ Retired t → s.call ≡ None
      by s e t r =
          let same : step_of (at k) ≡ s = cc in
          ap (λ (x : StepSeen). x.call) (sym same) ∙ retired_is_none (at k) t r

  -- ---- there it is over

  none_at_end : (m : Moment) (end : RunEnd) → difference_at m job.log.inputs (EndOf end) ≡ None → end_at end < steps_by end → (step_of m).call ≡ None → ⊥
  none_at_end m (Exit at code) d below none = let exit = exit_agrees m job.log.inputs at code d in called_is_some m exit.0 exit.1 none
  none_at_end m (Trap at kind pc) d below none = omega arith
  none_at_end m (Limit at) d below none = omega arith

  no_plain_at : run.moment.time ≤ event → IsPlainAt job event → ⊥
  no_plain_at late plain =
      let still = still_at event late (omega arith) in
      let none = plain.no_call (step_of (at event)) (step_at_from (steps job.log) event (start job.start job.log) plain.below) in
      by run.moment.left still.left refl still.time none
    where
      by : (left : List CallRecord) → (at event).left ≡ left → event ≡ event_time left job.log.end → (at event).time ≡ event → (step_of (at event)).call ≡ None → ⊥
      by [] empty here time none =
          let m = at event in
          let end : expected m.time m.left job.log.end ≡ EndOf job.log.end = ap (λ (rs : List CallRecord). expected m.time rs job.log.end) empty ∙ expects_end m.time job.log.end (omega arith) in
          none_at_end m job.log.end (agrees_with job.log m (EndOf job.log.end) end (agrees event within)) (omega (arith, plain.below, here)) none
      by (r ∷ rs) first here time none =
          let m = at event in
          let call : expected m.time m.left job.log.end ≡ CallOf r = ap (λ (qs : List CallRecord). expected m.time qs job.log.end) first ∙ expects_call m.time r rs job.log.end (omega arith) in
          let agreed = call_agrees m job.log.inputs r (agrees_with job.log m (CallOf r) call (agrees event within)) in
          called_is_some m agreed.call agreed.calls none

  none_when_done : event < run.moment.time → IsPlainAt job run.moment.time → ⊥
  none_when_done over plain = by run.moment.left refl under.rise
    where
      by : (left : List CallRecord) → run.moment.left ≡ left → Rise run.moment.time left → ⊥
      by [] empty rise =
          let end : event ≡ end_at job.log.end = ap (λ (rs : List CallRecord). event_time rs job.log.end) empty in
          omega (arith, over, end, plain.below, steps_within job.log.end)
      by (r ∷ rs) first rise =
          let call : event ≡ at_of r = ap (λ (qs : List CallRecord). event_time qs job.log.end) first in
          omega (arith, over, call, rise.0)

  -- the first time at which no plain step is made
  pub plain_until : (until : ℕ) → until ≡ max event run.moment.time → IsPlainUntil job run.moment.time until
  plain_until until is = by (cases_lt event run.moment.time)
    where
      by : (event < run.moment.time) ⊎ (run.moment.time ≤ event) → IsPlainUntil job run.moment.time until
      by (inl over) =
          let same : run.moment.time ≡ until = omega arith in
          subst (IsPlainUntil job run.moment.time) same (record { later = omega arith; plain = λ k late h. absurd (omega arith); no_longer = none_when_done over })
      by (inr late) =
          let same : event ≡ until = omega arith in
          subst (IsPlainUntil job run.moment.time) same (record { later = late; plain = plain_at; no_longer = no_plain_at late })
