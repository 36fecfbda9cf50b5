-- A log tells what the rows of its run need.
use Rattle.std.proofs.Common.{◌≡◌, ℕ, zero, suc, ◌+◌, ◌<◌, ◌≤◌, ◌⊎◌, inl, inr, List, [], ◌∷◌, ◌++◌, None, refl, ap, ap₂, sym, ◌∙◌, subst, arith, add-one, zero-add}
use Rattle.std.specs.Prelude.{max}
use Rattle.std.proofs.lemmas.Bool.{cases_lt}
use Rattle.isa.specs.Machine.{State, Outcome, next}
use Rattle.log_model.specs.declared.CallRecord.{CallRecord}
use Rattle.log_model.specs.Logs.{Log, at_of, end_at, steps}
use Rattle.log_model.proofs.Ends.{end_at-le-steps_by}
use Rattle.report_model.specs.Query.{Query, has_sink}
use Rattle.report_model.specs.Rows.{sinks_of_step}
use Rattle.std.specs.List.{filter}
use Rattle.report_model.proofs.Needed.{needed_by}
use Rattle.replay_model.specs.Run.{Moment, start, advance, step_by, steps_from, trace}
use Rattle.replay_model.specs.Comparison.{PlainStep, CallOf, difference, divergence_from}
use Rattle.replay_model.proofs.Agreement.{expects_plain_before, expects_plain_at_end, expects_call, plain_agrees, call_agrees, agrees_at, later_agrees}
use Rattle.replay_model.proofs.Track.{moment, IsOnTrack, agrees_with, least_rises, advance_plain, advance_call, step_time, stays_on, on_track_start}
use Rattle.replay_model.proofs.Offsets.{length-steps_from, steps_within}
use Rattle.run_beginning.specs.Need.{steps_for_calls}
use Rattle.run_beginning.specs.NeedLaws.{LogTellsNeed}
use Rattle.run_beginning.proofs.Points.{bytes_need, all_need}
use Rattle.run_beginning.proofs.CallNeeds.{call_needs, plain_needs, last_needs}

none_first : (a b c : ℕ) → a ≡ 0 → b ≡ c → max a b ≡ c
none_first a b c e f = omega (arith, e, f)

module _ (q : Query) (log : Log) where
  -- n steps before the end the output bytes of the next k steps need what the records left tell
  abbrev IsTold : ℕ → ℕ → Type 0
  IsTold n k = (m : Moment) → IsOnTrack log m → m.time + n ≡ end_at log.end → divergence_from log (suc n) m ≡ None → bytes_need q m.time (steps_from k m) ≡ steps_for_calls q m.done m.left

  -- what those after a step need, where it leaves these records
  later : (n k t : ℕ) (s : State) (done left after rest : List CallRecord) → IsTold n k → IsOnTrack log (moment t s done left) → t + suc n ≡ end_at log.end → divergence_from log (suc (suc n)) (moment t s done left) ≡ None
      → (advance (moment t s done left)).done ≡ after → (advance (moment t s done left)).left ≡ rest → bytes_need q (t + 1) (steps_from k (advance (moment t s done left))) ≡ steps_for_calls q after rest
  later n k t s done left after rest ih on end d e f =
      let m = moment t s done left in
      let agrees = agrees_at log (suc (suc n)) 0 m d (omega arith) in
      let time : (advance m).time ≡ t + 1 = step_time log m (omega arith) agrees in
      let there = ih (advance m) (stays_on log m on (omega arith) agrees) (omega arith) (later_agrees log (suc n) m d) in
      ap (λ (u : ℕ). bytes_need q u (steps_from k (advance m))) (sym time) ∙ there ∙ ap₂ (λ (ds ls : List CallRecord). steps_for_calls q ds ls) e f

  told_next : (n k t : ℕ) (s : State) (done left : List CallRecord) → IsTold n k → IsOnTrack log (moment t s done left) → t + suc n ≡ end_at log.end → divergence_from log (suc (suc n)) (moment t s done left) ≡ None
      → bytes_need q t (steps_from (suc k) (moment t s done left)) ≡ steps_for_calls q done left
  told_next n k t s done [] ih on end d =
      let m = moment t s done [] in
      let agrees = agrees_at log (suc (suc n)) 0 m d (omega arith) in
      let plain = plain_agrees m log.inputs (agrees_with log m PlainStep (expects_plain_at_end t log.end (omega arith)) agrees) in
      let e = advance_plain m plain.0 plain.1 in
      none_first _ _ _ (last_needs q t s done (next m.state)) (later n k t s done [] done [] ih on end d (ap (λ (x : Moment). x.done) e) (ap (λ (x : Moment). x.left) e))
  told_next n k t s done (r ∷ rs) ih on end d = by (cases_lt t (at_of r))
    where
      m : Moment
      m = moment t s done (r ∷ rs)

      agrees : difference log m ≡ None
      agrees = agrees_at log (suc (suc n)) 0 m d (omega arith)

      by : (t < at_of r) ⊎ (at_of r ≤ t) → bytes_need q t (steps_from (suc k) m) ≡ steps_for_calls q done (r ∷ rs)
      by (inl h) =
          let plain = plain_agrees m log.inputs (agrees_with log m PlainStep (expects_plain_before t r rs log.end h) agrees) in
          let e = advance_plain m plain.0 plain.1 in
          let own = ap (λ (o : Outcome). needed_by (filter (λ x. has_sink q x.name) (sinks_of_step t (step_by m o).call))) plain.1 ∙ plain_needs q t m plain.0 in
          none_first _ _ _ own (later n k t s done (r ∷ rs) done (r ∷ rs) ih on end d (ap (λ (x : Moment). x.done) e) (ap (λ (x : Moment). x.left) e))
      by (inr h) =
          let due : at_of r ≡ t = omega (arith, on.rise.0) in
          let agreed = call_agrees m log.inputs r (agrees_with log m (CallOf r) (expects_call t r rs log.end h) agrees) in
          let e = advance_call m agreed.call agreed.calls in
          let own =
          ap (λ (o : Outcome). needed_by (filter (λ x. has_sink q x.name) (sinks_of_step t (step_by m o).call))) agreed.calls
          ∙ call_needs q log.inputs t s done r rs due on.records.0 agreed in
          ap₂ (λ (a b : ℕ). max a b) own (later n k t s done (r ∷ rs) (done ++ r ∷ []) rs ih on end d (ap (λ (x : Moment). x.done) e) (ap (λ (x : Moment). x.left) e))

  -- at the end no record is left
  at_the_end : (t : ℕ) (s : State) (done left : List CallRecord) → IsOnTrack log (moment t s done left) → t ≡ end_at log.end
      → (steps_for_calls q done left ≡ 0) × (bytes_need q t (steps_from 1 (moment t s done left)) ≡ 0)
  at_the_end t s done [] on e = (refl, none_first _ _ _ (last_needs q t s done (next s)) refl)
  at_the_end t s done (r ∷ rs) on e = absurd (omega (arith, e, on.rise.0, on.ends_after, least_rises (at_of r + 1) rs on.rise.1))

  told : (n k : ℕ) → n ≤ k → k ≤ n + 1 → IsTold n k
  told zero zero low high m on end d = sym (at_the_end m.time m.state m.done m.left on (omega arith)).0
  told zero (suc zero) low high m on end d = let last = at_the_end m.time m.state m.done m.left on (omega arith) in last.1 ∙ sym last.0
  told zero (suc (suc k)) low high m on end d = absurd (omega (arith, high))
  told (suc n) zero low high m on end d = absurd (omega (arith, low))
  told (suc n) (suc k) low high m on end d = told_next n k m.time m.state m.done m.left (told n k (omega (arith, low)) (omega (arith, high))) on end d

pub log_tells_need : LogTellsNeed
log_tells_need q s log form d =
    let none : divergence_from log (suc (end_at log.end)) (start s log) ≡ None = subst (λ (n : ℕ). divergence_from log n (start s log) ≡ None) (add-one (end_at log.end)) d in
    let calls = told q log (end_at log.end) (steps log) (end_at-le-steps_by log.end) (steps_within log.end) (start s log) (on_track_start log s form) (zero-add (end_at log.end)) none in
    let all = all_need q (steps log) (trace s log) (length-steps_from (steps log) (start s log)) in
    omega (arith, calls, all)
