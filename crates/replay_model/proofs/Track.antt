-- The moments of a run up to the end, where nothing differs. Crates above cite these lemmas.
use Rattle.std.proofs.Common.{◌≡◌, ℕ, zero, suc, ◌+◌, ◌<◌, ◌≤◌, inl, inr, Bool, List, [], ◌∷◌, ◌++◌, None, refl, arith, ap, sym, ◌∙◌, subst, add-zero, zero-add, append-nil, append_assoc}
use Rattle.std.specs.Prelude.{nat_lt, if◌then◌else◌}
use Rattle.std.specs.List.{AllByRecursion}
use Rattle.std.proofs.lemmas.Bool.{cases_lt, lt-ltb, le-ltb}
use Rattle.std.proofs.lemmas.List.Elements.{filter-append}
use Rattle.isa.specs.Machine.{State, Outcome, Retired, Called, next}
use Rattle.isa.specs.declared.Call.{Call}
use Rattle.log_model.specs.declared.CallRecord.{CallRecord}
use Rattle.log_model.specs.Logs.{Log, IsLog, IsRecord, Rise, least_after, at_of, end_at}
use Rattle.replay_model.specs.Run.{Moment, start, advance, after_outcome, after_call, answered, moment_after}
use Rattle.replay_model.specs.Comparison.{Expected, PlainStep, CallOf, expected, difference_at, difference, divergence_from, divergence}
use Rattle.replay_model.specs.Offsets.{records_before}
use Rattle.replay_model.proofs.Agreement.{expects_plain_at_end, expects_plain_before, expects_call, plain_agrees, call_agrees, agrees_at, later_agrees}

-- records that rise from a time on end no earlier
pub least_rises : (t : ℕ) (rs : List CallRecord) → Rise t rs → t ≤ least_after t rs
least_rises t [] rise = omega arith
least_rises t (r ∷ rs) rise = let later = least_rises (at_of r + 1) rs rise.1 in let first = rise.0 in omega arith

abbrev pub moment : ℕ → State → List CallRecord → List CallRecord → Moment
moment t s done left = record { time = t; state = s; done = done; left = left }

-- the calls of these records are among the first t steps
abbrev pub ArePast : ℕ → List CallRecord → Type 0
ArePast t records = AllByRecursion (λ r. at_of r < t) records

-- the records that are done and left are those of the log; the first are past, and the others rise from here to the end
pub record IsOnTrack (log : Log) (m : Moment) : Type 0 where
  pub all : m.done ++ m.left ≡ log.records
  pub past : ArePast m.time m.done
  pub records : AllByRecursion IsRecord m.left
  pub rise : Rise m.time m.left
  pub ends_after : least_after m.time m.left ≤ end_at log.end

-- ---- the records of a time

past_later : (t : ℕ) (rs : List CallRecord) → ArePast t rs → ArePast (t + 1) rs
past_later t [] past = tt
past_later t (r ∷ rs) past = let first = past.0 in (omega arith, past_later t rs past.1)

past_with : (t : ℕ) (rs : List CallRecord) (r : CallRecord) → at_of r ≡ t → ArePast t rs → ArePast (t + 1) (rs ++ r ∷ [])
past_with t [] r e past = (omega arith, tt)
past_with t (q ∷ rs) r e past = let first = past.0 in (omega arith, past_with t rs r e past.1)

before_past : (t : ℕ) (rs : List CallRecord) → ArePast t rs → records_before t rs ≡ rs
before_past t [] past = refl
before_past t (r ∷ rs) past = ap (λ (b : Bool). if b then r ∷ records_before t rs else records_before t rs) (lt-ltb (at_of r) t past.0) ∙ ap (λ (qs : List CallRecord). r ∷ qs) (before_past t rs past.1)

pub none_before : (t from : ℕ) (rs : List CallRecord) → t ≤ from → Rise from rs → records_before t rs ≡ []
none_before t from [] h rise = refl
none_before t from (r ∷ rs) h rise =
    let first = rise.0 in
    ap (λ (b : Bool). if b then r ∷ records_before t rs else records_before t rs) (le-ltb (at_of r) t (omega arith)) ∙ none_before t (at_of r + 1) rs (omega arith) rise.1

-- the records that are done at a moment are those of the calls before its time
pub done_is : (log : Log) (m : Moment) → IsOnTrack log m → m.done ≡ records_before m.time log.records
done_is log m on =
    sym (append-nil m.done)
    ∙ ap (λ (rs : List CallRecord). m.done ++ rs) (sym (none_before m.time m.time m.left (omega arith) on.rise))
    ∙ ap (λ (rs : List CallRecord). rs ++ records_before m.time m.left) (sym (before_past m.time m.done on.past))
    ∙ sym (filter-append (λ r. nat_lt (at_of r) m.time) m.done m.left)
    ∙ ap (records_before m.time) on.all

-- ---- the moment after a step

pub advance_plain : (m : Moment) (s : State) → next m.state ≡ Retired s → advance m ≡ record m { time = m.time + 1; state = s }
advance_plain m s e = ap (after_outcome m) e

-- a call that the record answers
pub advance_call : (m : Moment) (call : Call) → next m.state ≡ Called call → advance m ≡ after_call m m.left
advance_call m call e = ap (after_outcome m) e

-- the records after one that is due now rise from the next step on
on_answered : (log : Log) (t : ℕ) (s : State) (done : List CallRecord) (r : CallRecord) (rs : List CallRecord) → at_of r ≡ t → IsOnTrack log (moment t s done (r ∷ rs)) → IsOnTrack log (answered (moment t s done (r ∷ rs)) r)
on_answered log t s done r rs e on = record {
  all = append_assoc done (r ∷ []) rs ∙ on.all;
  past = past_with t done r e on.past;
  records = on.records.1;
  rise = subst (λ (x : ℕ). Rise (x + 1) rs) e on.rise.1;
  ends_after = subst (λ (x : ℕ). least_after (x + 1) rs ≤ end_at log.end) e on.ends_after;
}

-- what is expected at a moment, and that nothing differs from it
pub agrees_with : (log : Log) (m : Moment) (e : Expected) → expected m.time m.left log.end ≡ e → difference log m ≡ None → difference_at m log.inputs e ≡ None
agrees_with log m e h d = subst (λ (x : Expected). difference_at m log.inputs x ≡ None) h d

-- ---- the time

pub called_time : (m : Moment) (left : List CallRecord) → (after_call m left).time ≡ m.time + 1
called_time m [] = refl
called_time m (r ∷ rs) = refl

time_by : (log : Log) (t : ℕ) (s : State) (done left : List CallRecord) → t < end_at log.end → difference log (moment t s done left) ≡ None → (advance (moment t s done left)).time ≡ t + 1
time_by log t s done [] below d =
    let m = moment t s done [] in
    let plain = plain_agrees m log.inputs (agrees_with log m PlainStep (expects_plain_at_end t log.end below) d) in
    ap (λ (o : Outcome). (after_outcome m o).time) plain.1
time_by log t s done (r ∷ rs) below d =
    let m = moment t s done (r ∷ rs) in
    elim (cases_lt t (at_of r)) [
      | inl h ↦ ap (λ (o : Outcome). (after_outcome m o).time) (plain_agrees m log.inputs (agrees_with log m PlainStep (expects_plain_before t r rs log.end h) d)).1
      | inr h ↦ ap (λ (o : Outcome). (after_outcome m o).time) (call_agrees m log.inputs r (agrees_with log m (CallOf r) (expects_call t r rs log.end h) d)).calls
    ]

-- a step before the end takes one unit of time
pub step_time : (log : Log) (m : Moment) → m.time < end_at log.end → difference log m ≡ None → (advance m).time ≡ m.time + 1
step_time log m below d = time_by log m.time m.state m.done m.left below d

-- ---- one step

stays_plain : (log : Log) (m : Moment) → IsOnTrack log m → Rise (m.time + 1) m.left → least_after (m.time + 1) m.left ≤ end_at log.end → difference_at m log.inputs PlainStep ≡ None → IsOnTrack log (advance m)
stays_plain log m on rise ends d =
    let plain = plain_agrees m log.inputs d in
    let after : IsOnTrack log (record m { time = m.time + 1; state = plain.0 }) =
    record { all = on.all; past = past_later m.time m.done on.past; records = on.records; rise = rise; ends_after = ends } in
    subst (IsOnTrack log) (sym (advance_plain m plain.0 plain.1)) after

stays_call : (log : Log) (t : ℕ) (s : State) (done : List CallRecord) (r : CallRecord) (rs : List CallRecord) → at_of r ≡ t → IsOnTrack log (moment t s done (r ∷ rs)) → difference_at (moment t s done (r ∷ rs)) log.inputs (CallOf r) ≡ None → IsOnTrack log (advance (moment t s done (r ∷ rs)))
stays_call log t s done r rs e on d =
    let m = moment t s done (r ∷ rs) in
    let agreed = call_agrees m log.inputs r d in
    subst (IsOnTrack log) (sym (advance_call m agreed.call agreed.calls)) (on_answered log t s done r rs e on)

stays_by : (log : Log) (t : ℕ) (s : State) (done left : List CallRecord) → IsOnTrack log (moment t s done left) → t < end_at log.end → difference log (moment t s done left) ≡ None → IsOnTrack log (advance (moment t s done left))
stays_by log t s done [] on below d =
    let m = moment t s done [] in
    stays_plain log m on tt (omega arith) (agrees_with log m PlainStep (expects_plain_at_end t log.end below) d)
stays_by log t s done (r ∷ rs) on below d =
    let m = moment t s done (r ∷ rs) in
    elim (cases_lt t (at_of r)) [
      | inl h ↦ stays_plain log m on (omega arith, on.rise.1) on.ends_after (agrees_with log m PlainStep (expects_plain_before t r rs log.end h) d)
      | inr h ↦ stays_call log t s done r rs (omega (arith, on.rise.0)) on (agrees_with log m (CallOf r) (expects_call t r rs log.end h) d)
    ]

-- a moment before the end is followed by one of the same kind
pub stays_on : (log : Log) (m : Moment) → IsOnTrack log m → m.time < end_at log.end → difference log m ≡ None → IsOnTrack log (advance m)
stays_on log m on below d = stays_by log m.time m.state m.done m.left on below d

-- ---- all moments up to the end

pub record IsOnTrackAt (log : Log) (t : ℕ) (m : Moment) : Type 0 where
  pub on : IsOnTrack log m
  pub time : m.time ≡ t

on_track_from : (log : Log) (n k : ℕ) (m : Moment) → IsOnTrack log m → divergence_from log n m ≡ None → k < n → m.time + k ≤ end_at log.end → IsOnTrackAt log (m.time + k) (moment_after k m)
on_track_from log n zero m on d h b = record { on = on; time = sym (add-zero m.time) }
on_track_from log zero (suc k) m on d h b = absurd (omega arith)
on_track_from log (suc n) (suc k) m on d h b =
    let agrees = agrees_at log (suc n) 0 m d (omega arith) in
    let rest = later_agrees log n m d in
    let time = step_time log m (omega arith) agrees in
    let there = on_track_from log n k (advance m) (stays_on log m on (omega arith) agrees) rest (omega arith) (omega arith) in
    let same : (advance m).time + k ≡ m.time + suc k = omega arith in
    record { on = there.on; time = there.time ∙ same }

pub on_track_start : (log : Log) (s : State) → IsLog log → IsOnTrack log (start s log)
on_track_start log s form = record { all = refl; past = tt; records = form.records; rise = form.rise; ends_after = form.ends_after }

-- where nothing differs, the moment after t steps is on track
pub on_track_at : (log : Log) (s : State) (t : ℕ) → IsLog log → divergence s log ≡ None → t ≤ end_at log.end → IsOnTrackAt log t (moment_after t (start s log))
on_track_at log s t form d h =
    let there = on_track_from log (end_at log.end + 1) t (start s log) (on_track_start log s form) d (omega arith) (omega arith) in
    record { on = there.on; time = there.time ∙ zero-add t }
