-- Each step of a run in which nothing differs is done: an instruction retires, or a call is made that the next record
-- answers. Crates above cite these lemmas.
use Rattle.std.proofs.Common.{◌≡◌, ℕ, suc, ◌+◌, ◌<◌, ◌≤◌, ◌⊎◌, inl, inr, List, [], ◌∷◌, None, refl, arith, ap, sym, ◌∙◌, subst, pos}
use Rattle.std.proofs.lemmas.Bool.{cases_lt}
use Rattle.isa.specs.declared.Call.{Call}
use Rattle.isa.specs.declared.CallKind.TheVariants as kind
use Rattle.isa.specs.Machine.{State, Outcome, Retired, Called, Trapped, next}
use Rattle.log_model.specs.declared.CallRecord.{CallRecord}
use Rattle.log_model.specs.declared.RunEnd.{RunEnd}
use Rattle.log_model.specs.declared.RunEnd.TheVariants.{Exit, Trap, Limit}
use Rattle.log_model.specs.Logs.{Log, IsLog, IsRecord, Rise, least_after, at_of, end_at, steps, steps_by}
use Rattle.replay_model.specs.Run.{Moment, start, moment_after}
use Rattle.replay_model.specs.Comparison.{PlainStep, CallOf, EndOf, difference, difference_at, divergence, expected, seen_event, trap_kind, compared, IsLawful}
use Rattle.replay_model.specs.declared.Field.TheVariants as field
use Rattle.replay_model.proofs.Agreement.{first_agrees, kind_by, trap_agrees, call_agrees, plain_agrees, exit_agrees, expects_plain_at_end, expects_plain_before, expects_call, expects_end, agrees_at}
use Rattle.replay_model.proofs.Offsets.{steps_within}
use Rattle.replay_model.proofs.Track.{moment, IsOnTrack, IsOnTrackAt, agrees_with, least_rises, on_track_at}

-- the next record answers a call, at this time; or it is the exit, which is the last step
abbrev pub IsCallAt : Log → ℕ → State → Call → List CallRecord → Type 0
IsCallAt log t s call [] = (call.kind ≡ kind.Exit) × (steps log ≡ suc t) × (end_at log.end ≡ t)
IsCallAt log t s call (r ∷ rs) = (at_of r ≡ t) × IsRecord r × IsLawful s log.inputs r × (call.kind ≡ kind_by r)

-- what comes of a step that is done
abbrev pub IsDoneAt : Log → ℕ → State → List CallRecord → Outcome → Type 0
IsDoneAt log t s left (Retired x) = Unit {0}
IsDoneAt log t s left (Called call) = IsCallAt log t s call left
IsDoneAt log t s left (Trapped kind) = ⊥

abbrev IsDoneNext : Log → Moment → Type 0
IsDoneNext log m = IsDoneAt log m.time m.state m.left (next m.state)

retires : (log : Log) (m : Moment) (x : State) → next m.state ≡ Retired x → IsDoneNext log m
retires log m x e = subst (IsDoneAt log m.time m.state m.left) (sym e) tt

before_end : (log : Log) (t : ℕ) (s : State) (done left : List CallRecord) → IsOnTrack log (moment t s done left) → t < end_at log.end
    → difference log (moment t s done left) ≡ None → IsDoneNext log (moment t s done left)
before_end log t s done [] on below d =
    let m = moment t s done [] in
    let plain = plain_agrees m log.inputs (agrees_with log m PlainStep (expects_plain_at_end t log.end below) d) in
    retires log m plain.0 plain.1
before_end log t s done (r ∷ rs) on below d = by (cases_lt t (at_of r))
  where
    by : (t < at_of r) ⊎ (at_of r ≤ t) → IsDoneNext log (moment t s done (r ∷ rs))
    by (inl h) =
        let m = moment t s done (r ∷ rs) in
        let plain = plain_agrees m log.inputs (agrees_with log m PlainStep (expects_plain_before t r rs log.end h) d) in
        retires log m plain.0 plain.1
    by (inr h) =
        let m = moment t s done (r ∷ rs) in
        let a = call_agrees m log.inputs r (agrees_with log m (CallOf r) (expects_call t r rs log.end h) d) in
        let first = on.rise.0 in
        let due : at_of r ≡ t = omega arith in
        subst (IsDoneAt log t s (r ∷ rs)) (sym a.calls) (due, on.records.0, a.lawful, a.kind)

-- the exit is a step of its own
at_exit : (log : Log) (at code t : ℕ) (s : State) (done left : List CallRecord) → log.end ≡ Exit at code → IsOnTrack log (moment t s done left) → t ≡ at
    → difference log (moment t s done left) ≡ None → IsDoneNext log (moment t s done left)
at_exit log at code t s done (r ∷ rs) e on h d =
    let last : end_at log.end ≡ at = ap end_at e in
    let first = on.rise.0 in
    let later = least_rises (at_of r + 1) rs on.rise.1 in
    let ends = on.ends_after in
    absurd (omega arith)
at_exit log at code t s done [] e on h d =
    let m = moment t s done [] in
    let last : end_at log.end ≡ at = ap end_at e in
    let all : steps log ≡ at + 1 = ap steps_by e in
    let is_end : expected t [] log.end ≡ EndOf (Exit at code) = expects_end t log.end (omega arith) ∙ ap EndOf e in
    let exits = exit_agrees m log.inputs at code (agrees_with log m (EndOf (Exit at code)) is_end d) in
    subst (IsDoneAt log t s []) (sym exits.1) (exits.2, omega arith, omega arith)

pub done_at : (log : Log) (s : State) (t : ℕ) → IsLog log → divergence s log ≡ None → t < steps log
    → IsDoneAt log t (moment_after t (start s log)).state (moment_after t (start s log)).left (next (moment_after t (start s log)).state)
done_at log s t form fits h = subst (λ (n : ℕ). IsDoneAt log n m.state m.left (next m.state)) time (by (cases_lt t (end_at log.end)))
  where
    last : steps log ≤ end_at log.end + 1
    last = steps_within log.end

    m : Moment
    m = moment_after t (start s log)

    there : IsOnTrackAt log t m
    there = let x = last in on_track_at log s t form fits (omega arith)

    time : m.time ≡ t
    time = there.time

    agrees : difference log m ≡ None
    agrees = agrees_at log (end_at log.end + 1) t (start s log) fits (let x = last in omega arith)

    ending : (end : RunEnd) → log.end ≡ end → end_at log.end ≤ t → IsDoneNext log m
    ending (Exit at code) e g =
        let x : end_at log.end ≡ at = ap end_at e in
        let y = last in
        let z = time in
        at_exit log at code m.time m.state m.done m.left e there.on (omega arith) agrees
    ending (Trap at kind pc) e g = let x : steps_by log.end ≡ end_at log.end = ap steps_by e ∙ sym (ap end_at e) in absurd (omega arith)
    ending (Limit at) e g = let x : steps_by log.end ≡ end_at log.end = ap steps_by e ∙ sym (ap end_at e) in absurd (omega arith)

    by : (t < end_at log.end) ⊎ (end_at log.end ≤ t) → IsDoneNext log m
    by (inl g) = let z = time in before_end log m.time m.state m.done m.left there.on (omega arith) agrees
    by (inr g) = ending log.end refl g

-- a call that is made is answered by the next record
pub call_at_time : (log : Log) (s : State) (t : ℕ) → IsLog log → divergence s log ≡ None → t < steps log → (call : Call)
    → next (moment_after t (start s log)).state ≡ Called call → IsCallAt log t (moment_after t (start s log)).state call (moment_after t (start s log)).left
call_at_time log s t form fits h call f =
    subst (IsDoneAt log t (moment_after t (start s log)).state (moment_after t (start s log)).left) f (done_at log s t form fits h)

-- ---- the end

pub none_left : (log : Log) (m : Moment) → IsOnTrack log m → end_at log.end ≤ m.time → m.left ≡ []
none_left log m on h = by m.left on.rise on.ends_after
  where
    by : (left : List CallRecord) → Rise m.time left → least_after m.time left ≤ end_at log.end → left ≡ []
    by [] rise ends = refl
    by (r ∷ rs) rise ends = let first = rise.0 in let later = least_rises (at_of r + 1) rs rise.1 in absurd (omega arith)

-- what a run's end is held against, at its time
pub ends_at : (log : Log) (s : State) → IsLog log → divergence s log ≡ None → difference_at (moment_after (end_at log.end) (start s log)) log.inputs (EndOf log.end) ≡ None
ends_at log s form fits =
    let m = moment_after (end_at log.end) (start s log) in
    let there = on_track_at log s (end_at log.end) form fits (omega arith) in
    let time = there.time in
    let due : expected m.time m.left log.end ≡ EndOf log.end = ap (λ (left : List CallRecord). expected m.time left log.end) (none_left log m there.on (omega arith)) ∙ expects_end m.time log.end (omega arith) in
    agrees_with log m (EndOf log.end) due (agrees_at log (end_at log.end + 1) (end_at log.end) (start s log) fits (omega arith))

-- a run whose end is a trap
pub record IsTrapAt (s : State) (k pc : ℕ) : Type 0 where
  pub traps : next s ≡ Trapped k
  pub pc_is : pc ≡ s.pc

pub traps_at : (log : Log) (s : State) (at k pc : ℕ) → IsLog log → divergence s log ≡ None → log.end ≡ Trap at k pc → IsTrapAt (moment_after at (start s log)).state k pc
traps_at log s at k pc form fits e =
    let m = moment_after at (start s log) in
    let d : difference_at m log.inputs (EndOf (Trap at k pc)) ≡ None = subst (λ (end : RunEnd). difference_at (moment_after (end_at end) (start s log)) log.inputs (EndOf end) ≡ None) e (ends_at log s form fits) in
    let trap = trap_agrees m log.inputs at k pc d in
    let pc_compared = compared field.Pc pc m.state.pc in
    let kind_compared = compared field.Kind k (trap_kind (next m.state)) in
    let same = (first_agrees (compared field.Event 6 (seen_event (next m.state))) (kind_compared ∷ pc_compared ∷ []) d).1 in
    let kinds = first_agrees kind_compared (pc_compared ∷ []) same in
    let kind_same : pos k ≡ pos (trap_kind (next m.state)) = kinds.0 in
    let pc_same : pos pc ≡ pos m.state.pc = (first_agrees pc_compared [] kinds.1).0 in
    let kind_is : trap_kind (next m.state) ≡ k = cc in
    record { traps = trap ∙ ap Trapped kind_is; pc_is = cc }
