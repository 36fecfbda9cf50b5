-- Where nothing differs, the step that the machine makes can be finished, and is then the definitions' step. Crates above cite
-- these lemmas.
use Rattle.std.proofs.Common.{◌≡◌, ℕ, ◌+◌, ◌<◌, ◌≤◌, ◌⊎◌, inl, inr, Bool, List, [], ◌∷◌, ◌++◌, length, Some, None, refl, arith, ap, sym, ◌∙◌, subst}
use Rattle.std.specs.List.{AllByRecursion}
use Rattle.std.proofs.lemmas.Bool.{cases_lt}
use Rattle.isa.specs.declared.Instr.TheVariants.{Ecall}
use Rattle.isa.specs.declared.Call.{Call}
use Rattle.isa.specs.declared.CallKind.{CallKind}
use Rattle.isa.specs.declared.CallKind.TheVariants as kind
use Rattle.isa.specs.Machine.{State, Retired, next, call_of, reg}
use Rattle.isa.specs.Machine as machine
use Rattle.isa.specs.Calls.{refusal_of}
use Rattle.log_model.specs.declared.CallRecord.{CallRecord}
use Rattle.log_model.specs.declared.CallRecord.TheVariants.{Read, Write, Clock, Other}
use Rattle.log_model.specs.declared.RunEnd.{RunEnd}
use Rattle.log_model.specs.declared.RunEnd.TheVariants.{Exit}
use Rattle.log_model.specs.Logs.{Log, IsLog, IsRecord, Rise, least_after, at_of, end_at, steps, steps_by}
use Rattle.flow_model.specs.declared.StepSeen.{StepSeen}
use Rattle.replay_model.specs.Run.{Moment, advance, after_outcome, step_of, step_by, plain_step, after_call, call_seen}
use Rattle.replay_model.specs.Comparison.{CallOf, EndOf, PlainStep, difference, difference_at, bytes_compared, result, allowed, arguments_of}
use Rattle.replay_model.proofs.Agreement.{CallAgrees, call_agrees, plain_agrees, exit_agrees, expects_plain_at_end, expects_plain_before, expects_call, expects_end}
use Rattle.replay_model.proofs.Track.{moment, agrees_with, least_rises, called_time}
use Rattle.replay_model.proofs.Transfers.{IsHeld, read_held, write_held, same_arguments}
use Rattle.rv_machine.specs.Hart.{Hart, IsStep}
use Rattle.rv_machine.specs.declared.Stepped.{Stepped}
use Rattle.rv_machine.specs.declared.Stepped.TheVariants.{Plain, Called, Trapped}
use Rattle.replay_run.specs.Expects.{event_time}
use Rattle.replay_run.specs.Runs.{RunAt, with_hart, gone_on, IsUnderLog, CanMove, IsDue, IsLater, AreLater, IsReady, IsFinished}

-- ---- the records that are left are the log's

all_after : (P : CallRecord → Type 0) (xs ys : List CallRecord) → AllByRecursion P (xs ++ ys) → AllByRecursion P ys
all_after P [] ys h = h
all_after P (x ∷ xs) ys h = all_after P xs ys h.1

pub records_left : (r : RunAt) → IsUnderLog r → AllByRecursion IsRecord r.moment.left
records_left r under = all_after IsRecord r.moment.done r.moment.left (subst (AllByRecursion IsRecord) (sym under.all) under.form.records)

least_at : (least : ℕ) (xs : List CallRecord) (r : CallRecord) (rs : List CallRecord) → least_after least (xs ++ r ∷ rs) ≡ least_after (at_of r + 1) rs
least_at least [] r rs = refl
least_at least (x ∷ xs) r rs = least_at (at_of x + 1) xs r rs

before_end_by : (log : Log) (done left : List CallRecord) (time : ℕ) → IsLog log → done ++ left ≡ log.records → Rise time left → (left ≡ [] → time < end_at log.end) → time < end_at log.end
before_end_by log done [] time form all rise none = none refl
before_end_by log done (r ∷ rs) time form all rise none =
    let last : least_after 0 log.records ≡ least_after (at_of r + 1) rs = ap (least_after 0) (sym all) ∙ least_at 0 done r rs in
    let first = rise.0 in
    omega (arith, form.ends_after, least_rises (at_of r + 1) rs rise.1)

-- a run with records left is before its end
pub before_end : (r : RunAt) → IsUnderLog r → (r.moment.left ≡ [] → r.moment.time < end_at r.log.end) → r.moment.time < end_at r.log.end
before_end r under none = before_end_by r.log r.moment.done r.moment.left r.moment.time under.form under.all under.rise none

-- the next call of a run is before its end
pub event_within : (r : RunAt) → IsUnderLog r → event_time r.moment.left r.log.end ≤ end_at r.log.end
event_within r under = by r.moment.left under.all under.rise
  where
    by : (left : List CallRecord) → r.moment.done ++ left ≡ r.log.records → Rise r.moment.time left → event_time left r.log.end ≤ end_at r.log.end
    by [] all rise = omega arith
    by (q ∷ qs) all rise =
        let last : least_after 0 r.log.records ≡ least_after (at_of q + 1) qs = ap (least_after 0) (sym all) ∙ least_at 0 r.moment.done q qs in
        omega (arith, under.form.ends_after, least_rises (at_of q + 1) qs rise.1)

-- ---- where so many steps later no record is taken

-- the records that are left rise from each time before the first of them
pub rise_later : (t n k : ℕ) (left : List CallRecord) → Rise t left → AreLater t n left → k ≤ n → Rise (t + k) left
rise_later t n k [] rise later h = tt
rise_later t n k (r ∷ rs) rise later h = (omega arith, rise.1)

pub are_later : (t n : ℕ) (left : List CallRecord) (end : RunEnd) → t + n ≤ event_time left end → AreLater t n left
are_later t n [] end h = tt
are_later t n (r ∷ rs) end h = h

pub under_later : (r : RunAt) (n k : ℕ) (s : State) → IsUnderLog r → AreLater r.moment.time n r.moment.left → k ≤ n → IsUnderLog (gone_on r k s)
under_later r n k s under later h = record {
  form = under.form;
  small = under.small;
  all = under.all;
  rise = rise_later r.moment.time n k r.moment.left under.rise later h;
}

-- ---- a record that agrees is due

kind_of_call : (s : State) (call : Call) (k : CallKind) → call ≡ call_of s → call.kind ≡ k → (call_of s).kind ≡ k
kind_of_call s call k e h = ap (λ (x : Call). x.kind) (sym e) ∙ h

can_move : (s : State) (channels : ℕ) (args bytes : List ℕ) → IsHeld s channels args (length bytes) → CanMove s channels args bytes
can_move s channels args bytes held = record { channel = held.channel; inside = held.held }

due_by : (inputs : ℕ) (m : Moment) (r : CallRecord) (rs : List CallRecord) → IsRecord r → at_of r ≡ m.time → (a : CallAgrees m inputs r) → a.call ≡ call_of m.state → IsDue inputs m (r ∷ rs)
due_by inputs m (Read at args kept bytes) rs form now a own =
    let s = m.state in
    let same = same_arguments s args (result kept (allowed (refusal_of s inputs (arguments_of s)) kept 0) ∷ []) a.lawful in
    (now, (kind_of_call s a.call kind.Read own a.kind, same.second, λ h. can_move s inputs args bytes (read_held s inputs at args kept bytes form a.lawful h)))
due_by inputs m (Write at args kept bytes) rs form now a own =
    let s = m.state in
    let rest = bytes_compared 0 bytes (machine.bytes_at s (reg s 11) (length bytes)) in
    let same = same_arguments s args (result kept (allowed (refusal_of s 16 (arguments_of s)) kept (reg s 12)) ∷ rest) a.lawful in
    (now, (kind_of_call s a.call kind.Write own a.kind, same.second, λ h. can_move s 16 args bytes (write_held s inputs at args kept bytes rest form a.lawful h)))
due_by inputs m (Clock at value) rs form now a own = (now, kind_of_call m.state a.call kind.Clock own a.kind)
due_by inputs m (Other at number) rs form now a own = (now, kind_of_call m.state a.call kind.Other own a.kind)

-- ---- what the machine does at a moment where nothing differs

-- it makes a plain step before the next record, or a call that is due
abbrev Goes : ℕ → Moment → Type 0
Goes inputs m = ((s : State) × (next m.state ≡ Retired s) × IsLater m.time m.left) ⊎ ((call : Call) × (next m.state ≡ machine.Called call) × (call ≡ call_of m.state → IsDue inputs m m.left))

goes_at_end : (inputs : ℕ) (m : Moment) (end : RunEnd) → m.left ≡ [] → difference_at m inputs (EndOf end) ≡ None → end_at end ≤ m.time → m.time < steps_by end → Goes inputs m
goes_at_end inputs m (Exit at code) none d late early =
    let exit = exit_agrees m inputs at code d in
    inr (exit.0, exit.1, λ own. subst (IsDue inputs m) (sym none) (kind_of_call m.state exit.0 kind.Exit own exit.2))
goes_at_end inputs m end none d late early = absurd (omega arith)

goes_by : (log : Log) (t : ℕ) (s : State) (done left : List CallRecord) → AllByRecursion IsRecord left → Rise t left → t < steps log → difference log (moment t s done left) ≡ None → Goes log.inputs (moment t s done left)
goes_by log t s done [] records rise below d = by (cases_lt t (end_at log.end))
  where
    by : (t < end_at log.end) ⊎ (end_at log.end ≤ t) → Goes log.inputs (moment t s done [])
    by (inl h) =
        let m = moment t s done [] in
        let plain = plain_agrees m log.inputs (agrees_with log m PlainStep (expects_plain_at_end t log.end h) d) in
        inl (plain.0, plain.1, tt)
    by (inr h) = let m = moment t s done [] in goes_at_end log.inputs m log.end refl (agrees_with log m (EndOf log.end) (expects_end t log.end h) d) h below
goes_by log t s done (r ∷ rs) records rise below d = by (cases_lt t (at_of r))
  where
    by : (t < at_of r) ⊎ (at_of r ≤ t) → Goes log.inputs (moment t s done (r ∷ rs))
    by (inl h) =
        let m = moment t s done (r ∷ rs) in
        let plain = plain_agrees m log.inputs (agrees_with log m PlainStep (expects_plain_before t r rs log.end h) d) in
        inl (plain.0, plain.1, h)
    by (inr h) =
        let m = moment t s done (r ∷ rs) in
        let first = rise.0 in
        let agreed = call_agrees m log.inputs r (agrees_with log m (CallOf r) (expects_call t r rs log.end h) d) in
        inr (agreed.call, agreed.calls, due_by log.inputs m r rs records.0 (omega arith) agreed)

goes : (r : RunAt) → IsUnderLog r → r.moment.time < steps r.log → difference r.log r.moment ≡ None → Goes r.log.inputs r.moment
goes r under below d = goes_by r.log r.moment.time r.moment.state r.moment.done r.moment.left (records_left r under) under.rise below d

ready_by : (r : RunAt) (stepped : Stepped) (hart : Hart) → Goes r.log.inputs r.moment → IsStep r.moment.state stepped hart → IsReady (with_hart r hart) stepped
ready_by r (Plain instr place) hart (inl p) h = (h.goes_on, h.fits, p.2)
ready_by r (Plain instr place) hart (inr p) h = let a = p.1 in let b = h.retired in cc
ready_by r (Called call) hart (inl p) h = let a = p.1 in let b = h.called in cc
ready_by r (Called call) hart (inr p) h =
    let a = p.1 in
    let b = h.called in
    let same : p.0 ≡ call = cc in
    let kept : hart.state ≡ r.moment.state = ap (λ (x : Hart). x.state) h.waits in
    (ap (λ (x : Hart). x.waits) h.waits, subst (λ (x : State). IsDue r.log.inputs (record (r.moment) { state = x }) r.moment.left) (sym kept) (p.2 (same ∙ h.by_registers)))
ready_by r (Trapped kind pc) hart (inl p) h = let a = p.1 in let b = h.trapped in cc
ready_by r (Trapped kind pc) hart (inr p) h = let a = p.1 in let b = h.trapped in cc

-- the step that the machine makes can be finished
pub ready : (r : RunAt) (stepped : Stepped) (hart : Hart) → IsUnderLog r → r.moment.time < steps r.log → difference r.log r.moment ≡ None → IsStep r.moment.state stepped hart → IsReady (with_hart r hart) stepped
ready r stepped hart under below d h = ready_by r stepped hart (goes r under below d) h

-- ---- the step that was made

pub record IsDone (m : Moment) (s : StepSeen) (after : Moment) : Type 0 where
  pub step : s ≡ step_of m
  pub moved : after ≡ advance m

-- a step that is finished is that of the definitions
pub done : (m : Moment) (stepped : Stepped) (hart : Hart) (s : StepSeen) (after : Moment) → IsStep m.state stepped hart → IsFinished (record m { state = hart.state }) stepped s after → IsDone m s after
done m (Plain instr place) hart s after h f =
    let step : step_of m ≡ record { number = m.time; instr = instr; place = place; call = None } =
    ap (step_by m) h.retired ∙ ap (plain_step m.time m.state) h.fetched ∙ ap (λ (x : ℕ). record { number = m.time; instr = instr; place = x; call = None }) (sym h.address) in
    record { step = f.0 ∙ sym step; moved = f.1 ∙ sym (ap (after_outcome m) h.retired) }
done m (Called call) hart s after h f =
    let state : hart.state ≡ m.state = ap (λ (x : Hart). x.state) h.waits in
    let kept : record m { state = hart.state } ≡ m = ap (λ (x : State). record m { state = x }) state in
    record {
      step = f.0 ∙ ap called_step kept ∙ sym (ap (step_by m) h.called);
      moved = f.1 ∙ ap (λ (x : Moment). after_call x x.left) kept ∙ sym (ap (after_outcome m) h.called);
    }
  where
    called_step : Moment → StepSeen
    called_step x = record { number = x.time; instr = Ecall; place = 0; call = Some (call_seen x x.left) }
done m (Trapped kind pc) hart s after h f = absurd f

-- what is finished takes one unit of time, and has the number of its step
pub record IsNumbered (m : Moment) (s : StepSeen) (after : Moment) : Type 0 where
  pub number : s.number ≡ m.time
  pub time : after.time ≡ m.time + 1

pub numbered : (m : Moment) (stepped : Stepped) (s : StepSeen) (after : Moment) → IsFinished m stepped s after → IsNumbered m s after
numbered m (Plain instr place) s after f = record { number = ap (λ (x : StepSeen). x.number) f.0; time = ap (λ (x : Moment). x.time) f.1 }
numbered m (Called call) s after f = record { number = ap (λ (x : StepSeen). x.number) f.0; time = ap (λ (x : Moment). x.time) f.1 ∙ called_time m m.left }
numbered m (Trapped kind pc) s after f = absurd f

-- the parts of a run make it up
pub run_is : (r : RunAt) (log : Log) (m : Moment) (waits : Bool) → r.log ≡ log → r.moment ≡ m → r.waits ≡ waits → r ≡ record { log = log; moment = m; waits = waits }
run_is r log m waits a b d =
    ap (λ (l : Log). record { log = l; moment = r.moment; waits = r.waits }) a
    ∙ ap (λ (x : Moment). record { log = log; moment = x; waits = r.waits }) b
    ∙ ap (λ (w : Bool). record { log = log; moment = m; waits = w }) d
