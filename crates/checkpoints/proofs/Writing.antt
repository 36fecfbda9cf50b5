-- What a step of a run changes of the window.
use Rattle.std.proofs.Common.{◌≡◌, ℕ, zero, suc, ◌+◌, ◌-◌, ◌<◌, ◌≤◌, ◌⊎◌, inl, inr, Bool, true, false, List, [], ◌∷◌, ◌++◌, length, get_or, take, drop, Some, None, refl, arith, ap, sym, ◌∙◌, subst, length-append, length-take, length-drop, length-take-le, get_or-take, get_or-drop}
use Rattle.std.specs.Int.{w32, to_le_bytes}
use Rattle.std.proofs.lemmas.Bool.{cases_lt}
use Rattle.std.proofs.lemmas.List.{get_or_append_left, get_or-append_right, nil_from_length}
use Rattle.isa.specs.declared.Instr.{Instr}
use Rattle.isa.specs.declared.Instr.TheVariants.{Lui, Ecall}
use Rattle.isa.specs.declared.Effect.{Effect}
use Rattle.isa.specs.declared.Effect.TheVariants.{SetRegister, Jump, Branch, Load, Store, MoveOn, EnvironmentCall, Breakpoint}
use Rattle.isa.specs.declared.Call.{Call}
use Rattle.isa.specs.Machine.{State, Outcome, Retired, Called, Trapped, next, reg, outcome_of, Fetch, Fetched, OutsideWindow, Illegal, fetch, execute, effect_of, address_of, in_window, overwritten, low_bytes, landed, branched, loaded, stored, is_aligned, jumped, moved_on}
use Rattle.isa.specs.Calls.{buffer_of}
use Rattle.isa.proofs.Window.{overwritten-nil, holds_by, Holds}
use Rattle.log_model.specs.declared.CallRecord.{CallRecord}
use Rattle.log_model.specs.declared.CallRecord.TheVariants.{Read, Write, Clock, Other}
use Rattle.log_model.specs.Logs.{Log, IsRecord, at_of, end_at, steps}
use Rattle.flow_model.specs.declared.StepSeen.{StepSeen}
use Rattle.flow_model.specs.Origins.{step_at}
use Rattle.replay_model.specs.Run.{Moment, start, advance, after_outcome, after_call, moment_after, step_of, step_by, plain_step, call_seen}
use Rattle.replay_model.specs.Comparison.{PlainStep, CallOf, IsLawful, difference}
use Rattle.replay_model.proofs.Agreement.{call_agrees, plain_agrees, expects_plain_before, expects_call, agrees_at}
use Rattle.replay_model.proofs.Track.{moment, IsOnTrack, agrees_with, on_track_at}
use Rattle.replay_model.proofs.Transfers.{read_held}
use Rattle.replay_model.proofs.Offsets.{step_at_from, moment_later, steps_within}
use Rattle.replayer.specs.Jobs.{Job, IsJob, trace_of}
use Rattle.checkpoints.specs.declared.touched.Span.{Span}
use Rattle.checkpoints.specs.Touched.{span, stored_size, written}

-- ---- bytes put into a window

module _ (mem : List ℕ) (j : ℕ) (bs : List ℕ) (h : j + length bs ≤ length mem) where
  over_front : length (take j mem ++ bs) ≡ j + length bs
  over_front = length-append (take j mem) bs ∙ ap (λ (n : ℕ). n + length bs) (length-take-le j mem (omega arith))

  over_before : (k : ℕ) → k < j → get_or (overwritten mem j bs) k 0 ≡ get_or mem k 0
  over_before k g =
      let front = over_front in
      let first = length-take-le j mem (omega arith) in
      get_or_append_left (take j mem ++ bs) (drop (j + length bs) mem) 0 k (omega arith)
      ∙ get_or_append_left (take j mem) bs 0 k (omega arith)
      ∙ get_or-take j mem k 0 g

  over_after : (k : ℕ) → j + length bs ≤ k → get_or (overwritten mem j bs) k 0 ≡ get_or mem k 0
  over_after k g =
      let same : j + length bs + (k - (j + length bs)) ≡ k = omega arith in
      get_or-append_right (take j mem ++ bs) (drop (j + length bs) mem) (j + length bs) k 0 over_front g
      ∙ get_or-drop (j + length bs) mem (k - (j + length bs)) 0
      ∙ ap (λ (n : ℕ). get_or mem n 0) same

  over_length : length (overwritten mem j bs) ≡ length mem
  over_length = omega (arith, h, over_front, length-append (take j mem ++ bs) (drop (j + length bs) mem), length-drop (j + length bs) mem)

-- ---- what is changed

-- the second state's window is the first's, but for the bytes of a span, which are inside it
pub record Changes (s t : State) (bytes : Span) : Type 0 where
  pub base : t.base ≡ s.base
  pub size : length t.memory ≡ length s.memory
  pub inside : 0 < bytes.size → Holds s.base (length s.memory) bytes.place bytes.size
  pub kept : (k : ℕ) → (0 < bytes.size → (k < bytes.place - s.base) ⊎ (bytes.place - s.base + bytes.size ≤ k)) → get_or t.memory k 0 ≡ get_or s.memory k 0

same_memory : (s t : State) (a n : ℕ) → n ≡ 0 → t.base ≡ s.base → t.memory ≡ s.memory → Changes s t (span a n)
same_memory s t a n e base memory = record {
  base = base;
  size = ap length memory;
  inside = λ some. absurd (omega (arith, e));
  kept = λ k out. ap (λ (m : List ℕ). get_or m k 0) memory;
}

put_some : (s t : State) (a n : ℕ) (bytes : List ℕ) → length bytes ≤ n → Holds s.base (length s.memory) a n → 0 < n → t.base ≡ s.base → t.memory ≡ overwritten s.memory (a - s.base) bytes → Changes s t (span a n)
put_some s t a n bytes few h some base memory =
    let x = h.above in
    let y = h.below in
    let room : a - s.base + length bytes ≤ length s.memory = omega arith in
    record {
      base = base;
      size = ap length memory ∙ over_length s.memory (a - s.base) bytes room;
      inside = λ more. h;
      kept = λ k out. ap (λ (m : List ℕ). get_or m k 0) memory ∙ by room k (out some);
    }
  where
    by : a - s.base + length bytes ≤ length s.memory → (k : ℕ) → (k < a - s.base) ⊎ (a - s.base + n ≤ k) → get_or (overwritten s.memory (a - s.base) bytes) k 0 ≡ get_or s.memory k 0
    by room k (inl g) = over_before s.memory (a - s.base) bytes room k g
    by room k (inr g) = over_after s.memory (a - s.base) bytes room k (omega arith)

-- at most n bytes are put at an address
put : (s t : State) (a n : ℕ) (bytes : List ℕ) → length bytes ≤ n → (0 < n → Holds s.base (length s.memory) a n) → t.base ≡ s.base → t.memory ≡ overwritten s.memory (a - s.base) bytes → Changes s t (span a n)
put s t a n bytes few h base memory = by (cases_lt 0 n)
  where
    by : (0 < n) ⊎ (n ≤ 0) → Changes s t (span a n)
    by (inl some) = put_some s t a n bytes few (h some) some base memory
    by (inr none) =
        let nothing : bytes ≡ [] = nil_from_length bytes (omega arith) in
        same_memory s t a n (omega arith) base (memory ∙ ap (overwritten s.memory (a - s.base)) nothing ∙ overwritten-nil s.memory (a - s.base))

-- ---- instructions

size_of : Effect → ℕ
size_of (Store a n v) = n
size_of e = 0

-- where an outcome leaves a state, Q is true of it
abbrev Leaves : Outcome → (State → Type 0) → Type 0
Leaves (Retired s) Q = Q s
Leaves (Called call) Q = Unit {0}
Leaves (Trapped kind) Q = Unit {0}

landed_same : (s t : State) (b : Bool) → t.base ≡ s.base → t.memory ≡ s.memory → Leaves (landed b t) (λ u. Changes s u (span 0 0))
landed_same s t true base memory = same_memory s t 0 0 refl base memory
landed_same s t false base memory = tt

branch_same : (s : State) (taken : Bool) (target : ℕ) → Leaves (branched s taken target) (λ u. Changes s u (span 0 0))
branch_same s true target = landed_same s (record s { pc = target }) (is_aligned target) refl refl
branch_same s false target = same_memory s (moved_on s) 0 0 refl refl refl

load_same : (s : State) (held : Bool) (d a n : ℕ) (is_signed : Bool) → Leaves (loaded s held d a n is_signed) (λ u. Changes s u (span a 0))
load_same s true d a n is_signed = same_memory s _ a 0 refl refl refl
load_same s false d a n is_signed = tt

store_puts : (s : State) (held : Bool) (a n v : ℕ) → in_window s a n ≡ held → Leaves (stored s held a n v) (λ u. Changes s u (span a n))
store_puts s true a n v e = put s _ a n (low_bytes n v) (omega (arith, length-take n (to_le_bytes w32 v))) (λ some. holds_by s a n e) refl refl
store_puts s false a n v e = tt

execute_changes : (s : State) (e : Effect) → Leaves (execute s e) (λ t. Changes s t (span (address_of e) (size_of e)))
unfolding size_of
execute_changes s (SetRegister d v) = same_memory s _ 0 0 refl refl refl
execute_changes s (Jump d target) = landed_same s (jumped s d target) (is_aligned target) refl refl
execute_changes s (Branch taken target) = branch_same s taken target
execute_changes s (Load d a n is_signed) = load_same s (in_window s a n) d a n is_signed
execute_changes s (Store a n v) = store_puts s (in_window s a n) a n v refl
execute_changes s MoveOn = same_memory s _ 0 0 refl refl refl
execute_changes s EnvironmentCall = tt
execute_changes s Breakpoint = tt

stored_is : (s : State) (i : Instr) → size_of (effect_of s i) ≡ stored_size i
unfolding size_of
stored_is s (Lui d imm) = refl
stored_is s i = refl

plain_changes : (time : ℕ) (s t : State) (f : Fetch) → outcome_of s f ≡ Retired t → Changes s t (written (plain_step time s f))
plain_changes time s t OutsideWindow e = cc
plain_changes time s t Illegal e = cc
plain_changes time s t (Fetched i) e =
    let address = address_of (effect_of s i) in
    subst (λ (n : ℕ). Changes s t (span address n)) (stored_is s i) (subst (λ (o : Outcome). Leaves o (λ u. Changes s u (span address (size_of (effect_of s i))))) e (execute_changes s (effect_of s i)))

-- ---- calls

-- the record that answers a call is one of a log, and lawful
abbrev IsAnswered : State → ℕ → List CallRecord → Type 0
IsAnswered s inputs [] = Unit {0}
IsAnswered s inputs (r ∷ rs) = IsRecord r × IsLawful s inputs r

call_changes : (m : Moment) (inputs : ℕ) (left : List CallRecord) → IsAnswered m.state inputs left → Changes m.state (after_call m left).state (written (record { number = m.time; instr = Ecall; place = 0; call = Some (call_seen m left) }))
call_changes m inputs [] a = same_memory m.state _ 0 0 refl refl refl
call_changes m inputs (Read at args result bytes ∷ rs) a =
    put m.state _ (buffer_of args) (length bytes) bytes (omega arith) inside refl refl
  where
    inside : 0 < length bytes → Holds m.state.base (length m.state.memory) (buffer_of args) (length bytes)
    inside some =
        let held = read_held m.state inputs at args result bytes a.0 a.1 some in
        subst (λ (place : ℕ). Holds m.state.base (length m.state.memory) place (length bytes)) (sym held.buffer) (holds_by m.state (reg m.state 11) (length bytes) held.held)
call_changes m inputs (Write at args result bytes ∷ rs) a = same_memory m.state _ (buffer_of args) 0 refl refl refl
call_changes m inputs (Clock at value ∷ rs) a = same_memory m.state _ 0 0 refl refl refl
call_changes m inputs (Other at number ∷ rs) a = same_memory m.state _ 0 0 refl refl refl

answered_by : (log : Log) (t : ℕ) (s : State) (done left : List CallRecord) (call : Call) → IsOnTrack log (moment t s done left) → difference log (moment t s done left) ≡ None → next s ≡ Called call → IsAnswered s log.inputs left
answered_by log t s done [] call on d e = tt
answered_by log t s done (r ∷ rs) call on d e = by (cases_lt t (at_of r))
  where
    m : Moment
    m = moment t s done (r ∷ rs)

    by : (t < at_of r) ⊎ (at_of r ≤ t) → IsAnswered s log.inputs (r ∷ rs)
    by (inl h) =
        let plain = plain_agrees m log.inputs (agrees_with log m PlainStep (expects_plain_before t r rs log.end h) d) in
        let retired : next s ≡ Retired plain.0 = plain.1 in
        absurd (not_both (sym e ∙ retired))
      where
        not_both : {u : State} → Called call ≡ Retired u → ⊥
        not_both e = cc
    by (inr h) = (on.records.0, (call_agrees m log.inputs r (agrees_with log m (CallOf r) (expects_call t r rs log.end h) d)).lawful)

-- ---- a step

step_changes : (log : Log) (m : Moment) → IsOnTrack log m → difference log m ≡ None → Changes m.state (advance m).state (written (step_of m))
step_changes log m on d = by (next m.state) refl
  where
    by : (o : Outcome) → next m.state ≡ o → Changes m.state (after_outcome m o).state (written (step_by m o))
    by (Retired t) e = plain_changes m.time m.state t (fetch m.state) e
    by (Called call) e = call_changes m log.inputs m.left (answered_by log m.time m.state m.done m.left call on d e)
    by (Trapped kind) e = same_memory m.state m.state 0 0 refl refl refl

-- the state of the job's run at a time
abbrev pub state_at : Job → ℕ → State
state_at job t = (moment_after t (start job.start job.log)).state

changes_at : (job : Job) (t : ℕ) → IsJob job → t < steps job.log → Changes (state_at job t) (state_at job (suc t)) (written (step_of (moment_after t (start job.start job.log))))
changes_at job t is below =
    let first = start job.start job.log in
    let m = moment_after t first in
    let last = steps_within job.log.end in
    let on = on_track_at job.log job.start t is.form is.agrees (omega arith) in
    let d = agrees_at job.log (end_at job.log.end + 1) t first is.agrees (omega arith) in
    subst (λ (x : Moment). Changes m.state x.state (written (step_of m))) (sym (moment_later t first)) (step_changes job.log m on.on d)

-- the step that is seen at a time changes no other bytes than those that it writes
pub changed_by : (job : Job) (t : ℕ) (step : StepSeen) → IsJob job → t < steps job.log → step_at (trace_of job) t ≡ Some step → Changes (state_at job t) (state_at job (suc t)) (written step)
changed_by job t step is below e =
    let first = start job.start job.log in
    let own : Some (step_of (moment_after t first)) ≡ Some step = sym (step_at_from (steps job.log) t first below) ∙ e in
    let same : step_of (moment_after t first) ≡ step = cc in
    subst (λ (x : StepSeen). Changes (state_at job t) (state_at job (suc t)) (written x)) same (changes_at job t is below)

-- the window stays where it is
pub same_base : (job : Job) (t : ℕ) → IsJob job → t ≤ steps job.log → (state_at job t).base ≡ job.start.base
same_base job zero is h = refl
same_base job (suc t) is h = (changes_at job t is (omega arith)).base ∙ same_base job t is (omega arith)
