-- The offsets of a trace's calls count the bytes that the run moves. Crates above cite these lemmas.
use Rattle.std.proofs.Common.{◌≡◌, ℕ, zero, suc, ◌+◌, ◌<◌, ◌≤◌, Bool, List, [], ◌∷◌, ◌++◌, length, Some, None, refl, arith, ap, sym, ◌∙◌, subst}
use Rattle.std.specs.Prelude.{◌==◌, if◌then◌else◌}
use Rattle.std.proofs.lemmas.Bool.{eq-eqb, ne_eqb}
use Rattle.isa.specs.declared.CallKind.{CallKind}
use Rattle.isa.specs.declared.CallKind.TheVariants as kind
use Rattle.isa.specs.Machine.{State, Outcome, Retired, Called, Trapped, next, Fetch, Fetched, fetch}
use Rattle.isa.specs.Calls.{channel_of}
use Rattle.log_model.specs.declared.CallRecord.{CallRecord}
use Rattle.log_model.specs.declared.CallRecord.TheVariants.{Read, Write}
use Rattle.log_model.specs.declared.RunEnd.{RunEnd}
use Rattle.log_model.specs.declared.RunEnd.TheVariants.{Exit}
use Rattle.log_model.specs.Logs.{Log, IsLog, end_at, steps, steps_by}
use Rattle.log_model.specs.Moved.{received, written}
use Rattle.flow_model.specs.declared.StepSeen.{StepSeen}
use Rattle.flow_model.specs.declared.CallSeen.{CallSeen}
use Rattle.flow_model.specs.Origins.{step_at}
use Rattle.replay_model.specs.Run.{Moment, start, advance, after_outcome, after_call, moment_after, transfer, call_seen, plain_step, step_by, step_of, steps_from, trace}
use Rattle.replay_model.specs.Comparison.{divergence}
use Rattle.replay_model.specs.Offsets.{call_at, records_before, OffsetsCount, AreWritesApart}
use Rattle.log_model.proofs.Moved.{length-received-push, length-written-push}
use Rattle.replay_model.proofs.Track.{done_is, on_track_at}

-- ---- the steps of a trace, by their times

pub step_at_from : (n k : ℕ) (m : Moment) → k < n → step_at (steps_from n m) k ≡ Some (step_of (moment_after k m))
step_at_from zero k m h = absurd (omega arith)
step_at_from (suc n) zero m h = refl
step_at_from (suc n) (suc k) m h = step_at_from n k (advance m) (omega arith)

pub moment_later : (k : ℕ) (m : Moment) → moment_after (suc k) m ≡ advance (moment_after k m)
moment_later zero m = refl
moment_later (suc k) m = moment_later k (advance m)

pub in_trace : (ss : List StepSeen) (k : ℕ) (call : CallSeen) → call_at ss k ≡ Some call → k < length ss
in_trace [] k call e = cc
in_trace (s ∷ ss) zero call e = omega arith
in_trace (s ∷ ss) (suc k) call e = let h = in_trace ss k call e in omega arith

pub length-steps_from : (n : ℕ) (m : Moment) → length (steps_from n m) ≡ n
length-steps_from zero m = refl
length-steps_from (suc n) m = ap suc (length-steps_from n (advance m))

pub steps_within : (end : RunEnd) → steps_by end ≤ end_at end + 1
steps_within (Exit at code) = omega arith
steps_within end = omega arith

-- ---- a call that moves bytes has as its offset how many were moved before

pub transfer_offset : (k : CallKind) (args before : List ℕ) (n : ℕ) → 0 < n → (transfer k args before n).offset ≡ length before
transfer_offset k args before n h = ap (λ (b : Bool). if b then 0 else length before) (ne_eqb n 0 (λ e. omega arith))

pub no_call : (t : ℕ) (s : State) (f : Fetch) → (plain_step t s f).call ≡ None
no_call t s (Fetched i) = refl
no_call t s f = refl

-- a call's bytes come after those moved before, and those moved after it come after them
pub record IsMoved (moved : ℕ → List CallRecord → List ℕ) (call : CallSeen) (before after : List CallRecord) : Type 0 where
  pub offset_is : call.offset ≡ length (moved call.channel before)
  pub after_is : length (moved call.channel after) ≡ call.offset + call.length

transferred : (moved : ℕ → List CallRecord → List ℕ) (k : CallKind) (args bytes : List ℕ) (before after : List CallRecord) (call : CallSeen)
    → transfer k args (moved (channel_of args) before) (length bytes) ≡ call → length (moved (channel_of args) after) ≡ length (moved (channel_of args) before) + length bytes
    → 0 < call.length → IsMoved moved call before after
transferred moved k args bytes before after call e more h = subst (λ (x : CallSeen). 0 < x.length → IsMoved moved x before after) e here h
  where
    here : 0 < length bytes → IsMoved moved (transfer k args (moved (channel_of args) before) (length bytes)) before after
    here some = let first = transfer_offset k args (moved (channel_of args) before) (length bytes) some in record { offset_is = first; after_is = omega arith }

own_bytes : (channel : ℕ) (bytes : List ℕ) → length (if channel == channel then bytes else []) ≡ length bytes
own_bytes channel bytes = ap (λ (b : Bool). length (if b then bytes else [])) (eq-eqb channel channel refl)

read_by : (m : Moment) (left : List CallRecord) (call : CallSeen) → call_seen m left ≡ call → call.kind ≡ kind.Read → 0 < call.length → IsMoved received call m.done (after_call m left).done
read_by m (Read at args result bytes ∷ rs) call e k h =
    let r = Read at args result bytes in
    transferred received kind.Read args bytes m.done (m.done ++ r ∷ []) call e (omega (arith, length-received-push (channel_of args) m.done r, own_bytes (channel_of args) bytes)) h
read_by m left call e k h = let other = ap (λ (x : CallSeen). x.kind) e ∙ k in cc

write_by : (m : Moment) (left : List CallRecord) (call : CallSeen) → call_seen m left ≡ call → call.kind ≡ kind.Write → 0 < call.length → IsMoved written call m.done (after_call m left).done
write_by m (Write at args result bytes ∷ rs) call e k h =
    let r = Write at args result bytes in
    transferred written kind.Write args bytes m.done (m.done ++ r ∷ []) call e (omega (arith, length-written-push (channel_of args) m.done r, own_bytes (channel_of args) bytes)) h
write_by m left call e k h = let other = ap (λ (x : CallSeen). x.kind) e ∙ k in cc

pub call_of_plain : {P : Type 0} (m : Moment) (call : CallSeen) → (plain_step m.time m.state (fetch m.state)).call ≡ Some call → P
call_of_plain m call e = let none = no_call m.time m.state (fetch m.state) in cc

-- a step that has a call is one
pub called_by : (m : Moment) (o : Outcome) (call : CallSeen) (P : Moment → Type 0) → (step_by m o).call ≡ Some call → (call_seen m m.left ≡ call → P (after_call m m.left)) → P (after_outcome m o)
called_by m (Retired s) call P e h = call_of_plain m call e
called_by m (Called c) call P e h = h (cc)
called_by m (Trapped t) call P e h = cc

pub read_here : (m : Moment) (o : Outcome) (call : CallSeen) → (step_by m o).call ≡ Some call → call.kind ≡ kind.Read → 0 < call.length → IsMoved received call m.done (after_outcome m o).done
read_here m o call e k h = called_by m o call (λ x. IsMoved received call m.done x.done) e (λ seen. read_by m m.left call seen k h)

write_here : (m : Moment) (o : Outcome) (call : CallSeen) → (step_by m o).call ≡ Some call → call.kind ≡ kind.Write → 0 < call.length → IsMoved written call m.done (after_outcome m o).done
write_here m o call e k h = called_by m o call (λ x. IsMoved written call m.done x.done) e (λ seen. write_by m m.left call seen k h)

-- ---- along the trace

-- the step of a call, and the moment that it is done at
pub at_moment : (n k : ℕ) (m : Moment) (call : CallSeen) → call_at (steps_from n m) k ≡ Some call → (step_of (moment_after k m)).call ≡ Some call
at_moment zero k m call e = cc
at_moment (suc n) zero m call e = e
at_moment (suc n) (suc k) m call e = at_moment n k (advance m) call e

pub offsets_count : (s : State) (log : Log) → IsLog log → divergence s log ≡ None → OffsetsCount (trace s log) log.records
offsets_count s log form d =
    let last = steps_within log.end in
    let size = length-steps_from (steps log) (start s log) in
    let before : (k : ℕ) (call : CallSeen) → call_at (trace s log) k ≡ Some call → (moment_after k (start s log)).done ≡ records_before k log.records = λ k call e.
    let within = in_trace (trace s log) k call e in
    let on = on_track_at log s k form d (omega arith) in
    done_is log (moment_after k (start s log)) on.on ∙ ap (λ (t : ℕ). records_before t log.records) on.time
    in
    record {
      reads = λ k call e i h.
          let m = moment_after k (start s log) in
          (read_here m (next m.state) call (at_moment (steps log) k (start s log) call e) i h).offset_is ∙ ap (λ (rs : List CallRecord). length (received call.channel rs)) (before k call e);
      writes = λ k call e i h.
          let m = moment_after k (start s log) in
          (write_here m (next m.state) call (at_moment (steps log) k (start s log) call e) i h).offset_is ∙ ap (λ (rs : List CallRecord). length (written call.channel rs)) (before k call e);
    }

-- ---- no byte is written twice

-- what is written stays written
grows_called : (channel : ℕ) (m : Moment) (left : List CallRecord) → length (written channel m.done) ≤ length (written channel (after_call m left).done)
grows_called channel m [] = omega arith
grows_called channel m (r ∷ rs) = omega (arith, length-written-push channel m.done r)

grows : (channel : ℕ) (m : Moment) (o : Outcome) → length (written channel m.done) ≤ length (written channel (after_outcome m o).done)
grows channel m (Retired s) = omega arith
grows channel m (Called c) = grows_called channel m m.left
grows channel m (Trapped t) = omega arith

grows_to : (channel k : ℕ) (m : Moment) → length (written channel m.done) ≤ length (written channel (moment_after k m).done)
grows_to channel zero m = omega arith
grows_to channel (suc k) m = omega (arith, grows channel m (next m.state), grows_to channel k (advance m))

apart_from : (n j k : ℕ) (m : Moment) (a b : CallSeen) → j < k → call_at (steps_from n m) j ≡ Some a → call_at (steps_from n m) k ≡ Some b → a.kind ≡ kind.Write → b.kind ≡ kind.Write → 0 < a.length → 0 < b.length → a.channel ≡ b.channel → a.offset + a.length ≤ b.offset
apart_from zero j k m a b h ea eb ka kb la lb same = cc
apart_from (suc n) j zero m a b h ea eb ka kb la lb same = absurd (omega arith)
apart_from (suc n) zero (suc k) m a b h ea eb ka kb la lb same =
    let later = moment_after k (advance m) in
    let first = (write_here m (next m.state) a ea ka la).after_is in
    let second = (write_here later (next later.state) b (at_moment n k (advance m) b eb) kb lb).offset_is in
    let between = grows_to a.channel k (advance m) in
    let there : length (written b.channel later.done) ≡ length (written a.channel later.done) = ap (λ (c : ℕ). length (written c later.done)) (sym same) in
    omega arith
apart_from (suc n) (suc j) (suc k) m a b h ea eb ka kb la lb same = apart_from n j k (advance m) a b (omega arith) ea eb ka kb la lb same

pub writes_apart : (s : State) (log : Log) → AreWritesApart (trace s log)
writes_apart s log = record { follow = λ j k a b h. apart_from (steps log) j k (start s log) a b h }
