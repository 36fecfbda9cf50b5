-- The source bytes that a trace reads are those that the log's records received, and they are of its channels. Crates
-- above cite these lemmas.
use Rattle.std.proofs.Common.{◌≡◌, ℕ, zero, suc, ◌+◌, ◌^◌, ◌<◌, ◌≤◌, ◌⊎◌, inl, inr, Bool, true, false, List, [], ◌∷◌, ◌++◌, length, None, refl, arith, ap, sym, ◌∙◌, subst, add-one, zero-add, append-nil, append_assoc}
use Rattle.std.specs.Prelude.{if◌then◌else◌, ◌==◌}
use Rattle.std.proofs.lemmas.Bool.{cases_lt, eqb-true}
use Rattle.std.proofs.lemmas.List.{nil_from_length}
use Rattle.isa.specs.declared.CallKind.TheVariants as kind
use Rattle.isa.specs.Machine.{State, Outcome, next}
use Rattle.isa.specs.Calls.{channel_of}
use Rattle.log_model.specs.declared.Version.TheVariants.{Two}
use Rattle.log_model.specs.declared.CallRecord.{CallRecord}
use Rattle.log_model.specs.declared.CallRecord.TheVariants.{Read, Write}
use Rattle.log_model.specs.Logs.{Log, IsLog, IsRecord, CanHold, log_text, at_of, end_at, steps}
use Rattle.log_model.specs.Moved.{received, received_by}
use Rattle.log_model.proofs.Moved.{length-received-push, length-received-append}
use Rattle.flow_model.specs.declared.StepSeen.{StepSeen}
use Rattle.replay_model.specs.Run.{Moment, start, advance, after_call, moment_after, transfer, step_by, step_of, steps_from, trace}
use Rattle.replay_model.specs.Comparison.{PlainStep, CallOf, difference, divergence_from, divergence}
use Rattle.replay_model.specs.Received.{ReadsByteAt, ReadsAreReceived}
use Rattle.replay_model.proofs.Agreement.{expects_plain_before, expects_call, plain_agrees, CallAgrees, call_agrees, agrees_at, later_agrees}
use Rattle.replay_model.proofs.Track.{moment, IsOnTrack, agrees_with, least_rises, advance_plain, advance_call, step_time, stays_on, on_track_at, on_track_start}
use Rattle.replay_model.proofs.Transfers.{read_held}
use Rattle.log_model.proofs.Texts.{can_hold}
use Rattle.log_model.proofs.Ends.{end_at-le-steps_by}
use Rattle.replay_model.proofs.Offsets.{at_moment, in_trace, length-steps_from, steps_within, transfer_offset, called_by, read_here}

-- ---- a byte that was received is read by a step

-- a byte that these steps read, of one of so many channels
record IsFound (steps : List StepSeen) (inputs channel offset : ℕ) : Type 0 where
  k : ℕ
  reads : ReadsByteAt steps channel offset k
  below : channel < inputs

found_later : (s : StepSeen) (steps : List StepSeen) (inputs channel offset : ℕ) → IsFound steps inputs channel offset → IsFound (s ∷ steps) inputs channel offset
found_later s steps inputs channel offset f =
    let r = f.reads in
    record { k = suc f.k; reads = record { call = r.call; there = r.there; reads = r.reads; on = r.on; from = r.from; to = r.to }; below = f.below }

read_if : (b : Bool) (bytes : List ℕ) → 0 < length (if b then bytes else []) → (b ≡ true) × ((if b then bytes else []) ≡ bytes)
read_if true bytes some = (refl, refl)
read_if false bytes some = absurd (omega arith)

nothing_if : (b : Bool) (xs : List ℕ) → (if b then xs else xs) ≡ xs
nothing_if true xs = refl
nothing_if false xs = refl

module _ (log : Log) (channel offset : ℕ) (below : offset < length (received channel log.records)) where
  -- the call that is made now reads it
  found_here : (q t : ℕ) (s : State) (done : List CallRecord) (r : CallRecord) (rs : List CallRecord) → IsRecord r → CallAgrees (moment t s done (r ∷ rs)) log.inputs r
      → length (received channel done) ≤ offset → offset < length (received channel (done ++ r ∷ [])) → IsFound (steps_from (suc q) (moment t s done (r ∷ rs))) log.inputs channel offset
  found_here q t s done (Read at args result bytes) rs form agreed from to =
      let m = moment t s done (Read at args result bytes ∷ rs) in
      let own : 0 < length (received_by channel (Read at args result bytes)) = omega (arith, length-received-push channel done (Read at args result bytes)) in
      let both = read_if (channel_of args == channel) bytes own in
      let on : channel_of args ≡ channel = eqb-true (channel_of args) channel both.0 in
      let size : length (received_by channel (Read at args result bytes)) ≡ length bytes = ap length both.1 in
      let some : 0 < length bytes = omega (arith, size, own) in
      let first = transfer_offset kind.Read args (received (channel_of args) done) (length bytes) some in
      let same : length (received (channel_of args) done) ≡ length (received channel done) = ap (λ (c : ℕ). length (received c done)) on in
      record {
        k = 0;
        reads = record {
          call = transfer kind.Read args (received (channel_of args) done) (length bytes);
          there = ap (λ (o : Outcome). (step_by m o).call) agreed.calls;
          reads = refl;
          on = on;
          from = omega (arith, first, same, from);
          to = omega (arith, first, same, size, to, length-received-push channel done (Read at args result bytes));
        };
        below = subst (λ (c : ℕ). c < log.inputs) on (read_held s log.inputs at args result bytes form agreed.lawful some).channel;
      }
  found_here q t s done (Write at args result bytes) rs form agreed from to =
      absurd (omega (arith, length-received-push channel done (Write at args result bytes), ap length (nothing_if (channel_of args == channel) [])))
  found_here q t s done r rs form agreed from to = absurd (omega (arith, length-received-push channel done r))

  -- one of the next q steps reads it, where it isn't received yet n steps before the end
  abbrev Finds : ℕ → ℕ → Type 0
  Finds n q = (m : Moment) → IsOnTrack log m → m.time + n ≡ end_at log.end → divergence_from log (suc n) m ≡ None → length (received channel m.done) ≤ offset → IsFound (steps_from q m) log.inputs channel offset

  -- before it is received a record is left
  some_left : (done : List CallRecord) → done ++ [] ≡ log.records → length (received channel done) ≤ offset → ⊥
  some_left done all few = omega (arith, below, ap (λ (rs : List CallRecord). length (received channel rs)) (sym (append-nil done) ∙ all))

  found_next : (n q t : ℕ) (s : State) (done left : List CallRecord) → Finds n q → IsOnTrack log (moment t s done left) → t + suc n ≡ end_at log.end → divergence_from log (suc (suc n)) (moment t s done left) ≡ None
      → length (received channel done) ≤ offset → IsFound (steps_from (suc q) (moment t s done left)) log.inputs channel offset
  found_next n q t s done [] ih on end d few = absurd (some_left done on.all few)
  found_next n q t s done (r ∷ rs) ih on end d few = by (cases_lt t (at_of r))
    where
      m : Moment
      m = moment t s done (r ∷ rs)

      agrees : difference log m ≡ None
      agrees = agrees_at log (suc (suc n)) 0 m d (omega arith)

      later : length (received channel (advance m).done) ≤ offset → IsFound (steps_from (suc q) m) log.inputs channel offset
      later h =
          let time = step_time log m (omega arith) agrees in
          found_later (step_of m) (steps_from q (advance m)) log.inputs channel offset (ih (advance m) (stays_on log m on (omega arith) agrees) (omega arith) (later_agrees log (suc n) m d) h)

      called : CallAgrees m log.inputs r → (offset < length (received channel (done ++ r ∷ []))) ⊎ (length (received channel (done ++ r ∷ [])) ≤ offset) → IsFound (steps_from (suc q) m) log.inputs channel offset
      called agreed (inl h) = found_here q t s done r rs on.records.0 agreed few h
      called agreed (inr h) = later (subst (λ (x : Moment). length (received channel x.done) ≤ offset) (sym (advance_call m agreed.call agreed.calls)) h)

      by : (t < at_of r) ⊎ (at_of r ≤ t) → IsFound (steps_from (suc q) m) log.inputs channel offset
      by (inl h) =
          let plain = plain_agrees m log.inputs (agrees_with log m PlainStep (expects_plain_before t r rs log.end h) agrees) in
          later (subst (λ (x : Moment). length (received channel x.done) ≤ offset) (sym (advance_plain m plain.0 plain.1)) few)
      by (inr h) = called (call_agrees m log.inputs r (agrees_with log m (CallOf r) (expects_call t r rs log.end h) agrees)) (cases_lt offset (length (received channel (done ++ r ∷ []))))

  -- at the end no record is left
  at_the_end : (t : ℕ) (s : State) (done left : List CallRecord) → IsOnTrack log (moment t s done left) → t ≡ end_at log.end → length (received channel done) ≤ offset → ⊥
  at_the_end t s done [] on e few = some_left done on.all few
  at_the_end t s done (r ∷ rs) on e few = omega (arith, e, on.rise.0, on.ends_after, least_rises (at_of r + 1) rs on.rise.1)

  found : (n q : ℕ) → n ≤ q → Finds n q
  found zero q h m on end d few = absurd (at_the_end m.time m.state m.done m.left on (omega arith) few)
  found (suc n) zero h m on end d few = absurd (omega arith)
  found (suc n) (suc q) h m on end d few = found_next n q m.time m.state m.done m.left (found n q (omega arith)) on end d few

found_in_trace : (s : State) (log : Log) → IsLog log → divergence s log ≡ None → (channel offset : ℕ) → offset < length (received channel log.records) → IsFound (trace s log) log.inputs channel offset
found_in_trace s log form d channel offset below =
    let none : divergence_from log (suc (end_at log.end)) (start s log) ≡ None = subst (λ (n : ℕ). divergence_from log n (start s log) ≡ None) (add-one (end_at log.end)) d in
    found log channel offset below (end_at log.end) (steps log) (end_at-le-steps_by log.end) (start s log) (on_track_start log s form) (zero-add (end_at log.end)) none (omega arith)

-- ---- a byte that a step reads was received

part_of_all : (channel : ℕ) (m : Moment) (left records : List CallRecord) → m.done ++ left ≡ records → length (received channel (after_call m left).done) ≤ length (received channel records)
part_of_all channel m [] records all = omega (arith, ap (λ (rs : List CallRecord). length (received channel rs)) (sym (append-nil m.done) ∙ all))
part_of_all channel m (r ∷ rs) records all =
    omega (arith, length-received-append channel (m.done ++ r ∷ []) rs, ap (λ (xs : List CallRecord). length (received channel xs)) (append_assoc m.done (r ∷ []) rs ∙ all))

received_by_trace : (s : State) (log : Log) → IsLog log → divergence s log ≡ None → (channel offset k : ℕ) → ReadsByteAt (trace s log) channel offset k → offset < length (received channel log.records)
received_by_trace s log form d channel offset k r =
    let m = moment_after k (start s log) in
    let within = in_trace (trace s log) k r.call r.there in
    let size = length-steps_from (steps log) (start s log) in
    let last = steps_within log.end in
    let on = on_track_at log s k form d (omega arith) in
    let from = r.from in
    let to = r.to in
    let there = at_moment (steps log) k (start s log) r.call r.there in
    let moved = read_here m (next m.state) r.call there r.reads (omega arith) in
    let after = moved.after_is in
    let all = called_by m (next m.state) r.call (λ x. length (received r.call.channel x.done) ≤ length (received r.call.channel log.records)) there
    (λ seen. part_of_all r.call.channel m m.left log.records on.on.all) in
    let same : length (received r.call.channel log.records) ≡ length (received channel log.records) = ap (λ (c : ℕ). length (received c log.records)) r.on in
    omega arith

-- ---- the laws

pub reads_are_received : (s : State) (log : Log) → IsLog log → divergence s log ≡ None → ReadsAreReceived (trace s log) log.records
reads_are_received s log form d channel offset = (
  (λ received. received_by_trace s log form d channel offset received.0 received.1),
  (λ below. let f = found_in_trace s log form d channel offset below in (f.k, f.reads)),
)

-- nothing is received on a channel that isn't one of the log's
pub none_received : (s : State) (log : Log) → IsLog log → divergence s log ≡ None → (channel : ℕ) → log.inputs ≤ channel → received channel log.records ≡ []
none_received s log form d channel above = elim (cases_lt 0 (length (received channel log.records))) [
  | inl some ↦ absurd (omega (arith, (found_in_trace s log form d channel 0 some).below))
  | inr none ↦ nil_from_length (received channel log.records) (omega arith)
]

pub fitting_is_held : (s : State) (log : Log) → IsLog log → divergence s log ≡ None → length (log_text Two log) ≤ 2 ^ 27 → CanHold Two log
fitting_is_held s log form d small = can_hold log (none_received s log form d) (omega arith)
