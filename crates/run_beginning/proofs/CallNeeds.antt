-- What one call of a run needs.
use Rattle.std.proofs.Common.{◌≡◌, ℕ, ◌+◌, ◌<◌, ◌≤◌, Bool, true, false, ◌||◌, List, [], ◌∷◌, length, map, refl, ap, ap₂, sym, ◌∙◌, arith, cond}
use Rattle.std.specs.Prelude.{nat_lt, Option, Some, if◌then◌else◌, ℤ}
use Rattle.std.specs.List.{filter, list_any, range_with_len}
use Rattle.std.proofs.lemmas.Bool.{lt-ltb}
use Rattle.isa.specs.declared.CallKind.TheVariants as kind
use Rattle.isa.specs.Machine.{State, Outcome, Retired, fetch, reg, bytes_at}
use Rattle.isa.specs.Calls.{channel_of}
use Rattle.log_model.specs.declared.CallRecord.{CallRecord}
use Rattle.log_model.specs.declared.CallRecord.TheVariants.{Write}
use Rattle.log_model.specs.Logs.{IsRecord, at_of}
use Rattle.log_model.specs.Moved.{written}
use Rattle.flow_model.specs.declared.CallSeen.{CallSeen}
use Rattle.report_model.specs.Query.{Query, has_sink}
use Rattle.report_model.specs.Rows.{Sink, sink_at, sinks_of_step}
use Rattle.report_model.proofs.Needed.{needed_by}
use Rattle.replay_model.specs.Run.{Moment, step_by, call_seen, transfer}
use Rattle.replay_model.specs.Comparison.{bytes_compared}
use Rattle.replay_model.proofs.Agreement.{CallAgrees}
use Rattle.replay_model.proofs.Track.{moment}
use Rattle.replay_model.proofs.Transfers.{write_held}
use Rattle.replay_model.proofs.Offsets.{transfer_offset, no_call}
use Rattle.run_beginning.specs.Need.{output_byte, output_bytes, bytes_of_call, steps_for_call, written_before}

-- those of some sinks that the query chooses
abbrev chosen : Query → List Sink → List Sink
chosen q xs = filter (λ x. has_sink q x.name) xs

most : (b : Bool) (t : ℕ) → (if b then t + 1 else 0) ≤ t + 1
most true t = omega arith
most false t = omega arith

-- ---- the bytes of a write

some_need : (q : Query) (t : ℕ) (call : CallSeen) (is : List ℕ)
    → needed_by (chosen q (map (sink_at t call) is)) ≡ (if list_any (has_sink q) (map (output_byte call.channel call.offset) is) then t + 1 else 0)
some_need q t call [] = refl
some_need q t call (i ∷ is) = by (has_sink q (output_byte call.channel call.offset i)) (some_need q t call is) where
  any : Bool
  any = list_any (has_sink q) (map (output_byte call.channel call.offset) is)

  rest : List Sink
  rest = chosen q (map (sink_at t call) is)

  by : (b : Bool) → needed_by rest ≡ (if any then t + 1 else 0) → needed_by (cond b (sink_at t call i ∷ rest) rest) ≡ (if b || any then t + 1 else 0)
  by true e = omega (arith, e, most any t)
  by false e = e

none_of : (b : Bool) (q : Query) (c o : ℕ) → list_any (has_sink q) (output_bytes b c o 0) ≡ false
none_of true q c o = refl
none_of false q c o = refl

write_needs : (q : Query) (t : ℕ) (call : CallSeen) (c o n : ℕ) → call.channel ≡ c → call.offset ≡ o → c < 16
    → needed_by (chosen q (map (sink_at t call) (range_with_len 0 n))) ≡ (if list_any (has_sink q) (output_bytes (nat_lt c 16) c o n) then t + 1 else 0)
write_needs q t call c o n e f below =
    some_need q t call (range_with_len 0 n)
    ∙ ap₂ (λ (d p : ℕ). if list_any (has_sink q) (map (output_byte d p) (range_with_len 0 n)) then t + 1 else 0) e f
    ∙ ap (λ (b : Bool). if list_any (has_sink q) (output_bytes b c o n) then t + 1 else 0) (sym (lt-ltb c 16 below))

-- ---- a call that the record answers

module _ (q : Query) (inputs t : ℕ) (s : State) (done : List CallRecord) where
  written_needs : (at : ℕ) (args : List ℕ) (result : ℤ) (bytes : List ℕ) (rs : List CallRecord) → IsRecord (Write at args result bytes) → CallAgrees (moment t s done (Write at args result bytes ∷ rs)) inputs (Write at args result bytes)
      → needed_by (chosen q (sinks_of_step t (Some (call_seen (moment t s done (Write at args result bytes ∷ rs)) (Write at args result bytes ∷ rs)))))
      ≡ (if list_any (has_sink q) (output_bytes (nat_lt (channel_of args) 16) (channel_of args) (written_before done (channel_of args)) (length bytes)) then t + 1 else 0)
  written_needs at args result [] rs form agreed = ap (λ (b : Bool). if b then t + 1 else 0) (sym (none_of (nat_lt (channel_of args) 16) q (channel_of args) (written_before done (channel_of args))))
  written_needs at args result (b ∷ bytes) rs form agreed =
      let all = b ∷ bytes in
      let before = written (channel_of args) done in
      let some : 0 < length all = omega arith in
      let held = write_held s inputs at args result all (bytes_compared 0 all (bytes_at s (reg s 11) (length all))) form agreed.lawful some in
      write_needs q t (transfer kind.Write args before (length all)) (channel_of args) (length before) (length all) refl (transfer_offset kind.Write args before (length all) some) held.channel

  pub call_needs : (r : CallRecord) (rs : List CallRecord) → at_of r ≡ t → IsRecord r → CallAgrees (moment t s done (r ∷ rs)) inputs r
      → needed_by (chosen q (sinks_of_step t (Some (call_seen (moment t s done (r ∷ rs)) (r ∷ rs))))) ≡ steps_for_call q (written_before done) r
  call_needs (Write at args result bytes) rs e form agreed =
      written_needs at args result bytes rs form agreed
      ∙ ap (λ (n : ℕ). if list_any (has_sink q) (bytes_of_call (written_before done) (Write at args result bytes)) then n + 1 else 0) (sym e)
  call_needs r rs e form agreed = refl

-- ---- steps that are no such call

pub plain_needs : (q : Query) (t : ℕ) (m : Moment) (s : State) → needed_by (chosen q (sinks_of_step t (step_by m (Retired s)).call)) ≡ 0
plain_needs q t m s = ap (λ (o : Option CallSeen). needed_by (chosen q (sinks_of_step t o))) (no_call m.time m.state (fetch m.state))

-- with no record left a step writes nothing
pub last_needs : (q : Query) (t : ℕ) (s : State) (done : List CallRecord) (o : Outcome) → needed_by (chosen q (sinks_of_step t (step_by (moment t s done []) o).call)) ≡ 0
last_needs q t s done (Retired after) = plain_needs q t (moment t s done []) after
last_needs q t s done o = refl
