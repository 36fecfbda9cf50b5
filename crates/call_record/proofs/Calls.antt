-- Calls that the recorder answers.
use Rattle.std.proofs.Common.{◌≡◌, ℕ, ◌+◌, ◌-◌, ◌^◌, ◌<◌, ◌≤◌, ◌⊎◌, Bool, true, false, List, [], ◌∷◌, length, get_or, drop, length-take, length-drop, ℤ, pos, negsuc, refl, arith, ap, sym, ◌∙◌, subst}
use Rattle.std.specs.Prelude.{IsTrue, ◌==◌, if◌then◌else◌}
use Rattle.std.specs.List.{AllByRecursion}
use Rattle.std.proofs.lemmas.List.{length-map}
use Rattle.isa.specs.Machine.{State, reg, in_window, bytes_at, call_of}
use Rattle.isa.specs.Calls.{channel_of, refusal_of, refusal, refusal_by}
use Rattle.isa.specs.declared.Call.{Call}
use Rattle.isa.specs.declared.CallKind.{CallKind}
use Rattle.isa.specs.declared.CallKind.TheVariants as kind
use Rattle.log_model.specs.declared.CallRecord.{CallRecord}
use Rattle.log_model.specs.declared.CallRecord.TheVariants.{Read, Write, Other}
use Rattle.log_model.specs.Logs.{IsBytes, IsRecord}
use Rattle.replay_model.specs.Run.{state_after}
use Rattle.replay_model.specs.Comparison.{arguments_of, call_event, IsLawful}
use Rattle.replay_model.proofs.Transfers.{IsHeld, read_held}
use Rattle.record_model.specs.Recorded.{part_of}
use Rattle.record_model.specs.Calls.{result_of, bytes_of, read_record, write_record, record_at}
use Rattle.record_model.proofs.Calls.{CanBe, can_be, none_is, Moves, read_form, write_form, read_lawful, part_few, part_within, bytes_few, unrefused_held}
use Rattle.rv_machine.specs.Hart.{Hart, running}
use Rattle.call_record.specs.Sources.{contents, IsSource}
use Rattle.call_record.specs.Tapes.{Adds}
use Rattle.call_record.specs.Steps.{Point, point_of, IsSafe, IsCalled, WaitsFor, due_record, Keeps, Records}
use Rattle.call_record.specs.declared.source.Source.{Source}
use Rattle.call_record.specs.declared.tape.Tape.{Tape}
use Rattle.call_record.specs.declared.recorder.Recorder.{Recorder}

args_are : (s : State) (call : Call) → call ≡ call_of s → call.args ≡ arguments_of s
args_are s call e = ap (λ (x : Call). x.args) e

-- the arguments are words
pub words_are : (args : List ℕ) → length args ≡ 3 → get_or args 0 0 < 2 ^ 32 → get_or args 1 0 < 2 ^ 32
    → get_or args 2 0 < 2 ^ 32 → AllByRecursion (λ n. n < 2 ^ 32) args
words_are (x ∷ y ∷ z ∷ []) e a b c = (a, (b, (c, tt)))
words_are args e a b c = absurd (omega arith)

-- a record that its call gets
pub record IsGot (source : Source) (t : ℕ) (values : List ℕ) (p : Point) (made : CallRecord) : Type 0 where
  pub is_due : made ≡ due_record source t values p
  pub form : IsRecord made

got_at : (source : Source) (t : ℕ) (values : List ℕ) (p : Point) (k : CallKind) (made : CallRecord)
    → (call_of p.state).kind ≡ k
    → made ≡ record_at (contents source.inputs.now) source.piece (get_or p.counts (reg p.state 10) 0) values t p.state k
    → IsRecord (record_at (contents source.inputs.now) source.piece (get_or p.counts (reg p.state 10) 0) values t
    p.state k) → IsGot source t values p made
got_at source t values p k made kind e form = record {
  is_due = e ∙ ap (record_at (contents source.inputs.now) source.piece (get_or p.counts (reg p.state 10) 0) values t
      p.state) (sym kind);
  form = subst IsRecord (sym e) form;
}

-- ---- reads

-- the refusal of a call of this kind
refused_by : {hart : Hart} {call : Call} {k : CallKind} (refused : ℤ) (channels : ℕ) → WaitsFor hart call k → refused ≡ refusal hart.state channels call
    → refused ≡ refusal_by hart.state channels k (arguments_of hart.state)
refused_by {hart} refused channels waits e =
    e ∙ ap (refusal hart.state channels) waits.call_is ∙ ap (λ (k : CallKind). refusal_by hart.state channels k (arguments_of hart.state)) waits.kind_is

-- what is computed for a read: the refusal, the part of the input, the result and the bytes
pub record IsRead (source : Source) (r : Recorder) (call : Call) (outcome : ℤ) (bytes : List ℕ) : Type 0 where
  pub refused : ℤ
  pub channels : ℕ
  pub part : List ℕ
  pub refused_is : refused ≡ refusal r.machine.state channels call
  pub channels_are : channels ≡ length source.inputs.now
  pub part_is : part ≡ part_of (contents source.inputs.now) source.piece (get_or r.counts (get_or call.args 0 0) 0)
      call.args
  pub outcome_is : outcome ≡ result_of refused part
  pub bytes_are : bytes ≡ bytes_of refused part

abbrev whole_of : Source → Recorder → List ℕ
whole_of source r = part_of (contents source.inputs.now) source.piece (get_or r.counts (reg r.machine.state 10) 0)
    (arguments_of r.machine.state)

module _ {source : Source} {r : Recorder} {call : Call} {outcome : ℤ} {bytes : List ℕ} (waits : WaitsFor r.machine call kind.Read)
    (read : IsRead source r call outcome bytes) where
  read_is : (t : ℕ) → Read t call.args outcome bytes ≡ read_record t r.machine.state (length (contents source.inputs.now)) (whole_of source r)
  read_is t =
      let s = r.machine.state in
      let inputs = contents source.inputs.now in
      let args = args_are s call waits.call_is in
      let channels : read.channels ≡ length inputs = read.channels_are ∙ sym (length-map source.inputs.now _) in
      let refused : read.refused ≡ refusal_of s (length inputs) (arguments_of s) =
      refused_by read.refused read.channels waits read.refused_is ∙ ap (λ (n : ℕ). refusal_of s n (arguments_of s)) channels in
      let part : read.part ≡ whole_of source r = read.part_is ∙ ap (λ (w : List ℕ). part_of inputs source.piece (get_or r.counts (get_or w 0 0) 0) w) args in
      rw (read.outcome_is, read.bytes_are, refused, part, args) refl

  -- a read that waits gets what the recorder computes
  pub read_got : {t : ℕ} → IsSource source → IsSafe source (point_of r) → t < 2 ^ 40 → AllByRecursion (λ n. n < 2 ^ 32) call.args → IsBytes bytes
      → IsGot source t [] (point_of r) (Read t call.args outcome bytes)
  read_got {t} is_source safe early words are_bytes =
      let s = r.machine.state in
      let inputs = contents source.inputs.now in
      let there : ℕ = get_or r.counts (reg s 10) 0 in
      let refused : ℤ = refusal_of s (length inputs) (arguments_of s) in
      let is = read_is t in
      let within = part_within inputs source.piece there (arguments_of s) (safe.within (reg s 10)) in
      let most = is_source.short (reg s 10) in
      let same : bytes ≡ bytes_of refused (whole_of source r) = cc in
      let moves : Moves s refused (whole_of source r) = record {
        words = subst (AllByRecursion (λ n. n < 2 ^ 32)) (args_are s call waits.call_is) words;
        are_bytes = subst IsBytes same are_bytes;
        small = omega arith;
      } in
      got_at source t [] (point_of r) kind.Read (Read t call.args outcome bytes) waits.kind_is is
      (read_form t s (length inputs) (whole_of source r) early (part_few inputs source.piece there (arguments_of s)) moves)

  -- a read that moves bytes isn't refused
  pub read_moves : {t : ℕ} → IsRecord (Read t call.args outcome bytes) → 0 < length bytes → IsHeld r.machine.state (length source.inputs.now) call.args (length bytes)
  read_moves {t} form some =
      let s = r.machine.state in
      let channels = length (contents source.inputs.now) in
      let lawful = subst (IsLawful s channels) (sym (read_is t)) (read_lawful t s channels (whole_of source r)) in
      subst (λ (n : ℕ). IsHeld s n call.args (length bytes)) (length-map source.inputs.now _) (read_held s channels t call.args outcome bytes form lawful some)

  -- and its bytes are counted
  pub read_counts : {t : ℕ} → IsSource source → IsSafe source (point_of r) → IsRecord (Read t call.args outcome bytes) → 0 < length bytes
      → (channel_of call.args < 16) × (get_or r.counts (channel_of call.args) 0 + length bytes ≤ 2 ^ 26)
  read_counts is_source safe form some =
      let few = is_source.few in
      let channel = (read_moves form some).channel in
      let most = is_source.short (channel_of call.args) in
      let within = part_within (contents source.inputs.now) source.piece (get_or r.counts (channel_of call.args) 0)
      call.args (safe.within (channel_of call.args)) in
      let all = ap length read.part_is in
      let moved = ap length read.bytes_are in
      let bound = bytes_few read.refused read.part in
      (omega arith, omega arith)

length_if : (b : Bool) (bytes : List ℕ) → (if b then length bytes else 0) ≡ length (if b then bytes else [])
length_if true bytes = refl
length_if false bytes = refl

pub read_records : {source : Source} {t : ℕ} {r : Recorder} {call : Call} {outcome : ℤ} {bytes : List ℕ} {hart : Hart} {counts : List ℕ} {tape : Tape}
    → WaitsFor r.machine call kind.Read → IsGot source t [] (point_of r) (Read t call.args outcome bytes)
    → hart ≡ running (state_after r.machine.state (Read t (arguments_of r.machine.state) outcome bytes))
    → ((c : ℕ) → get_or counts c 0 ≡ get_or r.counts c 0 + (if get_or call.args 0 0 == c then length bytes else 0))
    → Adds r.tape (Read t call.args outcome bytes) tape → Records source t [] (point_of r) (record { machine = hart; counts = counts; tape = tape })
read_records {source} {t} {r} {call} {outcome} {bytes} waits got machine counted adds =
    let s = r.machine.state in
    record {
      made = Read t call.args outcome bytes;
      kind_is = ap call_event waits.kind_is;
      form = got.form;
      is_due = got.is_due;
      values_are = refl;
      keeps = record {
        machine = machine ∙ ap (λ (w : List ℕ). running (state_after s (Read t w outcome bytes))) (sym (args_are s call waits.call_is));
        counts = λ c. counted c ∙ ap (λ (n : ℕ). get_or r.counts c 0 + n) (length_if (get_or call.args 0 0 == c) bytes);
        tape = adds;
      };
    }

-- ---- writes

-- what is computed for a write: the refusal, the bytes in memory where the buffer is in the window, the result and the
-- bytes
pub record IsWritten (r : Recorder) (call : Call) (outcome : ℤ) (bytes : List ℕ) : Type 0 where
  pub refused : ℤ
  pub channels : ℕ
  pub part : List ℕ
  pub refused_is : refused ≡ refusal r.machine.state channels call
  pub part_is : (get_or call.args 2 0 ≡ 0) ⊎ IsTrue
      (in_window r.machine.state (get_or call.args 1 0) (get_or call.args 2 0))
      → part ≡ bytes_at r.machine.state (get_or call.args 1 0) (get_or call.args 2 0)
  pub outcome_is : outcome ≡ result_of refused part
  pub bytes_are : bytes ≡ bytes_of refused part

-- where the call is refused, it doesn't matter which bytes there are
moved_same : (refused : ℤ) (part whole : List ℕ) → CanBe refused → (refused ≡ pos 0 → part ≡ whole)
    → (result_of refused part ≡ result_of refused whole) × (bytes_of refused part ≡ bytes_of refused whole)
moved_same (negsuc n) part whole can same = (refl, refl)
moved_same (pos n) part whole can same = let equal = same (none_is n can) in
    (ap (λ (w : List ℕ). pos (length w)) equal, equal)

module _ {r : Recorder} {call : Call} {outcome : ℤ} {bytes : List ℕ} (waits : WaitsFor r.machine call kind.Write) (written : IsWritten r call outcome bytes) where
  write_is : (t : ℕ) → Write t call.args outcome bytes ≡ write_record t r.machine.state
  write_is t =
      let s = r.machine.state in
      let args = args_are s call waits.call_is in
      let refused : written.refused ≡ refusal_of s 16 (arguments_of s) = refused_by written.refused written.channels waits written.refused_is in
      let there = subst (λ (w : List ℕ). (get_or w 2 0 ≡ 0) ⊎ IsTrue (in_window s (get_or w 1 0) (get_or w 2 0))
      → written.part ≡ bytes_at s (get_or w 1 0) (get_or w 2 0)) args written.part_is in
      let same = moved_same (refusal_of s 16 (arguments_of s)) written.part (bytes_at s (reg s 11) (reg s 12)) (can_be s 16)
      (λ e. there (unrefused_held s 16 e)) in
      rw (written.outcome_is, written.bytes_are, refused, same.0, same.1, args) refl

  -- a write that waits gets what the recorder computes
  pub write_got : {source : Source} {t : ℕ} → IsSafe source (point_of r) → t < 2 ^ 40 → AllByRecursion (λ n. n < 2 ^ 32) call.args → IsBytes bytes
      → IsGot source t [] (point_of r) (Write t call.args outcome bytes)
  write_got {source} {t} safe early words are_bytes =
      let s = r.machine.state in
      let refused : ℤ = refusal_of s 16 (arguments_of s) in
      let whole : List ℕ = bytes_at s (reg s 11) (reg s 12) in
      let is = write_is t in
      let window = safe.window in
      let rest = length-drop (reg s 11 - s.base) s.memory in
      let few = length-take (reg s 12) (drop (reg s 11 - s.base) s.memory) in
      let same : bytes ≡ bytes_of refused whole = cc in
      let moves : Moves s refused whole = record {
        words = subst (AllByRecursion (λ n. n < 2 ^ 32)) (args_are s call waits.call_is) words;
        are_bytes = subst IsBytes same are_bytes;
        small = omega arith;
      } in
      got_at source t [] (point_of r) kind.Write (Write t call.args outcome bytes) waits.kind_is is (write_form t s early moves)

nothing : (b : Bool) (xs ys : List ℕ) → length xs ≡ 0 → length ys ≡ 0 → length (if b then xs else ys) ≡ 0
nothing true xs ys p q = p
nothing false xs ys p q = q

pub write_records : {source : Source} {t : ℕ} {r : Recorder} {call : Call} {outcome : ℤ} {bytes : List ℕ} {hart : Hart} {tape : Tape}
    → WaitsFor r.machine call kind.Write → IsGot source t [] (point_of r) (Write t call.args outcome bytes)
    → hart ≡ running (state_after r.machine.state (Write t call.args outcome bytes)) → Adds r.tape (Write t call.args outcome bytes) tape
    → Records source t [] (point_of r) (record { machine = hart; counts = r.counts; tape = tape })
write_records {source} {t} {r} {call} {outcome} {bytes} waits got machine adds = record {
  made = Write t call.args outcome bytes;
  kind_is = ap call_event waits.kind_is;
  form = got.form;
  is_due = got.is_due;
  values_are = refl;
  keeps = record {
    machine = machine;
    counts = λ c. let none = nothing (get_or call.args 0 0 == c) [] [] refl refl in omega arith;
    tape = adds;
  };
}

-- ---- other calls

-- the call that the machine made waits, and is of its kind
pub waits_for : {hart : Hart} {call : Call} {k : CallKind} → IsCalled hart call → call.kind ≡ k → WaitsFor hart call k
waits_for h e = record { waits = h.waits; call_is = h.call_is; kind_is = sym (ap (λ (x : Call). x.kind) h.call_is) ∙ e }

pub other_records : (source : Source) (t : ℕ) (p : Point) (number : ℕ) (after : Recorder) → t < 2 ^ 40 → number < 2 ^ 32
    → (call_of p.state).kind ≡ kind.Other → number ≡ reg p.state 17 → Keeps (Other t number) p after
    → Records source t [] p after
other_records source t p number after early fits k e keeps = record {
  made = Other t number;
  kind_is = ap call_event k;
  form = (early, fits);
  is_due = (got_at source t [] p kind.Other (Other t number) k (ap (Other t) e)
      (early, subst (λ (n : ℕ). n < 2 ^ 32) e fits)).is_due;
  values_are = refl;
  keeps = keeps;
}
