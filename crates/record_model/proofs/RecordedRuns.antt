-- Every run that can be recorded has a recording. Crates above cite these lemmas.
use Rattle.std.proofs.Common.{◌≡◌, ℕ, zero, suc, ◌+◌, ◌^◌, ◌<◌, ◌≤◌, List, [], ◌∷◌, ◌++◌, length, map, drop, ℤ, pos, negsuc, Option, Some, None, refl, arith, ap, sym, ◌∙◌, subst, append-nil, length-take, length-drop}
use Rattle.std.specs.Prelude.{min, IsSome}
use Rattle.std.specs.Int.{w32, to_be_bytes}
use Rattle.std.specs.List.{AllByRecursion, range_with_len}
use Rattle.std.proofs.lemmas.List.FromFn.{map-range_with_len_more}
use Rattle.lists.proofs.Lists.{all-append}
use Rattle.isa.specs.Machine.{State, Outcome, Retired, Called, Trapped, next, reg, bytes_at, call_of}
use Rattle.isa.specs.declared.Call.{Call}
use Rattle.isa.specs.declared.CallKind.{CallKind}
use Rattle.isa.specs.declared.CallKind.TheVariants as kind
use Rattle.isa.specs.Calls.{channel_of, length_of}
use Rattle.log_model.specs.declared.CallRecord.{CallRecord}
use Rattle.log_model.specs.declared.RunEnd.{RunEnd}
use Rattle.log_model.specs.declared.RunEnd.TheVariants.{Exit, Trap, Limit}
use Rattle.log_model.specs.Logs.{Log, IsBytes, IsRecord, IsEnd, end_at}
use Rattle.log_model.specs.Moved.{received}
use Rattle.log_model.proofs.Words.{IsBytes-each, IsBytes-take, IsBytes-drop, word_below}
use Rattle.elf_model.specs.Image.{image, e_entry}
use Rattle.replay_model.specs.Run.{state_after}
use Rattle.replay_model.specs.Comparison.{arguments_of, CallOf, kept_event, call_event}
use Rattle.replay_model.specs.Fits.{start_in_image}
use Rattle.sha2.specs.Sha256.{sha256, digest_bytes}
use Rattle.sha2.proofs.Facts256.{length-sha256}
use Rattle.record_model.proofs.Sound.{window_bytes}
use Rattle.record_model.proofs.Beginning.{begins}
use Rattle.record_model.specs.Recorded.{Setting, CanRecord, Recording, EndsWithin, clock_values, clock_values_of, part_of, input_of}
use Rattle.record_model.specs.Calls.{bytes_of}
use Rattle.record_model.proofs.Calls.{Moves, next_record, next_here, part_few, read_form, write_form}
use Rattle.record_model.proofs.Pushes.{values_push}
use Rattle.record_model.proofs.Runs.{RunsTo, EndsSo, runs_none, runs_plain, runs_call, runs_end, runs_cut}
use Rattle.record_model.proofs.States.{IsReached, is_fine, reached_next, reached_call}

-- ---- bytes

bytes_at_channel : (inputs : List (List ℕ)) (channel : ℕ) → AllByRecursion IsBytes inputs → IsBytes (input_of inputs channel)
bytes_at_channel [] channel h = tt
bytes_at_channel (i ∷ is) zero h = h.0
bytes_at_channel (i ∷ is) (suc channel) h = bytes_at_channel is channel h.1

part_bytes : (inputs : List (List ℕ)) (piece offset : ℕ) (args : List ℕ) → AllByRecursion IsBytes inputs → IsBytes (part_of inputs piece offset args)
part_bytes inputs piece offset args h =
    IsBytes-take (min (length_of args) piece) (drop offset (input_of inputs (channel_of args))) (IsBytes-drop offset (input_of inputs (channel_of args)) (bytes_at_channel inputs (channel_of args) h))

part_small : (inputs : List (List ℕ)) (piece offset : ℕ) (args : List ℕ) → length (part_of inputs piece offset args) ≤ min piece (length (input_of inputs (channel_of args)))
part_small inputs piece offset args = omega (arith, length-take {A = ℕ}, length-drop {A = ℕ})

moved_bytes : (refused : ℤ) (whole : List ℕ) → IsBytes whole → IsBytes (bytes_of refused whole)
moved_bytes (pos n) whole h = h
moved_bytes (negsuc n) whole h = tt

word_bytes : (n : ℕ) → IsBytes (to_be_bytes w32 n)
word_bytes n = omega arith

digest_are_bytes : (h : List ℕ) (n : ℕ) → IsBytes (digest_bytes h n)
unfolding digest_bytes
digest_are_bytes h zero = tt
digest_are_bytes h (suc n) = all-append (λ b. b < 256) (digest_bytes h n) _ (digest_are_bytes h n) (word_bytes _)

pub sha256_bytes : (m : List ℕ) → IsBytes (sha256 m)
unfolding sha256
sha256_bytes m = digest_are_bytes _ 8

entry_small : (file : List ℕ) → IsBytes file → e_entry file < 2 ^ 32
entry_small file h = word_below file 24 h

-- ---- the record of a call has the ranges of a log

-- the answer that the clock gives next, after n of them
abbrev next_answer : (ℕ → ℕ) → ℕ → List ℕ
next_answer clock n = clock n ∷ []

moves : (s : State) (refused : ℤ) (whole : List ℕ) → IsReached s → IsBytes whole → length whole < 2 ^ 31 → Moves s refused whole
moves s refused whole h b l =
    record { words = (h.sound.words 10, (h.sound.words 11, (h.sound.words 12, tt))); are_bytes = moved_bytes refused whole b; small = l }

module _ (st : Setting) (clock : ℕ → ℕ) (can : CanRecord st) (small : (k : ℕ) → clock k < 2 ^ 64) where
  next_form : (done : List CallRecord) (n t : ℕ) (s : State) (k : CallKind) → t < 2 ^ 40 → IsReached s
      → IsRecord (next_record st.inputs st.piece done (next_answer clock n) t s k)
  next_form done n t s kind.Read early h =
      let offset = length (received (reg s 10) done) in
      let part = part_of st.inputs st.piece offset (arguments_of s) in
      let few = part_small st.inputs st.piece offset (arguments_of s) in
      let piece = can.pieces (reg s 10) in
      read_form t s (length st.inputs) part early (part_few st.inputs st.piece offset (arguments_of s))
      (moves s _ part h (part_bytes st.inputs st.piece offset (arguments_of s) can.inputs) (omega arith))
  next_form done n t s kind.Write early h =
      let whole = bytes_at s (reg s 11) (reg s 12) in
      let size = h.size in
      write_form t s early (moves s _ whole h (IsBytes-each whole (window_bytes s h.sound (reg s 11) (reg s 12))) (omega (arith, length-take {A = ℕ}, length-drop {A = ℕ})))
  next_form done n t s kind.Clock early h = (early, small n)
  next_form done n t s k early h = (early, h.sound.words 17)

  -- ---- a run to its end

  -- after these calls, in which the clock answered n times
  record IsAt (start : State) (n : ℕ) (done : List CallRecord) (t : ℕ) (s : State) : Type 0 where
    runs : RunsTo start st.inputs st.piece done t s
    reached : IsReached s
    values : clock_values done ≡ map clock (range_with_len 0 n)

  -- the records and the end of a run from a state
  record RecordedRun (start : State) : Type 0 where
    asked : ℕ
    records : List CallRecord
    end : RunEnd
    last : State
    at_end : IsAt start asked records (end_at end) last
    is_end : IsEnd end
    within : EndsWithin st.steps end
    agrees : EndsSo start st.inputs st.piece records end

  -- a run is found k steps before all are done
  abbrev IsRecordedFrom : State → ℕ → Type 0
  IsRecordedFrom start k = (n t : ℕ) (done : List CallRecord) (s : State) → t + k ≡ st.steps → IsAt start n done t s → RecordedRun start

  cut : (start : State) → IsRecordedFrom start 0
  cut start n t done s e at =
      let most = can.steps in
      let agrees = runs_cut start st.inputs st.piece done t s at.runs in
      record { asked = n; records = done; end = Limit t; last = s; at_end = at; is_end = omega arith; within = omega arith; agrees = agrees }

  -- how often the clock was asked after a call
  abbrev asked_after : CallKind → ℕ → ℕ
  asked_after kind.Clock n = n + 1
  asked_after k n = n

  values_after : (done : List CallRecord) (n t : ℕ) (s : State) (k : CallKind) → clock_values done ≡ map clock (range_with_len 0 n)
      → clock_values (done ++ next_record st.inputs st.piece done (next_answer clock n) t s k ∷ []) ≡ map clock (range_with_len 0 (asked_after k n))
  values_after done n t s k v = values_push done (next_record st.inputs st.piece done (next_answer clock n) t s k) ∙ by k
    where
      by : (k : CallKind) → clock_values done ++ clock_values_of (next_record st.inputs st.piece done (next_answer clock n) t s k) ≡ map clock (range_with_len 0 (asked_after k n))
      by kind.Clock = ap (λ (xs : List ℕ). xs ++ clock n ∷ []) v ∙ sym (map-range_with_len_more clock 0 n n (omega arith))
      by k = append-nil (clock_values done) ∙ v

  -- a call other than the exit gets its record
  answered : (start : State) (k : ℕ) → IsRecordedFrom start k → (n t : ℕ) (done : List CallRecord) (s : State) (c : CallKind) → t + suc k ≡ st.steps → IsAt start n done t s
      → next s ≡ Called (call_of s) → call_event (call_of s).kind ≡ kept_event (CallOf (next_record st.inputs st.piece done (next_answer clock n) t s c)) → RecordedRun start
  answered start k later n t done s c e at calls event =
      let most = can.steps in
      let r = next_record st.inputs st.piece done (next_answer clock n) t s c in
      let form = next_form done n t s c (omega arith) at.reached in
      let here = next_here st.inputs st.piece done (next_answer clock n) t s c form in
      later (asked_after c n) (t + 1) (done ++ r ∷ []) (state_after s r) (omega arith) (record {
        runs = runs_call start st.inputs st.piece done t s r (call_of s) calls event here at.runs;
        reached = reached_call s (length st.inputs) r form here.lawful at.reached;
        values = values_after done n t s c at.values;
      })

  called : (start : State) (k : ℕ) → IsRecordedFrom start k → (n t : ℕ) (done : List CallRecord) (s : State) (c : CallKind) → (call_of s).kind ≡ c → t + suc k ≡ st.steps → IsAt start n done t s
      → next s ≡ Called (call_of s) → RecordedRun start
  called start k later n t done s kind.Exit is e at calls =
      let most = can.steps in
      let end = Exit t (reg s 10) in
      let agrees = runs_end start st.inputs st.piece done t s end (refl, calls, is, refl) at.runs in
      let small = at.reached.sound.words 10 in
      record { asked = n; records = done; end = end; last = s; at_end = at; is_end = (omega arith, small); within = omega arith; agrees = agrees }
  called start k later n t done s c is e at calls = answered start k later n t done s c e at calls (ap call_event is)

  stepped : (start : State) (k : ℕ) → IsRecordedFrom start k → (n t : ℕ) (done : List CallRecord) (s : State) (o : Outcome) → next s ≡ o → t + suc k ≡ st.steps → IsAt start n done t s → RecordedRun start
  stepped start k later n t done s (Retired u) o e at =
      later n (t + 1) done u (omega arith)
      (record { runs = runs_plain start st.inputs st.piece done t s u o at.runs; reached = reached_next s u o at.reached; values = at.values })
  stepped start k later n t done s (Called call) o e at =
      called start k later n t done s (call_of s).kind refl e at (o ∙ ap (λ (c : Call). Called c) (is_fine s (Called call) o))
  stepped start k later n t done s (Trapped code) o e at =
      let most = can.steps in
      let end = Trap t code s.pc in
      let agrees = runs_end start st.inputs st.piece done t s end (refl, o, refl) at.runs in
      let form : IsEnd end = (omega arith, is_fine s (Trapped code) o, at.reached.pc) in
      record { asked = n; records = done; end = end; last = s; at_end = at; is_end = form; within = omega arith; agrees = agrees }

  found : (start : State) (k : ℕ) → IsRecordedFrom start k
  found start zero n t done s e at = cut start n t done s e at
  found start (suc k) n t done s e at = stepped start k (found start k) n t done s (next s) refl e at

  -- ---- its log

  log_found : (start : State) → start_in_image (image st.program) st.pages ≡ Some start → Recording st clock
  log_found start begun =
      let b = begins st.program st.pages start can.program begun in
      let pages = can.pages in
      let size = b.size in
      let first : IsReached start = record { sound = b.sound; pc = subst (λ (n : ℕ). n < 2 ^ 32) (sym b.pc) (entry_small st.program can.program); size = omega arith } in
      let f = found start st.steps 0 0 [] start (omega arith) (record { runs = runs_none start st.inputs st.piece; reached = first; values = refl }) in
      let log : Log = record { pages = st.pages; inputs = length st.inputs; digest = sha256 st.program; records = f.records; end = f.end } in
      record {
        asked = f.asked;
        log = log;
        is_recorded = record {
          is_log = record {
            pages = can.pages;
            inputs = can.channels;
            digest = length-sha256 st.program;
            digest_bytes = sha256_bytes st.program;
            records = f.at_end.runs.form;
            end = f.is_end;
            rise = f.at_end.runs.rise;
            ends_after = f.at_end.runs.before;
          };
          has_pages = refl;
          has_channels = refl;
          fits = record { start = start; digest = refl; begins = begun; agrees = f.agrees log refl refl refl };
          reads_inputs = f.at_end.runs.reads;
          has_answers = f.at_end.values;
          ends_within = f.within;
        };
      }

  pub a_recording : Recording st clock
  a_recording = by (start_in_image (image st.program) st.pages) refl can.begins
    where
      by : (o : Option State) → start_in_image (image st.program) st.pages ≡ o → IsSome o → Recording st clock
      by (Some start) e h = log_found start e
      by None e h = cc
