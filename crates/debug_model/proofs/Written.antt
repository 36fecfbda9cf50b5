-- The bytes of answers.
use Rattle.std.proofs.Common.{◌≡◌, ℕ, zero, suc, ◌+◌, ◌*◌, ◌≤◌, min, Bool, true, false, if◌then◌else◌, nat_le, List, [], ◌∷◌, ◌++◌, length, take, drop, get_or, Option, Some, None, refl, arith, length-append, length-take, length-drop, nat_lt, leb-true, ◌-◌, ◌/◌, ◌%◌}
use Rattle.std.specs.Prelude.{codes}
use Rattle.std.specs.List.{All, list_all, flat_map, range_with_len}
use Rattle.std.specs.Slice.Iter.{chunk_count}
use Rattle.std.specs.Int.{w32, to_be_bytes}
use Rattle.std.proofs.lemmas.Bool.{and_parts}
use Rattle.std.proofs.lemmas.List.Elements.{All-nil, All-cons, All-append, All-map}
use Rattle.hex.specs.Hex.{encode_with, encode_lower, lower_digits}
use Rattle.hex.proofs.HexLemmas.{length-encode_with}
use Rattle.isa.specs.Machine.{State, bytes_at}
use Rattle.log_model.specs.Logs.{steps}
use Rattle.replayer.specs.Jobs.{Job}
use Rattle.remote_frames.specs.Frames.{Heard, Packet, Bad, Again, frame}
use Rattle.remote_packets.specs.declared.packet.Packet.{Packet as Asked}
use Rattle.remote_packets.specs.declared.packet.Packet.TheVariants.{LastStop, Registers, Register, Memory, Change, Set, Clear, Go, Moves, Supported, Description, StartNoAck, Extended, Thread, Attached, Run, End, Command, Detach, Kill, Other}
use Rattle.remote_packets.specs.Packets.{packet_of}
use Rattle.run_travel.specs.declared.cause.Cause.{Cause}
use Rattle.run_travel.specs.declared.cause.Cause.TheVariants.{Arrived, Watched, End as AtEnd, Trapped, Beginning}
use Rattle.run_travel.specs.declared.kind.WatchKind.{WatchKind}
use Rattle.run_travel.specs.declared.kind.WatchKind.TheVariants.{Writes, Reads, Both}
use Rattle.debug_model.specs.Sessions.{SessionAt, begun}
use Rattle.debug_model.specs.StopTexts.{stop_text, signal_of, watch_name, address_text}
use Rattle.debug_model.specs.Arrivals.{arrival}
use Rattle.debug_model.specs.States.{error, registers_text, register_text, register_bytes, bytes_from, bytes_text}
use Rattle.debug_model.specs.Description.{description, part_text}
use Rattle.debug_model.specs.Commands.{command_text, time_asked}
use Rattle.debug_model.specs.Answers.{ok, machine_at, console_packet, console_packets, command_in, supported, run_text, answer_to, answer, put, run_anew, changed_by}
use Rattle.debug_model.specs.Dialogues.{next, next_all, begun_at}
use Rattle.debug_model.specs.FrameLaws.{stands_for_itself, IsWritten, AnswersAreWritten}

-- ---- bytes that stand for themselves

abbrev Plain : List ℕ → Type 0
Plain bytes = list_all stands_for_itself bytes ≡ true

plain_append : (xs ys : List ℕ) → Plain xs → Plain ys → Plain (xs ++ ys)
plain_append [] ys hx hy = hy
plain_append (x ∷ xs) ys hx hy =
    let parts = and_parts (stands_for_itself x) (list_all stands_for_itself xs) hx in
    rw (parts.0, plain_append xs ys parts.1 hy) refl

plain_take : (n : ℕ) (xs : List ℕ) → Plain xs → Plain (take n xs)
plain_take zero xs h = refl
plain_take (suc n) [] h = refl
plain_take (suc n) (x ∷ xs) h =
    let parts = and_parts (stands_for_itself x) (list_all stands_for_itself xs) h in
    rw (parts.0, plain_take n xs parts.1) refl

plain_drop : (n : ℕ) (xs : List ℕ) → Plain xs → Plain (drop n xs)
plain_drop zero xs h = h
plain_drop (suc n) [] h = refl
plain_drop (suc n) (x ∷ xs) h = plain_drop n xs (and_parts (stands_for_itself x) (list_all stands_for_itself xs) h).1

plain_at : (xs : List ℕ) (i : ℕ) → Plain xs → stands_for_itself (get_or xs i 0) ≡ true
plain_at [] i h = refl
plain_at (x ∷ xs) zero h = (and_parts (stands_for_itself x) (list_all stands_for_itself xs) h).0
plain_at (x ∷ xs) (suc i) h = plain_at xs i (and_parts (stands_for_itself x) (list_all stands_for_itself xs) h).1

plain_hex : (bytes : List ℕ) → Plain (encode_lower bytes)
unfolding encode_with
plain_hex [] = refl
plain_hex (b ∷ bytes) =
    rw (plain_at lower_digits (b / 16) refl, plain_at lower_digits (b % 16) refl, plain_hex bytes) refl

-- ---- packets

hex : (bytes : List ℕ) → length bytes ≤ 8192 → IsWritten (encode_lower bytes)
hex bytes few = record { plain = plain_hex bytes; short = let size = length-encode_with lower_digits bytes in omega (arith, few) }

behind : (front bytes : List ℕ) → IsWritten front → IsWritten bytes → length front + length bytes ≤ 16384 → IsWritten (front ++ bytes)
behind front bytes f b few =
    record { plain = plain_append front bytes f.plain b.plain; short = let size = length-append front bytes in omega (arith, few) }

constant : (packet : List ℕ) → Plain packet → nat_le (length packet) 16384 ≡ true → IsWritten packet
constant packet plain short = record { plain = plain; short = leb-true (length packet) 16384 short }

error_is : IsWritten error
error_is = constant error refl refl

ok_is : IsWritten ok
ok_is = constant ok refl refl

t05_is : IsWritten (codes "T05")
t05_is = constant (codes "T05") refl refl

watch_is : (front : List ℕ) (place : ℕ) → IsWritten front → length front ≤ 16 → IsWritten (front ++ address_text place ++ codes ";")
watch_is front place f few =
    let eight = length-encode_with lower_digits (to_be_bytes w32 place) in
    let all = length-append front (address_text place) in
    behind (front ++ address_text place) (codes ";")
    (behind front (address_text place) f (hex (to_be_bytes w32 place) (leb-true 4 8192 refl)) (omega (arith, few, eight)))
    (constant (codes ";") refl refl) (omega (arith, few, all, eight))

stop_is : (cause : Cause) → IsWritten (stop_text cause)
stop_is Arrived = t05_is
stop_is (Watched w) = by w.kind where
  by : (kind : WatchKind) → IsWritten (codes "T05" ++ watch_name kind ++ codes ":" ++ address_text w.place ++ codes ";")
  by Writes = watch_is (codes "T05watch:") w.place (constant (codes "T05watch:") refl refl) (leb-true 9 16 refl)
  by Reads = watch_is (codes "T05rwatch:") w.place (constant (codes "T05rwatch:") refl refl) (leb-true 10 16 refl)
  by Both = watch_is (codes "T05awatch:") w.place (constant (codes "T05awatch:") refl refl) (leb-true 10 16 refl)
stop_is AtEnd = constant (codes "T05replaylog:end;") refl refl
stop_is (Trapped kind) =
    let two = length-encode_with lower_digits (signal_of kind ∷ []) in
    behind (codes "T") (encode_lower (signal_of kind ∷ [])) (constant (codes "T") refl refl) (hex (signal_of kind ∷ []) (leb-true 1 8192 refl)) (omega (arith, two))
stop_is Beginning = constant (codes "T05replaylog:begin;") refl refl

registers_are : (s : State) → IsWritten (registers_text s)
registers_are s = hex (flat_map (register_bytes s) (range_with_len 0 33)) (leb-true 132 8192 refl)

register_is : (s : State) (n : ℕ) → IsWritten (register_text s n)
register_is s n = by (nat_le n 32) where
  by : (b : Bool) → IsWritten (if b then encode_lower (register_bytes s n) else error)
  by true = hex (register_bytes s n) (leb-true 4 8192 refl)
  by false = error_is

few_bytes : (s : State) (place length_asked : ℕ) → length (bytes_from s place length_asked) ≤ 8000
few_bytes s place length_asked = by (nat_le s.base place) where
  by : (b : Bool) → length (if b then bytes_at s place (min length_asked 8000) else []) ≤ 8000
  by true = let size = length-take (min length_asked 8000) (drop (place - s.base) s.memory) in omega (arith, size)
  by false = leb-true 0 8000 refl

bytes_are : (bytes : List ℕ) → length bytes ≤ 8000 → IsWritten (bytes_text bytes)
bytes_are [] few = error_is
bytes_are (b ∷ bytes) few = hex (b ∷ bytes) (omega (arith, few))

description_is : (Plain description) × (length description ≡ 1308)
unfolding description
description_is = (refl, refl)

part_is : (offset length_asked : ℕ) → IsWritten (part_text offset length_asked)
part_is offset length_asked = by (nat_lt (offset + length_asked) (length description)) where
  part : List ℕ
  part = take length_asked (drop offset description)

  plain : Plain part
  plain = plain_take length_asked (drop offset description) (plain_drop offset description description_is.0)

  few : length part ≤ 1308
  few =
      let size = length-take length_asked (drop offset description) in
      let rest = length-drop offset description in
      let all = description_is.1 in
      omega (arith, size, rest, all)

  by : (b : Bool) → IsWritten ((if b then codes "m" else codes "l") ++ part)
  by true = behind (codes "m") part (constant (codes "m") refl refl) (record { plain = plain; short = omega (arith, few) }) (omega (arith, few))
  by false = behind (codes "l") part (constant (codes "l") refl refl) (record { plain = plain; short = omega (arith, few) }) (omega (arith, few))

console_is : (text : List ℕ) (k : ℕ) → IsWritten (console_packet text k)
console_is text k =
    let part = take 4000 (drop (k * 4000) text) in
    let size = length-take 4000 (drop (k * 4000) text) in
    let twice = length-encode_with lower_digits part in
    behind (codes "O") (encode_lower part) (constant (codes "O") refl refl) (hex part (omega (arith, size))) (omega (arith, size, twice))

run_is : (t : Option ℕ) → IsWritten (run_text t)
run_is None = error_is
run_is (Some t) = t05_is

-- ---- answers

one : (packet : List ℕ) → IsWritten packet → All IsWritten (packet ∷ [])
one packet is = All-cons IsWritten packet [] is (All-nil IsWritten)

answers_are : (job : Job) (s : SessionAt) (bytes : List ℕ) (p : Asked) → IsWritten s.stop → All IsWritten (answer_to job s bytes p)
answers_are job s bytes LastStop h = one s.stop h
answers_are job s bytes Registers h = one _ (registers_are (machine_at job s))
answers_are job s bytes (Register number) h = one _ (register_is (machine_at job s) number)
answers_are job s bytes (Memory place length) h =
    one _ (bytes_are (bytes_from (machine_at job s) place length) (few_bytes (machine_at job s) place length))
answers_are job s bytes Change h = one error error_is
answers_are job s bytes (Set point) h = one ok ok_is
answers_are job s bytes (Clear point) h = one ok ok_is
answers_are job s bytes (Go move) h = one _ (stop_is (arrival job s.points s.time move).cause)
answers_are job s bytes Moves h = one _ (constant (codes "vCont;c;C;s;S;r") refl refl)
answers_are job s bytes Supported h = one supported (constant supported refl refl)
answers_are job s bytes (Description offset length) h = one _ (part_is offset length)
answers_are job s bytes StartNoAck h = one ok ok_is
answers_are job s bytes Extended h = one ok ok_is
answers_are job s bytes Thread h = one ok ok_is
answers_are job s bytes Attached h = one _ (constant (codes "1") refl refl)
answers_are job s bytes (Run t) h = one _ (run_is t)
answers_are job s bytes End h = one ok ok_is
answers_are job s bytes Command h =
    let text = command_text job s.time (command_in bytes) in
    let numbers = range_with_len 0 (chunk_count (length text) 4000) in
    All-append IsWritten (console_packets text) (ok ∷ []) (All-map IsWritten (console_packet text) numbers (λ k d below. console_is text _)) (one ok ok_is)
answers_are job s bytes Detach h = one ok ok_is
answers_are job s bytes Kill h = All-nil IsWritten
answers_are job s bytes Other h = one [] (constant [] refl refl)

-- ---- sessions: the last stop is such a packet, and the last answer is frames of some

pub record IsHeld (s : SessionAt) : Type 0 where
  pub stop : IsWritten s.stop
  pub packets : List (List ℕ)
  pub written : All IsWritten packets
  pub last : s.last ≡ flat_map frame packets

put_stop : (s : SessionAt) (t : Option ℕ) → IsWritten s.stop → IsWritten (put s t).stop
put_stop s None h = h
put_stop s (Some t) h = t05_is

run_stop : (job : Job) (s : SessionAt) (t : Option ℕ) → IsWritten s.stop → IsWritten (run_anew job s t).stop
run_stop job s None h = h
run_stop job s (Some t) h = t05_is

stop_after : (job : Job) (s : SessionAt) (bytes : List ℕ) (p : Asked) → IsWritten s.stop → IsWritten (changed_by job s bytes p).stop
stop_after job s bytes LastStop h = h
stop_after job s bytes Registers h = h
stop_after job s bytes (Register number) h = h
stop_after job s bytes (Memory place length) h = h
stop_after job s bytes Change h = h
stop_after job s bytes (Set point) h = h
stop_after job s bytes (Clear point) h = h
stop_after job s bytes (Go move) h = stop_is (arrival job s.points s.time move).cause
stop_after job s bytes Moves h = h
stop_after job s bytes Supported h = h
stop_after job s bytes (Description offset length) h = h
stop_after job s bytes StartNoAck h = h
stop_after job s bytes Extended h = h
stop_after job s bytes Thread h = h
stop_after job s bytes Attached h = h
stop_after job s bytes (Run t) h = run_stop job s t h
stop_after job s bytes End h = h
stop_after job s bytes Command h = put_stop s (time_asked job.log (command_in bytes)) h
stop_after job s bytes Detach h = h
stop_after job s bytes Kill h = h
stop_after job s bytes Other h = h

pub written_answers : (job : Job) (s : SessionAt) (bytes : List ℕ) → IsHeld s → All IsWritten (answer job s bytes)
written_answers job s bytes h = answers_are job s bytes (packet_of bytes) h.stop

pub held_begun : (t : ℕ) → IsHeld (begun t)
held_begun t = record { stop = t05_is; packets = []; written = All-nil IsWritten; last = refl }

pub held_next : (job : Job) (s : SessionAt) (h : Heard) → IsHeld s → IsHeld (next job s h)
held_next job s (Packet bytes) held = record {
  stop = stop_after job s bytes (packet_of bytes) held.stop;
  packets = answer job s bytes;
  written = written_answers job s bytes held;
  last = refl;
}
held_next job s Bad held = held
held_next job s Again held = held

pub held_all : (job : Job) (s : SessionAt) (hs : List Heard) → IsHeld s → IsHeld (next_all job s hs)
held_all job s [] held = held
held_all job s (h ∷ hs) held = held_all job (next job s h) hs (held_next job s h held)

pub answers_are_written : AnswersAreWritten
answers_are_written job t hs bytes =
    let first = begun_at job t in
    written_answers job (next_all job first hs) bytes (held_all job first hs (held_begun (min t (steps job.log))))
