-- The numbers in the rows of a run are small: it has at most 2^40 calls, and each moves fewer than 2^31 bytes.
use Rattle.std.proofs.Common.{◌≡◌, ℕ, zero, suc, ◌+◌, ◌^◌, ◌<◌, ◌≤◌, Bool, true, false, List, [], ◌∷◌, length, map, arith, subst, length-append}
use Rattle.std.specs.Prelude.{◌==◌, if◌then◌else◌, Option, Some, None}
use Rattle.std.specs.List.{All, AllByRecursion, range_with_len}
use Rattle.std.proofs.lemmas.Bool.{ltb-true, eqb-true}
use Rattle.std.proofs.lemmas.List.Elements.{All-nil, All-cons, All-append, All-map, All-weaker, All-filter, filter_passes, recursion_from_All}
use Rattle.isa.specs.declared.CallKind.{CallKind}
use Rattle.isa.specs.declared.CallKind.TheVariants as kind
use Rattle.isa.specs.Machine.{State, Outcome, Retired, Called, Trapped, next, Fetch, Fetched, fetch}
use Rattle.isa.specs.Calls.{channel_of}
use Rattle.log_model.specs.declared.CallRecord.{CallRecord}
use Rattle.log_model.specs.declared.CallRecord.TheVariants.{Read, Write}
use Rattle.log_model.specs.Logs.{Log, IsLog, IsRecord, Rise, least_after, at_of, steps}
use Rattle.log_model.specs.Moved.{received_of, written_of, is_on, received_by, received, written_by, written}
use Rattle.log_model.proofs.Ends.{end_at-small}
use Rattle.flow_model.specs.declared.Loc.{Loc}
use Rattle.flow_model.specs.declared.Loc.TheVariants.{Reg, Mem}
use Rattle.flow_model.specs.declared.SourceByte.{SourceByte}
use Rattle.flow_model.specs.declared.InnerSink.{InnerSink}
use Rattle.flow_model.specs.declared.SinkPoint.TheVariants.{At}
use Rattle.flow_model.specs.declared.StepSeen.{StepSeen}
use Rattle.flow_model.specs.declared.CallSeen.{CallSeen}
use Rattle.flow_model.specs.Flow.{is_received, is_received_by, distance}
use Rattle.flow_model.specs.Ranges.{IsLocation}
use Rattle.flow_model.specs.Origins.{Policy, byte_at, step_at, origins}
use Rattle.flow_model.specs.OriginLaws.{WasRead}
use Rattle.flow_model.proofs.OriginsRead.{origins_were_read}
use Rattle.lists.proofs.Algebra.{All-set_of}
use Rattle.lists.proofs.Lists.{all-append}
use Rattle.replay_model.specs.Run.{Moment, start, advance, after_outcome, after_call, transfer, call_seen, plain_step, step_by, step_of, steps_from, trace}
use Rattle.replay_model.proofs.Offsets.{length-steps_from, steps_within}
use Rattle.replay_model.proofs.Sizes.{received_of_below, written_of_below, moved_below_each}
use Rattle.replay_model.proofs.Track.{moment}
use Rattle.report_model.specs.Query.{Query, AreLocated, has_sink, policy_of}
use Rattle.report_model.specs.Rows.{Sink, row, rows_as_written, row_cmp, point_sink, at_time, points_at, sink_at, sinks_of_call, sinks_of_step, sinks_from, chosen_sinks}
use Rattle.page_data.specs.PageLaws.{HasSmallLoc, IsSmallSink, IsSmallSource, IsSmallRow, RowsAreSmall}

-- ---- calls

-- a call's channel, and the offsets of the bytes that it moves
record IsSmallCall (call : CallSeen) : Type 0 where
  channel : call.channel < 2 ^ 32
  offsets : call.offset + call.length < 2 ^ 72

if_below : (b : Bool) (bytes : List ℕ) → length bytes < 2 ^ 31 → length (if b then bytes else []) < 2 ^ 31
if_below true bytes h = h
if_below false bytes h = omega arith

received_below : (channel : ℕ) (r : CallRecord) → IsRecord r → length (received_by channel r) < 2 ^ 31
received_below channel r is = if_below (is_on channel r) (received_of r) (received_of_below r is)

written_below : (channel : ℕ) (r : CallRecord) → IsRecord r → length (written_by channel r) < 2 ^ 31
written_below channel r is = if_below (is_on channel r) (written_of r) (written_of_below r is)

first_word : (args : List ℕ) → length args ≡ 3 → AllByRecursion (λ n. n < 2 ^ 32) args → channel_of args < 2 ^ 32
first_word [] three words = absurd (omega (arith, three))
first_word (a ∷ args) three words = words.0

transfer_small : (k : CallKind) (args before : List ℕ) (n : ℕ) → channel_of args < 2 ^ 32 → length before + n < 2 ^ 72 → IsSmallCall (transfer k args before n)
transfer_small k args before n c h = record { channel = c; offsets = by (n == 0) }
  where
    by : (b : Bool) → (if b then 0 else length before) + n < 2 ^ 72
    by true = omega (arith, h)
    by false = h

-- of a call with few calls before it
call_small : (m : Moment) (left : List CallRecord) → AllByRecursion IsRecord m.done → AllByRecursion IsRecord left → length m.done ≤ 2 ^ 40 → IsSmallCall (call_seen m left)
call_small m (Read at args result bytes ∷ rs) done forms few =
    let form = forms.0.1 in
    let before = moved_below_each (received_by (channel_of args)) (received_below (channel_of args)) m.done done in
    let own = received_of_below (Read at args result bytes) forms.0 in
    transfer_small kind.Read args (received (channel_of args) m.done) (length bytes) (first_word args form.three form.words) (omega (arith, before, own, few))
call_small m (Write at args result bytes ∷ rs) done forms few =
    let form = forms.0.1 in
    let before = moved_below_each (written_by (channel_of args)) (written_below (channel_of args)) m.done done in
    let own = written_of_below (Write at args result bytes) forms.0 in
    transfer_small kind.Write args (written (channel_of args) m.done) (length bytes) (first_word args form.three form.words) (omega (arith, before, own, few))
call_small m left done forms few = record { channel = omega arith; offsets = omega arith }

-- ---- the steps of a run

abbrev IsSmallIfCall : Option CallSeen → Type 0
IsSmallIfCall None = Unit {0}
IsSmallIfCall (Some call) = IsSmallCall call

abbrev HasSmallCall : StepSeen → Type 0
HasSmallCall s = IsSmallIfCall s.call

-- the records that are done and left are such as logs have, and few
record IsWithin (m : Moment) : Type 0 where
  done : AllByRecursion IsRecord m.done
  left : AllByRecursion IsRecord m.left
  few : length m.done + length m.left ≤ 2 ^ 40

after_call_within : (t : ℕ) (s : State) (done left : List CallRecord) → IsWithin (moment t s done left) → IsWithin (after_call (moment t s done left) left)
after_call_within t s done [] w = record { done = w.done; left = w.left; few = w.few }
after_call_within t s done (r ∷ rs) w = record {
  done = all-append IsRecord done (r ∷ []) w.done (w.left.0, tt);
  left = w.left.1;
  few = omega (arith, w.few, length-append done (r ∷ []));
}

advance_within : (m : Moment) → IsWithin m → IsWithin (advance m)
advance_within m w = by (next m.state)
  where
    by : (o : Outcome) → IsWithin (after_outcome m o)
    by (Retired s) = record { done = w.done; left = w.left; few = w.few }
    by (Called call) = after_call_within m.time m.state m.done m.left w
    by (Trapped trap) = w

step_small : (m : Moment) → IsWithin m → HasSmallCall (step_of m)
step_small m w = by (next m.state)
  where
    plain : (f : Fetch) → HasSmallCall (plain_step m.time m.state f)
    plain (Fetched i) = tt
    plain f = tt

    by : (o : Outcome) → HasSmallCall (step_by m o)
    by (Retired s) = plain (fetch m.state)
    by (Called call) = call_small m m.left w.done w.left (omega (arith, w.few))
    by (Trapped trap) = tt

steps_small : (n : ℕ) (m : Moment) → IsWithin m → AllByRecursion HasSmallCall (steps_from n m)
steps_small zero m w = tt
steps_small (suc n) m w = (step_small m w, steps_small n (advance m) (advance_within m w))

few_records : (least : ℕ) (rs : List CallRecord) → Rise least rs → length rs + least ≤ least_after least rs
few_records least [] rise = omega arith
few_records least (r ∷ rs) rise = omega (arith, rise.0, few_records (at_of r + 1) rs rise.1)

trace_small : (s : State) (log : Log) → IsLog log → AllByRecursion HasSmallCall (trace s log)
trace_small s log form = steps_small (steps log) (start s log) (record {
  done = tt;
  left = form.records;
  few = omega (arith, few_records 0 log.records form.rise, form.ends_after, end_at-small log.end form.end);
})

-- ---- source bytes

step_has : (P : StepSeen → Type 0) (ss : List StepSeen) (k : ℕ) (s : StepSeen) → AllByRecursion P ss → step_at ss k ≡ Some s → P s
step_has P [] k s h e = absurd cc
step_has P (x ∷ ss) zero s h e = let same : x ≡ s = cc in subst P same h.0
step_has P (x ∷ ss) (suc k) s h e = step_has P ss k s h.1 e

byte_small : (call : CallSeen) (l : Loc) → IsSmallCall call → is_received call l ≡ true → IsSmallSource (byte_at call l)
byte_small call (Reg r i) c e = absurd cc
byte_small call (Mem p) c e = by call.kind e
  where
    by : (k : CallKind) → is_received_by k call p ≡ true → IsSmallSource (byte_at call (Mem p))
    by kind.Read f = let near = ltb-true (distance call.place p) call.length f in (omega (arith, c.channel), omega (arith, c.offsets, near))
    by k f = absurd cc

source_small : (policy : Policy) (ss : List StepSeen) (t : ℕ) → AllByRecursion HasSmallCall ss → (b : SourceByte) → WasRead policy ss t b → IsSmallSource b
source_small policy ss t small b w =
    let call = subst IsSmallIfCall w.is_call (step_has HasSmallCall ss w.number w.step small w.is_step) in
    subst IsSmallSource w.is_byte (byte_small w.call w.loc call w.is_there)

sources_small : (policy : Policy) (ss : List StepSeen) (t : ℕ) (l : Loc) → AllByRecursion HasSmallCall ss → AllByRecursion IsSmallSource (origins policy ss t l)
sources_small policy ss t l small =
    let found = origins policy ss t l in
    recursion_from_All IsSmallSource found (All-weaker (WasRead policy ss t) IsSmallSource (source_small policy ss t small) found (origins_were_read policy ss t l))

-- ---- sinks

abbrev HasSmallName : Sink → Type 0
HasSmallName s = IsSmallSink s.name

loc_small : (l : Loc) → IsLocation l → HasSmallLoc l
loc_small (Reg r i) h = (omega (arith, h.0), omega (arith, h.1))
loc_small (Mem p) h = omega (arith, h)

points_small : (q : Query) (t : ℕ) → AreLocated q.points → t < 2 ^ 72 → All HasSmallName (points_at q t)
points_small q t located h =
    let there = All-filter (λ (p : InnerSink). p.time == t) (λ p. IsLocation p.loc) q.points located in
    let timed = filter_passes (λ (p : InnerSink). p.time == t) q.points in
    All-map HasSmallName point_sink (at_time t q.points) (λ k d l. by _ (there k d l) (timed k d l))
  where
    by : (p : InnerSink) → IsLocation p.loc → (p.time == t) ≡ true → IsSmallSink (At p)
    by p l e = let time = eqb-true p.time t e in (loc_small p.loc l, omega (arith, time, h))

bytes_small : (t : ℕ) (call : CallSeen) (i n : ℕ) → IsSmallCall call → i + n ≤ call.length → All HasSmallName (map (sink_at t call) (range_with_len i n))
bytes_small t call i zero c h = All-nil HasSmallName
bytes_small t call i (suc n) c h =
    All-cons HasSmallName (sink_at t call i) _ (omega (arith, c.channel), omega (arith, c.offsets, h)) (bytes_small t call (i + 1) n c (omega (arith, h)))

written_small : (t : ℕ) (c : Option CallSeen) → IsSmallIfCall c → All HasSmallName (sinks_of_step t c)
written_small t None h = All-nil HasSmallName
written_small t (Some call) h = by call.kind
  where
    by : (k : CallKind) → All HasSmallName (sinks_of_call t call k)
    by kind.Write = bytes_small t call 0 call.length h (omega arith)
    by k = All-nil HasSmallName

sinks_small : (q : Query) (t : ℕ) (ss : List StepSeen) → AreLocated q.points → t + length ss < 2 ^ 72 → AllByRecursion HasSmallCall ss → All HasSmallName (sinks_from q t ss)
sinks_small q t [] located h small = points_small q t located (omega (arith, h))
sinks_small q t (s ∷ ss) located h small =
    let here = points_small q t located (omega (arith, h)) in
    let step = All-filter (λ (x : Sink). has_sink q x.name) HasSmallName (sinks_of_step t s.call) (written_small t s.call small.0) in
    All-append HasSmallName _ _ (All-append HasSmallName _ _ here step) (sinks_small q (t + 1) ss located (omega (arith, h)) small.1)

-- ---- rows

pub rows_are_small : RowsAreSmall
rows_are_small q state log located form =
    let ss = trace state log in
    let small = trace_small state log form in
    let short : 0 + length ss < 2 ^ 72 = omega (arith, length-steps_from (steps log) (start state log), steps_within log.end, end_at-small log.end form.end) in
    let of_sink : (s : Sink) → HasSmallName s → IsSmallRow (row q ss s) = λ s h. (h, sources_small (policy_of q) ss s.time s.loc small) in
    let each = All-map IsSmallRow (row q ss) (chosen_sinks q ss) (All-weaker HasSmallName (λ s. IsSmallRow (row q ss s)) of_sink (chosen_sinks q ss) (sinks_small q 0 ss located short small)) in
    All-set_of row_cmp IsSmallRow (rows_as_written q ss) (recursion_from_All IsSmallRow (rows_as_written q ss) each)
