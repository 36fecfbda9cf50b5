-- Contents and origins along a run, and the rows of its report.
use Rattle.std.proofs.Common.{◌≡◌, ℕ, zero, suc, ◌+◌, ◌<◌, ◌≤◌, ◌⊎◌, inl, inr, List, [], ◌∷◌, None, refl, arith, ap, sym, ◌∙◌, subst, Bool, true, false, Option, Some, ◌^◌, ◌++◌, length, get_or, ℤ, pos, get_or-append-add, ltb-true, mod-eq_of_lt, cond, ap₂, ◌==◌, map, eqb-true}
use Rattle.std.proofs.lemmas.Bool.{cases_lt}
use Rattle.isa.specs.Machine.{State, Outcome, Retired, Called, Trapped, next, reg, bytes_at, wrap}
use Rattle.log_model.specs.declared.CallRecord.{CallRecord}
use Rattle.log_model.specs.Logs.{Log, steps}
use Rattle.replay_model.specs.Run.{Moment, start, call_seen, advance, moment_after, step_of, steps_from, trace}
use Rattle.replay_model.specs.Comparison.{bytes_compared, first_different, arguments, arguments_of, allowed, compared}
use Rattle.replay_model.proofs.Agreement.{first_agrees, rest_agrees}
use Rattle.replay_model.proofs.Track.{IsOnTrackAt, on_track_at}
use Rattle.decision_find.proofs.Answered.{IsDoneAt}
use Rattle.decision_find.proofs.Answered.{done_at as answered_at}
use Rattle.replay_model.proofs.Offsets.{moment_later, steps_within, transfer_offset, step_at_from}
use Rattle.record_model.specs.States.{IsSound}
use Rattle.answer_meaning.specs.StepLaws.{SameStep, IsDoneBy, IsDone, receives, receives_by, IsAnswered, bytes_given, OnlyMoves, DeterminedBy}
use Rattle.answer_meaning.specs.RunLaws.{IsRun, moment_at, byte_received, byte_at_sink, content_at, under, AlikeElsewhere, IsCopied, NoOrigin, OneOrigin, SamePath, CopiedContents, SamePathSameTrace, DeterminedContents, AlikeAt, CopiedRows, DeterminedRows, FitsMakesRun}
use Rattle.answer_meaning.proofs.Steps.{sound_after, none_is, some_is, Does, Plain, Calls, does, same_call, moves_keep_content, received_is_there}
use Rattle.std.specs.Prelude.{if◌then◌else◌, All}
use Rattle.lists.specs.Sets.{union}
use Rattle.lists.proofs.Tests.{true-false}
use Rattle.flow_model.specs.declared.Loc.{Loc}
use Rattle.flow_model.specs.declared.SourceByte.{SourceByte}
use Rattle.flow_model.specs.declared.StepSeen.{StepSeen}
use Rattle.flow_model.specs.declared.CallSeen.{CallSeen}
use Rattle.flow_model.specs.Orders.{source_cmp}
use Rattle.flow_model.specs.Flow.{from, is_received, distance, is_received_by}
use Rattle.flow_model.specs.Origins.{Policy, introduced, fresh_by, byte_at, union_over, after_step, origins, step_at}
use Rattle.flow_model.proofs.OriginsRead.{introduced_alone, origins_were_read}
use Rattle.std.proofs.lemmas.List.{get_or_append_left, length-append}
use Rattle.lists.proofs.Numbers.{if-itself}
use Rattle.isa.specs.Calls.{channel_of, buffer_of, refusal_of}
use Rattle.isa.proofs.Window.{holds_by, wrap-lt}
use Rattle.log_model.specs.declared.CallRecord.TheVariants.{Read, Write}
use Rattle.log_model.specs.Moved.{received, written}
use Rattle.log_model.proofs.Moved.{received-append, written-append}
use Rattle.flow_model.specs.declared.Loc.TheVariants.{Mem, Reg}
use Rattle.report_model.specs.Rows.{sink_at, Sink, sinks_of_call, sinks_of_step, point_sink, points_at, sinks_from, chosen_sinks, Row, row, rows, rows_as_written, row_cmp}
use Rattle.replay_model.proofs.Transfers.{write_held}
use Rattle.answer_meaning.specs.Content.{content, AgreeAt}
use Rattle.record_model.proofs.Sound.{bytes_length}
use Rattle.std.specs.List.{AllByRecursion, filter, All, range_with_len}
use Rattle.std.proofs.lemmas.List.Elements.{recursion_from_All, All-from_recursion, All-weaker}
use Rattle.lists.proofs.Lists.{all-append, all-filter, all-map, all-weaken}
use Rattle.flow_model.specs.declared.Rule.{Rule}
use Rattle.flow_model.specs.Ranges.{IsLocation}
use Rattle.answer_meaning.proofs.Flows.{IsPlace, AtMostOne, Nothing, One, single_place}
use Rattle.answer_meaning.proofs.Targets.{byte_of_window, byte_beyond, union_over-all}
use Rattle.isa.specs.declared.CallKind.{CallKind}
use Rattle.lists.proofs.Algebra.{All-set_of}
use Rattle.flow_model.specs.declared.InnerSink.{InnerSink}
use Rattle.report_model.specs.Query.{Query, has_source, has_sink, policy_of}
use Rattle.std.specs.Option.{option_and_then}
use Rattle.flow_model.specs.OriginLaws.{WasRead}
use Rattle.replay_model.specs.Offsets.{call_at}
use Rattle.replay_model.specs.Received.{ReadsByteAt}
use Rattle.replay_model.proofs.Received.{reads_are_received}
use Rattle.answer_meaning.specs.MovedLaws.{WasReceived, IsOfMovedBytes, RowsAreOfMovedBytes}
use Rattle.isa.specs.declared.CallKind.TheVariants as kind
use Rattle.replay_model.specs.declared.Field.TheVariants as field
use Rattle.record_model.proofs.Beginning.{begins}
use Rattle.replay_model.specs.Comparison.{result as result_compared}

-- the moments of a run are on track, at their times
pub on_track : (log : Log) (s : State) (t : ℕ) → IsRun log s → t < steps log → IsOnTrackAt log t (moment_at s log t)
on_track log s t run h = let x = steps_within log.end in on_track_at log s t run.form run.agrees (omega arith)

pub done_at : (log : Log) (s : State) (t : ℕ) → IsRun log s → t < steps log → IsDone log.inputs (moment_at s log t)
done_at log s t run h = by (next m.state) m.left (answered_at log s t run.form run.agrees h)
  where
    m : Moment
    m = moment_at s log t

    by : (o : Outcome) (left : List CallRecord) → IsDoneAt log t m.state left o → IsDoneBy m.state log.inputs left o
    by (Retired x) left d = tt
    by (Called call) [] d = tt
    by (Called call) (r ∷ rs) d = (d.1, d.2)
    by (Trapped k) left d = d

-- each state up to the end is sound
pub sound_at : (log : Log) (s : State) (t : ℕ) → IsRun log s → t ≤ steps log → IsSound (moment_at s log t).state
sound_at log s zero run h = run.sound
sound_at log s (suc t) run h =
    subst (λ (m : Moment). IsSound m.state) (sym (moment_later t (start s log)))
    (sound_after log.inputs (moment_at s log t) (sound_at log s t run (omega arith)) (done_at log s t run (omega arith)))

-- ---- the origins after a step

pub record Receives (step : StepSeen) (l : Loc) : Type 0 where
  pub call : CallSeen
  pub is_call : step.call ≡ Some call
  pub is_there : is_received call l ≡ true

pub receives_one : (step : StepSeen) (l : Loc) → receives step l ≡ true → Receives step l
receives_one step l h = by step.call refl h
  where
    by : (o : Option CallSeen) → step.call ≡ o → receives_by o l ≡ true → Receives step l
    by None e h = true-false (sym h)
    by (Some call) e h = record { call = call; is_call = e; is_there = h }

none_fresh : (policy : Policy) (o : Option CallSeen) (l : Loc) → receives_by o l ≡ false → fresh_by policy o l ≡ []
none_fresh policy None l h = refl
none_fresh policy (Some call) l h = ap (λ (b : Bool). if b then introduced policy (byte_at call l) else []) h

-- where nothing is received, the origins are those of what flows in
pub flows : (policy : Policy) (step : StepSeen) (before : Loc → List SourceByte) (l : Loc) → receives step l ≡ false → after_step policy (Some step) before l ≡ union_over before (from policy.rule step l)
flows policy step before l h = ap (λ (bs : List SourceByte). union source_cmp bs (union_over before (from policy.rule step l))) (none_fresh policy step.call l h)

-- where a byte is received, it is the one origin
pub arrives : (policy : Policy) (step : StepSeen) (before : Loc → List SourceByte) (l : Loc) (g : Receives step l) → after_step policy (Some step) before l ≡ introduced policy (byte_at g.call l)
arrives policy step before l g = rw (g.is_call, g.is_there) (introduced_alone policy (byte_at g.call l))

-- a byte of the middle of three lists
middle : (before bytes rest whole : List ℕ) (i : ℕ) → whole ≡ before ++ (bytes ++ rest) → i < length bytes → get_or whole (length before + i) 0 ≡ get_or bytes i 0
middle before bytes rest whole i e h =
    ap (λ (xs : List ℕ). get_or xs (length before + i) 0) e ∙ get_or-append-add before (bytes ++ rest) i 0 ∙ get_or_append_left bytes rest 0 i h

-- ---- what a read receives

-- the log's byte of that name is the one that the read puts there
pub received_given : (log : Log) (inputs : ℕ) (m : Moment) (s : State) (left : List CallRecord) → m.done ++ left ≡ log.records → IsAnswered s inputs left → (p : ℕ) → is_received (call_seen m left) (Mem p) ≡ true
    → byte_received log (byte_at (call_seen m left) (Mem p)) ≡ get_or (bytes_given left) (distance (call_seen m left).place p) 0
received_given log inputs m s (Read at args result bytes ∷ rs) all a p r =
    let c = channel_of args in
    let i = distance (buffer_of args) p in
    let below : i < length bytes = ltb-true i (length bytes) r in
    let whole : received c log.records ≡ received c m.done ++ (bytes ++ received c rs) =
    ap (received c) (sym all) ∙ received-append c m.done (Read at args result bytes ∷ rs) ∙ ap (λ (xs : List ℕ). received c m.done ++ (xs ++ received c rs)) (if-itself c bytes []) in
    ap (λ (o : ℕ). get_or (received c log.records) (o + i) 0) (transfer_offset kind.Read args (received c m.done) (length bytes) (omega arith))
    ∙ middle (received c m.done) bytes (received c rs) (received c log.records) i whole below
received_given log inputs m s [] all a p r = cc
received_given log inputs m s left all a p r = cc

-- ---- what a write sends

same_bytes : (k : ℕ) (xs ys : List ℕ) (i : ℕ) → first_different (bytes_compared k xs ys) ≡ None → i < length xs → i < length ys → get_or xs i 0 ≡ get_or ys i 0
same_bytes k [] ys i d h g = absurd (omega arith)
same_bytes k (x ∷ xs) [] i d h g = absurd (omega arith)
same_bytes k (x ∷ xs) (y ∷ ys) zero d h g =
    let first = first_agrees (compared (field.Byte k) x y) (bytes_compared (k + 1) xs ys) d in
    let same : pos x ≡ pos y = first.0 in cc
same_bytes k (x ∷ xs) (y ∷ ys) (suc i) d h g = same_bytes (k + 1) xs ys i (first_agrees (compared (field.Byte k) x y) (bytes_compared (k + 1) xs ys) d).1 (omega arith) (omega arith)

-- a byte that a write sends is the content of its place
pub written_content : (s : State) (inputs at : ℕ) (args : List ℕ) (kept : ℤ) (bytes : List ℕ) (rs : List CallRecord) (i : ℕ) → IsSound s → IsAnswered s inputs (Write at args kept bytes ∷ rs) → i < length bytes → content s (Mem (wrap (buffer_of args + i))) ≡ get_or bytes i 0
written_content s inputs at args kept bytes rs i sound a h =
    let rest = bytes_compared 0 bytes (bytes_at s (reg s 11) (length bytes)) in
    let held = write_held s inputs at args kept bytes rest a.0 a.1 (omega arith) in
    let w = holds_by s (reg s 11) (length bytes) held.held in
    let later = rest_agrees (arguments s args) (result_compared kept (allowed (refusal_of s 16 (arguments_of s)) kept (reg s 12)) ∷ rest) a.1 in
    let same = (first_agrees (result_compared kept (allowed (refusal_of s 16 (arguments_of s)) kept (reg s 12))) rest later).1 in
    let long : length (bytes_at s (reg s 11) (length bytes)) ≡ length bytes = bytes_length s (reg s 11) (length bytes) w in
    let whole : wrap (buffer_of args + i) ≡ reg s 11 + i = place (buffer_of args) (reg s 11) held.buffer w.below sound.ends in
    ap (λ (p : ℕ). content s (Mem p)) whole ∙ sym (byte_of_window s (reg s 11) (length bytes) i w h) ∙ sym (same_bytes 0 bytes (bytes_at s (reg s 11) (length bytes)) i same h (omega arith))
  where
    place : (b a : ℕ) → b ≡ a → a + length bytes ≤ s.base + length s.memory → s.base + length s.memory ≤ 2 ^ 32 → wrap (b + i) ≡ a + i
    place b a e g f = let same : b + i ≡ a + i = ap (λ (n : ℕ). n + i) e in ap wrap same ∙ mod-eq_of_lt (omega arith)

-- the bytes that a log writes on the channel of a write: those of the records before it, its own, and those of later ones
written_parts : (log : Log) (m : Moment) (at : ℕ) (args : List ℕ) (kept : ℤ) (bytes : List ℕ) (rs : List CallRecord) → m.done ++ Write at args kept bytes ∷ rs ≡ log.records
    → written (channel_of args) log.records ≡ written (channel_of args) m.done ++ (bytes ++ written (channel_of args) rs)
written_parts log m at args kept bytes rs all =
    let c = channel_of args in
    ap (written c) (sym all) ∙ written-append c m.done (Write at args kept bytes ∷ rs) ∙ ap (λ (xs : List ℕ). written c m.done ++ (xs ++ written c rs)) (if-itself c bytes [])

-- and is the log's byte of that name
pub written_given : (log : Log) (inputs t : ℕ) (m : Moment) (s : State) (left : List CallRecord) (i : ℕ) → IsSound s → m.done ++ left ≡ log.records → IsAnswered s inputs left → (call_seen m left).kind ≡ kind.Write → i < (call_seen m left).length
    → content s (sink_at t (call_seen m left) i).loc ≡ byte_at_sink s log (sink_at t (call_seen m left) i).name
written_given log inputs t m s (Write at args result bytes ∷ rs) i sound all a k g =
    let c = channel_of args in
    let whole = written_parts log m at args result bytes rs all in
    written_content s inputs at args result bytes rs i sound a g
    ∙ sym (ap (λ (o : ℕ). get_or (written c log.records) (o + i) 0) (transfer_offset kind.Write args (written c m.done) (length bytes) (omega arith))
    ∙ middle (written c m.done) bytes (written c rs) (written c log.records) i whole g)
written_given log inputs t m s [] i sound all a k g = cc
written_given log inputs t m s left i sound all a k g = cc

-- whose offset is below the number of bytes that the log writes on its channel
pub written_within : (log : Log) (m : Moment) (left : List CallRecord) (i : ℕ) → m.done ++ left ≡ log.records → (call_seen m left).kind ≡ kind.Write → i < (call_seen m left).length
    → (call_seen m left).offset + i < length (written (call_seen m left).channel log.records)
written_within log m (Write at args result bytes ∷ rs) i all k g =
    let c = channel_of args in
    let before = written c m.done in
    let whole : length (written c log.records) ≡ length before + length (bytes ++ written c rs) =
    ap length (written_parts log m at args result bytes rs all) ∙ length-append before (bytes ++ written c rs) in
    let inside : length before + i < length (written c log.records) = omega (arith, whole, length-append bytes (written c rs), g) in
    subst (λ (o : ℕ). o + i < length (written c log.records)) (sym (transfer_offset kind.Write args before (length bytes) (omega arith))) inside
written_within log m [] i all k g = cc
written_within log m left i all k g = cc

-- ---- a step of the trace

pub step_there : (s : State) (log : Log) (t : ℕ) → t < steps log → step_at (trace s log) t ≡ Some (step_of (moment_at s log t))
step_there s log t h = step_at_from (steps log) t (start s log) h

origins_after : (policy : Policy) (s : State) (log : Log) (t : ℕ) (l : Loc) → t < steps log → origins policy (trace s log) (suc t) l ≡ after_step policy (Some (step_of (moment_at s log t))) (origins policy (trace s log) t) l
origins_after policy s log t l h = ap (λ (o : Option StepSeen). after_step policy o (origins policy (trace s log) t) l) (step_there s log t h)

pub content_after : (s : State) (log : Log) (t : ℕ) (l : Loc) → content_at s log (suc t) l ≡ content (advance (moment_at s log t)).state l
content_after s log t l = ap (λ (m : Moment). content m.state l) (moment_later t (start s log))

-- a step that is seen to be a call is answered by what is left
record IsAnsweredAt (log : Log) (m : Moment) (call : CallSeen) : Type 0 where
  answered : IsAnswered m.state log.inputs m.left
  seen : call_seen m m.left ≡ call

answered_as : (log : Log) (s : State) (t : ℕ) (call : CallSeen) → IsRun log s → t < steps log → (step_of (moment_at s log t)).call ≡ Some call
    → IsAnsweredAt log (moment_at s log t) call
answered_as log s t call run h e = by (does log.inputs (moment_at s log t) (done_at log s t run h))
  where
    by : Does log.inputs (moment_at s log t) → IsAnsweredAt log (moment_at s log t) call
    by (Plain u x f se sa) = none_is (sym (ap (λ (z : StepSeen). z.call) se) ∙ e)
    by (Calls c f a se sa) = record { answered = a; seen = some_is (sym (ap (λ (z : StepSeen). z.call) se) ∙ e) }

-- the byte that a step of a run puts at an address
received_now : (log : Log) (s : State) (t : ℕ) (call : CallSeen) (p : ℕ) → IsRun log s → t < steps log → (step_of (moment_at s log t)).call ≡ Some call → is_received call (Mem p) ≡ true
    → byte_received log (byte_at call (Mem p)) ≡ get_or (bytes_given (moment_at s log t).left) (distance call.place p) 0
received_now log s t call p run h e r =
    let m = moment_at s log t in
    let a = answered_as log s t call run h e in
    subst (λ (x : CallSeen). is_received x (Mem p) ≡ true → byte_received log (byte_at x (Mem p)) ≡ get_or (bytes_given m.left) (distance x.place p) 0) a.seen
    (received_given log log.inputs m m.state m.left (on_track log s t run h).on.all a.answered p) r

-- the content of an address that receives a byte
received_content : (log : Log) (s : State) (t : ℕ) (call : CallSeen) (p : ℕ) → IsRun log s → t < steps log → p < 2 ^ 32 → (step_of (moment_at s log t)).call ≡ Some call → is_received call (Mem p) ≡ true
    → content_at s log (suc t) (Mem p) ≡ byte_received log (byte_at call (Mem p))
received_content log s t call p run h x e r =
    content_after s log t (Mem p)
    ∙ (received_is_there log.inputs (moment_at s log t) call p (sound_at log s t run (omega arith)) (done_at log s t run h) x e r).content_is
    ∙ sym (received_now log s t call p run h e r)

-- ---- moves

introduced_copied : (log : Log) (policy : Policy) (v : ℕ) (b : SourceByte) → v ≡ byte_received log b → IsCopied log v (introduced policy b)
introduced_copied log policy v b e = by (policy.introduces b)
  where
    by : (c : Bool) → IsCopied log v (cond c (b ∷ []) [])
    by true = OneOrigin b refl e
    by false = NoOrigin refl

copied_as : (log : Log) (v w : ℕ) (bs cs : List SourceByte) → v ≡ w → bs ≡ cs → IsCopied log w cs → IsCopied log v bs
copied_as log v w bs cs e f (NoOrigin g) = NoOrigin (f ∙ g)
copied_as log v w bs cs e f (OneOrigin b g h) = OneOrigin b (f ∙ g) (e ∙ h)

copied_received : (log : Log) (s : State) (rule : Rule) (introduces : SourceByte → Bool) (t : ℕ) (l : Loc) → IsRun log s → t < steps log → IsPlace l → Receives (step_of (moment_at s log t)) l → IsCopied log (content_at s log (suc t) l) (origins (under rule introduces) (trace s log) (suc t) l)
copied_received log s rule introduces t (Reg r i) run h p g = true-false (sym g.is_there)
copied_received log s rule introduces t (Mem q) run h p g =
    let policy = under rule introduces in
    copied_as log (content_at s log (suc t) (Mem q)) (content_at s log (suc t) (Mem q)) (origins policy (trace s log) (suc t) (Mem q)) (introduced policy (byte_at g.call (Mem q))) refl
    (origins_after policy s log t (Mem q) h ∙ arrives policy (step_of (moment_at s log t)) (origins policy (trace s log) t) (Mem q) g)
    (introduced_copied log policy (content_at s log (suc t) (Mem q)) (byte_at g.call (Mem q)) (received_content log s t g.call q run h p g.is_call g.is_there))

copied_moved : (log : Log) (s : State) (rule : Rule) → OnlyMoves rule → (introduces : SourceByte → Bool) (t : ℕ) (l : Loc) → IsRun log s → t < steps log → receives (step_of (moment_at s log t)) l ≡ false
    → ((k : Loc) → IsPlace k → IsCopied log (content_at s log t k) (origins (under rule introduces) (trace s log) t k)) → AtMostOne IsPlace (from rule (step_of (moment_at s log t)) l) → IsCopied log (content_at s log (suc t) l) (origins (under rule introduces) (trace s log) (suc t) l)
copied_moved log s rule only introduces t l run h g ih (Nothing e) =
    let policy = under rule introduces in
    NoOrigin (origins_after policy s log t l h ∙ flows policy (step_of (moment_at s log t)) (origins policy (trace s log) t) l g ∙ ap (union_over (origins policy (trace s log) t)) e)
copied_moved log s rule only introduces t l run h g ih (One k p e) =
    let policy = under rule introduces in
    copied_as log (content_at s log (suc t) l) (content_at s log t k) (origins policy (trace s log) (suc t) l) (origins policy (trace s log) t k)
    (content_after s log t l ∙ moves_keep_content rule only log.inputs (moment_at s log t) l k (sound_at log s t run (omega arith)) (done_at log s t run h) e)
    (origins_after policy s log t l h ∙ flows policy (step_of (moment_at s log t)) (origins policy (trace s log) t) l g ∙ ap (union_over (origins policy (trace s log) t)) e)
    (ih k p)

copied : (log : Log) (s : State) → IsRun log s → (rule : Rule) → OnlyMoves rule → (introduces : SourceByte → Bool) (t : ℕ) (l : Loc) → t ≤ steps log → IsPlace l → IsCopied log (content_at s log t l) (origins (under rule introduces) (trace s log) t l)
copied log s run rule only introduces zero l h p = NoOrigin refl
copied log s run rule only introduces (suc t) l h p = by (λ k q. copied log s run rule only introduces t k (omega arith) q) (receives (step_of (moment_at s log t)) l) refl
  where
    by : ((k : Loc) → IsPlace k → IsCopied log (content_at s log t k) (origins (under rule introduces) (trace s log) t k)) → (b : Bool) → receives (step_of (moment_at s log t)) l ≡ b → IsCopied log (content_at s log (suc t) l) (origins (under rule introduces) (trace s log) (suc t) l)
    by ih true e = copied_received log s rule introduces t l run (omega arith) p (receives_one (step_of (moment_at s log t)) l e)
    by ih false e = copied_moved log s rule only introduces t l run (omega arith) e ih (single_place rule only (step_of (moment_at s log t)) l p)

a_place : (l : Loc) → IsLocation l → IsPlace l
a_place (Reg r i) h = tt
a_place (Mem p) h = h

pub copied_contents : CopiedContents
copied_contents log s run rule only introduces t l h p = copied log s run rule only introduces t l h (a_place l p)

-- ---- the other rules

introduced_alike : (a b : Log) (policy : Policy) (x : SourceByte) → AlikeElsewhere policy.introduces a b → AllByRecursion (λ y. byte_received a y ≡ byte_received b y) (introduced policy x) → byte_received a x ≡ byte_received b x
introduced_alike a b policy x elsewhere alike = by (policy.introduces x) refl alike
  where
    by : (c : Bool) → policy.introduces x ≡ c → AllByRecursion (λ y. byte_received a y ≡ byte_received b y) (cond c (x ∷ []) []) → byte_received a x ≡ byte_received b x
    by true e alike = alike.0
    by false e alike = elsewhere x e

-- two runs, and what is true of source bytes
module _ (rule : Rule) (a b : Log) (s : State) (introduces : SourceByte → Bool) (Q : SourceByte → Type 0) where
  -- where it is true of a location's origins, its contents agree
  abbrev pub IsAlike : ℕ → Loc → Type 0
  IsAlike t l = AllByRecursion Q (origins (under rule introduces) (trace s a) t l) → content_at s a t l ≡ content_at s b t l

  -- and so do the bytes that a step of both puts at a place
  abbrev pub ReceivesAlike : ℕ → Type 0
  ReceivesAlike t = (call : CallSeen) (q : ℕ) → (step_of (moment_at s a t)).call ≡ Some call → (step_of (moment_at s b t)).call ≡ Some call → q < 2 ^ 32 → is_received call (Mem q) ≡ true
      → AllByRecursion Q (introduced (under rule introduces) (byte_at call (Mem q))) → content_at s a (suc t) (Mem q) ≡ content_at s b (suc t) (Mem q)

  -- where both do the same, contents agree after the step as they did before it
  pub alike_next : DeterminedBy rule → IsRun a s → IsRun b s → (t : ℕ) (l : Loc) → t < steps a → t < steps b → SameStep rule (moment_at s a t) (moment_at s b t) → ReceivesAlike t → ((k : Loc) → IsAlike t k) → IsAlike (suc t) l
  alike_next law ra rb t l h g same received before alike = by (receives (step_of m) l) refl
    where
      m : Moment
      m = moment_at s a t

      n : Moment
      n = moment_at s b t

      policy : Policy
      policy = under rule introduces

      beyond : (log : Log) → IsRun log s → t < steps log → (q : ℕ) → 2 ^ 32 ≤ q → content_at s log (suc t) (Mem q) ≡ 0
      beyond log run f q x = let u = sound_at log s (suc t) run (omega arith) in let y = u.ends in byte_beyond (moment_at s log (suc t)).state.base (moment_at s log (suc t)).state.memory q (omega arith)

      placed : (l : Loc) (r : Receives (step_of m) l) → AllByRecursion Q (introduced policy (byte_at r.call l)) → content_at s a (suc t) l ≡ content_at s b (suc t) l
      placed (Reg r i) x clear = true-false (sym x.is_there)
      placed (Mem q) x clear = at (cases_lt q (2 ^ 32))
        where
          at : (q < 2 ^ 32) ⊎ (2 ^ 32 ≤ q) → content_at s a (suc t) (Mem q) ≡ content_at s b (suc t) (Mem q)
          at (inl low) = received x.call q x.is_call (sym (same_call rule (step_of m) (step_of n) same.step) ∙ x.is_call) low x.is_there clear
          at (inr high) = beyond a ra h q high ∙ sym (beyond b rb g q high)

      by : (c : Bool) → receives (step_of m) l ≡ c → content_at s a (suc t) l ≡ content_at s b (suc t) l
      by true e =
          let r = receives_one (step_of m) l e in
          placed l r (subst (AllByRecursion Q) (origins_after policy s a t l h ∙ arrives policy (step_of m) (origins policy (trace s a) t) l r) alike)
      by false e =
          let whole = origins_after policy s a t l h ∙ flows policy (step_of m) (origins policy (trace s a) t) l e in
          let each = union_over-all Q (origins policy (trace s a) t) (from rule (step_of m) l) (subst (AllByRecursion Q) whole alike) in
          let agree : AgreeAt m.state n.state (from rule (step_of m) l) = all-weaken _ (λ k. content m.state k ≡ content n.state k) before (from rule (step_of m) l) each in
          content_after s a t l
          ∙ law a.inputs b.inputs m n l (sound_at a s t ra (omega arith)) (sound_at b s t rb (omega arith)) (done_at a s t ra h) (done_at b s t rb g) same e agree
          ∙ sym (content_after s b t l)

all_alike : (rule : Rule) → DeterminedBy rule → (a b : Log) (s : State) → IsRun a s → IsRun b s → SamePath rule s a b → (introduces : SourceByte → Bool) → AlikeElsewhere introduces a b → (t : ℕ) (l : Loc) → t ≤ steps a → IsAlike rule a b s introduces (λ x. byte_received a x ≡ byte_received b x) t l
all_alike rule law a b s ra rb path introduces elsewhere zero l h alike = refl
all_alike rule law a b s ra rb path introduces elsewhere (suc t) l h alike =
    let later : t < steps b = let x = path.as_long in omega arith in
    alike_next rule a b s introduces (λ x. byte_received a x ≡ byte_received b x) law ra rb t l (omega arith) later (path.each t (omega arith))
    (λ call q x y low there clear. received_content a s t call q ra (omega arith) low x there ∙ introduced_alike a b (under rule introduces) (byte_at call (Mem q)) elsewhere clear ∙ sym (received_content b s t call q rb later low y there))
    (λ k. all_alike rule law a b s ra rb path introduces elsewhere t k (omega arith)) alike

pub determined_contents : (rule : Rule) → DeterminedBy rule → DeterminedContents rule
determined_contents rule law a b s ra rb path introduces elsewhere t l h alike =
    all_alike rule law a b s ra rb path introduces elsewhere t l h (recursion_from_All (λ x. byte_received a x ≡ byte_received b x) (origins (under rule introduces) (trace s a) t l) alike)

-- ---- one trace

same_steps : (n : ℕ) (m p : Moment) → ((k : ℕ) → k < n → step_of (moment_after k m) ≡ step_of (moment_after k p)) → steps_from n m ≡ steps_from n p
same_steps zero m p h = refl
same_steps (suc n) m p h = ap₂ (λ (x : StepSeen) (xs : List StepSeen). x ∷ xs) (h 0 (omega arith)) (same_steps n (advance m) (advance p) (λ k g. h (suc k) (omega arith)))

pub same_trace : SamePathSameTrace
same_trace a b s path = same_steps (steps a) (start s a) (start s b) (λ k h. (path.each k h).step) ∙ ap (λ (n : ℕ). steps_from n (start s b)) path.as_long

-- ---- each sink of a run

module _ (Q : Sink → Type 0) where
  all_mapped : (f : ℕ → Sink) (a n : ℕ) → ((i : ℕ) → i < a + n → Q (f i)) → AllByRecursion Q (map f (range_with_len a n))
  all_mapped f a zero h = tt
  all_mapped f a (suc n) h = (h a (omega arith), all_mapped f (a + 1) n (λ i g. h i (omega arith)))

  all_kept : (f : Sink → Bool) (xs : List Sink) → AllByRecursion Q xs → AllByRecursion Q (filter f xs)
  all_kept f xs h = all-weaken _ Q (λ x both. both.1) (filter f xs) (all-filter Q f xs h)

  -- the output bytes of a step
  all_of_call : (t : ℕ) (call : CallSeen) (k : CallKind) → call.kind ≡ k → (call.kind ≡ kind.Write → (i : ℕ) → i < call.length → Q (sink_at t call i)) → AllByRecursion Q (sinks_of_call t call k)
  all_of_call t call kind.Write e h = all_mapped (sink_at t call) 0 call.length (λ i g. h e i (omega arith))
  all_of_call t call other e h = tt

  all_of_step : (t : ℕ) (o : Option CallSeen) → ((call : CallSeen) → o ≡ Some call → call.kind ≡ kind.Write → (i : ℕ) → i < call.length → Q (sink_at t call i)) → AllByRecursion Q (sinks_of_step t o)
  all_of_step t None h = tt
  all_of_step t (Some call) h = all_of_call t call call.kind refl (h call refl)

  -- the points at a time
  all_due : (last t : ℕ) → t ≤ last → (ps : List InnerSink) → AllByRecursion (λ p. p.time ≤ last → Q (point_sink p)) ps → AllByRecursion Q (map point_sink (filter (λ p. p.time == t) ps))
  all_due last t h ps all =
      all-map Q point_sink (filter (λ p. p.time == t) ps)
      (all-weaken _ (λ p. Q (point_sink p)) (λ p both. both.1 (omega (arith, eqb-true p.time t both.0))) (filter (λ p. p.time == t) ps) (all-filter (λ p. p.time ≤ last → Q (point_sink p)) (λ p. p.time == t) ps all))

  all_from : (q : Query) (n k : ℕ) (m : Moment) → ((t : ℕ) → t ≤ k + n → AllByRecursion Q (points_at q t)) → ((j : ℕ) → j < n → AllByRecursion Q (sinks_of_step (k + j) (step_of (moment_after j m)).call)) → AllByRecursion Q (sinks_from q k (steps_from n m))
  all_from q zero k m points outputs = points k (omega arith)
  all_from q (suc n) k m points outputs =
      let here : k + 0 ≡ k = omega arith in
      let first = subst (λ (t : ℕ). AllByRecursion Q (sinks_of_step t (step_of m).call)) here (outputs 0 (omega arith)) in
      all-append Q (points_at q k ++ filter (λ x. has_sink q x.name) (sinks_of_step k (step_of m).call)) (sinks_from q (k + 1) (steps_from n (advance m)))
      (all-append Q (points_at q k) (filter (λ x. has_sink q x.name) (sinks_of_step k (step_of m).call)) (points k (omega arith)) (all_kept (λ x. has_sink q x.name) (sinks_of_step k (step_of m).call) first))
      (all_from q n (k + 1) (advance m) (λ t h. points t (omega arith))
      (λ j h. let later : k + suc j ≡ k + 1 + j = omega arith in subst (λ (t : ℕ). AllByRecursion Q (sinks_of_step t (step_of (moment_after (suc j) m)).call)) later (outputs (suc j) (omega arith))))

  -- the points of a query up to the end, and the output bytes of a run
  pub all_sinks : (q : Query) (s : State) (log : Log) → AllByRecursion (λ p. p.time ≤ steps log → Q (point_sink p)) q.points
      → ((t : ℕ) → t < steps log → (call : CallSeen) → (step_of (moment_at s log t)).call ≡ Some call → call.kind ≡ kind.Write → (i : ℕ) → i < call.length → Q (sink_at t call i))
      → AllByRecursion Q (chosen_sinks q (trace s log))
  all_sinks q s log points outputs = all_from q (steps log) 0 (start s log) (λ t h. all_due (steps log) t (omega arith) q.points points)
      (λ j h. let same : j ≡ 0 + j = omega arith in subst (λ (t : ℕ). AllByRecursion Q (sinks_of_step t (step_of (moment_at s log j)).call)) same (all_of_step j (step_of (moment_at s log j)).call (outputs j h)))

pub all_rows : (Q : Row → Type 0) (q : Query) (trace : List StepSeen) → AllByRecursion (λ x. Q (row q trace x)) (chosen_sinks q trace) → All Q (rows q trace)
all_rows Q q trace h = All-from_recursion Q (rows q trace) (All-set_of row_cmp Q (rows_as_written q trace) (all-map Q (row q trace) (chosen_sinks q trace) h))

pub each_point : (Q : InnerSink → Type 0) → ((p : InnerSink) → Q p) → (ps : List InnerSink) → AllByRecursion Q ps
each_point Q f [] = tt
each_point Q f (p ∷ ps) = (f p, each_point Q f ps)

-- ---- output bytes

-- an output byte is the content of its place when it is written
output_is : (log : Log) (s : State) (t : ℕ) (call : CallSeen) (i : ℕ) → IsRun log s → t < steps log → (step_of (moment_at s log t)).call ≡ Some call → call.kind ≡ kind.Write → i < call.length
    → content_at s log t (sink_at t call i).loc ≡ byte_at_sink s log (sink_at t call i).name
output_is log s t call i run h e w g =
    let m = moment_at s log t in
    let a = answered_as log s t call run h e in
    subst (λ (x : CallSeen). x.kind ≡ kind.Write → i < x.length → content m.state (sink_at t x i).loc ≡ byte_at_sink s log (sink_at t x i).name) a.seen
    (written_given log log.inputs t m m.state m.left i (sound_at log s t run (omega arith)) (on_track log s t run h).on.all a.answered) w g

-- ---- the laws

abbrev HasCopied : Log → State → Rule → (SourceByte → Bool) → Sink → Type 0
HasCopied log s rule introduces x = IsCopied log (byte_at_sink s log x.name) (origins (under rule introduces) (trace s log) x.time x.loc)

copied_sinks : (log : Log) (s : State) → IsRun log s → (rule : Rule) → OnlyMoves rule → (q : Query) → All (λ p. IsLocation p.loc) q.points → AllByRecursion (HasCopied log s rule (has_source q)) (chosen_sinks q (trace s log))
copied_sinks log s run rule only q located = all_sinks (HasCopied log s rule (has_source q)) q s log
    (all-weaken (λ p. IsLocation p.loc) (λ p. p.time ≤ steps log → HasCopied log s rule (has_source q) (point_sink p)) (λ p l h. copied_contents log s run rule only (has_source q) p.time p.loc h l) q.points (recursion_from_All (λ p. IsLocation p.loc) q.points located))
    (λ t h call e w i g. subst (λ (v : ℕ). IsCopied log v (origins (under rule (has_source q)) (trace s log) t (sink_at t call i).loc)) (output_is log s t call i run h e w g)
    (copied_contents log s run rule only (has_source q) t (sink_at t call i).loc (omega arith) (wrap-lt (call.place + i))))

pub copied_rows : CopiedRows
copied_rows log s run q only located =
    all_rows (λ r. IsCopied log (byte_at_sink s log r.sink) r.sources) q (trace s log) (copied_sinks log s run q.rule only q located)

abbrev IsAlikeIn : Log → Log → State → Rule → (SourceByte → Bool) → Sink → Type 0
IsAlikeIn a b s rule introduces x = AlikeAt a b (origins (under rule introduces) (trace s a) x.time x.loc) → byte_at_sink s a x.name ≡ byte_at_sink s b x.name

determined_sinks : (rule : Rule) → DeterminedBy rule → (a b : Log) (s : State) → IsRun a s → IsRun b s → SamePath rule s a b → (q : Query) → AlikeElsewhere (has_source q) a b → AllByRecursion (IsAlikeIn a b s rule (has_source q)) (chosen_sinks q (trace s a))
determined_sinks rule law a b s ra rb path q elsewhere = all_sinks (IsAlikeIn a b s rule (has_source q)) q s a
    (each_point (λ p. p.time ≤ steps a → IsAlikeIn a b s rule (has_source q) (point_sink p)) (λ p h alike. determined_contents rule law a b s ra rb path (has_source q) elsewhere p.time p.loc h alike) q.points)
    (λ t h call e w i g alike.
    let later : t < steps b = let x = path.as_long in omega arith in
    let called : (step_of (moment_at s b t)).call ≡ Some call = sym (same_call rule (step_of (moment_at s a t)) (step_of (moment_at s b t)) (path.each t h).step) ∙ e in
    sym (output_is a s t call i ra h e w g) ∙ determined_contents rule law a b s ra rb path (has_source q) elsewhere t (sink_at t call i).loc (omega arith) alike ∙ output_is b s t call i rb later called w g)

pub determined_rows : (rule : Rule) → DeterminedBy rule → DeterminedRows rule
determined_rows rule law a b s ra rb path q e elsewhere = all_rows (λ r. AlikeAt a b r.sources → byte_at_sink s a r.sink ≡ byte_at_sink s b r.sink) q (trace s a)
    (subst (λ (x : Rule). AllByRecursion (IsAlikeIn a b s x (has_source q)) (chosen_sinks q (trace s a))) (sym e) (determined_sinks rule law a b s ra rb path q elsewhere))

-- ---- sources

-- a byte that a call puts at a location is one that it reads
read_by : (trace : List StepSeen) (k : ℕ) (call : CallSeen) (p : ℕ) (n : CallKind) → call_at trace k ≡ Some call → call.kind ≡ n → is_received_by n call p ≡ true
    → ReadsByteAt trace call.channel (call.offset + distance call.place p) k
read_by trace k call p kind.Read there e h =
    let below : distance call.place p < call.length = ltb-true (distance call.place p) call.length h in
    record { call = call; there = there; reads = e; on = refl; from = omega arith; to = omega (arith, below) }
read_by trace k call p other there e h = cc

read_at : (trace : List StepSeen) (k : ℕ) (call : CallSeen) (l : Loc) → call_at trace k ≡ Some call → is_received call l ≡ true
    → ReadsByteAt trace (byte_at call l).channel (byte_at call l).offset k
read_at trace k call (Reg r i) there h = true-false (sym h)
read_at trace k call (Mem p) there h = read_by trace k call p call.kind there refl h

was_received : (log : Log) (s : State) → IsRun log s → (policy : Policy) (t : ℕ) (b : SourceByte) → WasRead policy (trace s log) t b → WasReceived log b
was_received log s run policy t b w =
    let c = byte_at w.call w.loc in
    let there : call_at (trace s log) w.number ≡ Some w.call = ap (option_and_then (λ (x : StepSeen). x.call)) w.is_step ∙ w.is_call in
    subst (WasReceived log) w.is_byte
    ((reads_are_received s log run.form run.agrees c.channel c.offset).0 (w.number, read_at (trace s log) w.number w.call w.loc there w.is_there))

sources_received : (log : Log) (s : State) → IsRun log s → (policy : Policy) (t : ℕ) (l : Loc) → All (WasReceived log) (origins policy (trace s log) t l)
sources_received log s run policy t l =
    All-weaker (WasRead policy (trace s log) t) (WasReceived log) (was_received log s run policy t) (origins policy (trace s log) t l) (origins_were_read policy (trace s log) t l)

-- ---- output bytes

output_written : (log : Log) (s : State) (t : ℕ) (call : CallSeen) (i : ℕ) → IsRun log s → t < steps log → (step_of (moment_at s log t)).call ≡ Some call → call.kind ≡ kind.Write → i < call.length
    → call.offset + i < length (written call.channel log.records)
output_written log s t call i run h e w g =
    let m = moment_at s log t in
    subst (λ (x : CallSeen). x.kind ≡ kind.Write → i < x.length → x.offset + i < length (written x.channel log.records)) (answered_as log s t call run h e).seen
    (written_within log m m.left i (on_track log s t run h).on.all) w g

-- ---- the law

pub rows_moved : RowsAreOfMovedBytes
rows_moved log s run q =
    all_rows (IsOfMovedBytes log) q (trace s log)
    (all_sinks (λ x. IsOfMovedBytes log (row q (trace s log) x)) q s log
    (each_point (λ p. p.time ≤ steps log → IsOfMovedBytes log (row q (trace s log) (point_sink p)))
    (λ p h. record { sink = tt; sources = sources_received log s run (policy_of q) p.time p.loc }) q.points)
    (λ t h call e w i g. record {
      sink = output_written log s t call i run h e w g;
      sources = sources_received log s run (policy_of q) t (sink_at t call i).loc;
    }))

pub fits_makes_run : FitsMakesRun
fits_makes_run program log b form f = record { form = form; sound = (begins program log.pages f.start b f.begins).sound; agrees = f.agrees }
