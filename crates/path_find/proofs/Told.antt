-- Where a path is told, of a run, which writes no output byte twice.
use Rattle.std.proofs.Common.{◌≡◌, ℕ, zero, suc, ◌+◌, ◌<◌, nat_lt, Bool, true, false, List, [], ◌∷◌, refl, ap, ap₂, sym, ◌∙◌, arith, ltb-true, ltb-false, inl, inr, ◌&&◌, if◌then◌else◌, length, map, subst}
use Rattle.std.specs.Prelude.{Option, Some, None, ◌⊎◌, ◌↔◌, All, Contains, reverse}
use Rattle.std.specs.List.{range_with_len}
use Rattle.std.proofs.lemmas.Option.{same_Some}
use Rattle.isa.specs.declared.CallKind.{CallKind}
use Rattle.isa.specs.declared.CallKind.TheVariants as kind
use Rattle.flow_model.specs.declared.StepSeen.{StepSeen}
use Rattle.flow_model.specs.declared.CallSeen.{CallSeen}
use Rattle.flow_model.specs.declared.SinkByte.{SinkByte}
use Rattle.flow_model.specs.declared.SinkPoint.TheVariants.{Out, At}
use Rattle.replay_model.specs.Offsets.{call_at, AreWritesApart}
use Rattle.report_model.specs.Rows.{Sink, sink_at, sinks_of_call, sinks_of_step, Row, rows}
use Rattle.report_model.proofs.Members.{Some_in, some-Contains, map-some, some-append}
use Rattle.path_find.specs.FirstPair.{written_from, IsWrittenOnce, PathTo, sink_of, ended_in, path_to_sink, path_to, first_pair, Names, NoneIsListed, FirstPairHasPath}
use Rattle.std.proofs.lemmas.List.{length-map, length-reverse}
use Rattle.std.proofs.lemmas.List.Elements.{All-contains}
use Rattle.isa.specs.Machine.{State}
use Rattle.log_model.specs.Logs.{Log}
use Rattle.lists.proofs.Algebra.{Contains-has}
use Rattle.flow_model.specs.declared.InnerSink.{InnerSink}
use Rattle.flow_model.specs.declared.SinkPoint.{SinkPoint}
use Rattle.flow_model.specs.declared.SourceByte.{SourceByte}
use Rattle.flow_model.specs.Ranges.{IsLocation}
use Rattle.flow_model.proofs.Orders.{inner_total, inner_same}
use Rattle.report_model.specs.Query.{Query, AreLocated, has_sink}
use Rattle.replay_model.specs.Run.{trace}
use Rattle.replay_model.proofs.Offsets.{writes_apart}
use Rattle.replayer.specs.Jobs.{Job}
use Rattle.path_find.specs.declared.Arrival.{Arrival}
use Rattle.path_find.specs.declared.Pair.{Pair}
use Rattle.path_find.proofs.One.{is_path}
use Rattle.path_find.specs.declared.writing.Stop.{Stop}
use Rattle.path_find.specs.declared.writing.End.{End}
use Rattle.path_find.specs.Text.{no_path_text, path_text}
use Rattle.path_find.specs.Sinks.{HasLocation, IsLocated}
use Rattle.path_find.specs.Stops.{stop_at}
use Rattle.path_find.specs.Answer.{end_of, found_report, found_report_or, pair_report, path_report}
use Rattle.path_find.specs.AnswerLaws.{NoPathIsToldOfNone, NamedPairIsTold, FirstPairIsLocated}
use Rattle.path_find.proofs.Listed.{IsTold, is_told, paths_are_listed}

-- an output byte is that of a write of the trace, where t steps are done before the trace
record IsOfWrite (t : ℕ) (trace : List StepSeen) (y : Sink) : Type 0 where
  step : ℕ
  call : CallSeen
  at : call_at trace step ≡ Some call
  write : call.kind ≡ kind.Write
  byte : ℕ
  inside : byte < call.length
  is : sink_at (t + step) call byte ≡ y

in_range : (P : ℕ → Type 0) (m n : ℕ) → Some_in P (range_with_len m n) → (i : ℕ) × (i < m + n) × P i
in_range P m zero h = absurd h
in_range P m (suc n) (inl p) = (m, omega arith, p)
in_range P m (suc n) (inr h) = let more = in_range P (m + 1) n h in (more.0, omega (arith, more.1), more.2)

of_call : (y : Sink) (t : ℕ) (call : CallSeen) (k : CallKind) → Some_in (λ x. x ≡ y) (sinks_of_call t call k) → (k ≡ kind.Write) × ((i : ℕ) × (i < call.length) × (sink_at t call i ≡ y))
of_call y t call kind.Write h = let found = in_range (λ i. sink_at t call i ≡ y) 0 call.length (map-some (λ x. x ≡ y) (sink_at t call) (range_with_len 0 call.length) h) in (refl, (found.0, omega (arith, found.1), found.2))
of_call y t call k h = absurd h

of_write : (y : Sink) (t : ℕ) (trace : List StepSeen) → Some_in (λ x. x ≡ y) (written_from t trace) → IsOfWrite t trace y
of_write y t [] h = absurd h
of_write y t (s ∷ ss) h = by (of_write y (t + 1) ss) (some-append (λ x. x ≡ y) (sinks_of_step t s.call) (written_from (t + 1) ss) h) where
  here : (o : Option CallSeen) → s.call ≡ o → Some_in (λ x. x ≡ y) (sinks_of_step t o) → IsOfWrite t (s ∷ ss) y
  here None e h = absurd h
  here (Some call) e h =
      let one = of_call y t call call.kind h in
      let first : t ≡ t + 0 = omega arith in
      record { step = 0; call = call; at = e; write = one.0; byte = one.1.0; inside = one.1.1; is = ap (λ (n : ℕ). sink_at n call one.1.0) (sym first) ∙ one.1.2 }

  by : (Some_in (λ x. x ≡ y) (written_from (t + 1) ss) → IsOfWrite (t + 1) ss y) → Some_in (λ x. x ≡ y) (sinks_of_step t s.call) ⊎ Some_in (λ x. x ≡ y) (written_from (t + 1) ss) → IsOfWrite t (s ∷ ss) y
  by ih (inl h) = here s.call refl h
  by ih (inr h) =
      let w = ih h in
      let later : t + suc w.step ≡ t + 1 + w.step = omega arith in
      record { step = suc w.step; call = w.call; at = w.at; write = w.write; byte = w.byte; inside = w.inside; is = ap (λ (n : ℕ). sink_at n w.call w.byte) later ∙ w.is }

byte_is : (a b : SinkByte) → Out a ≡ Out b → a ≡ b
byte_is a b e = cc

same_write : (t : ℕ) (trace : List StepSeen) (x y : Sink) (a : IsOfWrite t trace x) (b : IsOfWrite t trace y) → AreWritesApart trace → x.name ≡ y.name → (a.step ≡ b.step) × (a.call.offset + a.byte ≡ b.call.offset + b.byte)
same_write t trace x y a b apart e = (by (nat_lt a.step b.step) refl (nat_lt b.step a.step) refl, offsets) where
  bytes : ◌≡◌ {A = SinkByte} (record { channel = a.call.channel; offset = a.call.offset + a.byte }) (record { channel = b.call.channel; offset = b.call.offset + b.byte })
  bytes = byte_is _ _ (ap (λ (s : Sink). s.name) a.is ∙ e ∙ sym (ap (λ (s : Sink). s.name) b.is))

  channels : a.call.channel ≡ b.call.channel
  channels = ap (λ (s : SinkByte). s.channel) bytes

  offsets : a.call.offset + a.byte ≡ b.call.offset + b.byte
  offsets = ap (λ (s : SinkByte). s.offset) bytes

  by : (p : Bool) → nat_lt a.step b.step ≡ p → (q : Bool) → nat_lt b.step a.step ≡ q → a.step ≡ b.step
  by true e q f =
      let before : a.step < b.step = ltb-true _ _ e in
      let after = apart.follow a.step b.step a.call b.call before a.at b.at a.write b.write (omega (arith, a.inside)) (omega (arith, b.inside)) channels in
      absurd (omega (arith, after, offsets, a.inside))
  by false e true f =
      let before : b.step < a.step = ltb-true _ _ f in
      let after = apart.follow b.step a.step b.call a.call before b.at a.at b.write a.write (omega (arith, b.inside)) (omega (arith, a.inside)) (sym channels) in
      absurd (omega (arith, after, offsets, b.inside))
  by false e false f = let not_before = ltb-false _ _ e in let not_after = ltb-false _ _ f in omega (arith, not_before, not_after)

pub written_once : (trace : List StepSeen) → AreWritesApart trace → IsWrittenOnce trace
written_once trace apart x y in_x in_y e =
    let a = of_write x 0 trace (some-Contains (written_from 0 trace) x in_x) in
    let b = of_write y 0 trace (some-Contains (written_from 0 trace) y in_y) in
    let same = same_write 0 trace x y a b apart e in
    let call : a.call ≡ b.call = same_Some a.call b.call (sym a.at ∙ ap (call_at trace) same.0 ∙ b.at) in
    let byte : a.byte ≡ b.byte = omega (arith, same.1, ap (λ (c : CallSeen). c.offset) call) in
    sym a.is ∙ ap₂ (λ (n : ℕ) (c : CallSeen). sink_at (0 + n) c a.byte) same.0 call ∙ ap (sink_at (0 + b.step) b.call) byte ∙ b.is

-- ---- a path that is told

first_code : List ℕ → ℕ
first_code [] = 0
first_code (c ∷ cs) = c

-- the text of a path that has an arrival begins with an `r`, and is no `end 0`
text_apart : (s : SourceByte) (e : End) (stops : List Stop) → (stops ≡ [] → ⊥) → path_text s e stops ≡ no_path_text → ⊥
unfolding first_code
text_apart s e [] some same = some refl
text_apart s e (a ∷ rest) some same = let begins : ◌≡◌ {A = ℕ} 114 101 = ap first_code same in absurd (omega (arith, begins))

found_apart : (job : Job) (s : SourceByte) (p : PathTo) → (p.arrivals ≡ [] → ⊥) → found_report job s p ≡ no_path_text → ⊥
found_apart job s p some = text_apart s (end_of job p) (map (stop_at job) (reverse p.arrivals)) (λ none. some (empty p.arrivals (ap length none))) where
  empty : (xs : List Arrival) → length (map (stop_at job) (reverse xs)) ≡ 0 → xs ≡ []
  empty [] e = refl
  empty (x ∷ xs) e = absurd (omega (arith, e, length-map (reverse (x ∷ xs)) (stop_at job), length-reverse (x ∷ xs)))

-- ---- the laws

-- a sink that the query chooses is located where its points are
pub chosen_is_located : (q : Query) → AreLocated q.points → (name : SinkPoint) → has_sink q name ≡ true → HasLocation name
chosen_is_located q located (Out b) c = tt
chosen_is_located q located (At p) c = All-contains (λ (x : InnerSink). IsLocation x.loc) q.points p located (Contains-has inner_total inner_same q.points p c)

no_member : (s : SourceByte) → Contains [] s → ⊥
no_member s h = absurd (omega (arith, h.1))

module _ (none_is_listed : NoneIsListed) (first_has_path : FirstPairHasPath) (state : State) (log : Log) (q : Query) where
  abbrev steps : List StepSeen
  steps = trace state log

  abbrev job : Job
  job = record { start = state; log = log }

  told_of : (pair : Pair) → first_pair (rows q steps) ≡ Some pair → (p : PathTo) × IsTold q steps pair.sink pair.source p
  told_of pair e = let p = first_has_path q steps pair (written_once steps (writes_apart state log)) e in (p.0, is_told q steps pair.sink pair.source p.0 p.1)

  -- the path that is told has an arrival
  not_none : (pair : Pair) → first_pair (rows q steps) ≡ Some pair → path_report state log q ≡ no_path_text → ⊥
  not_none pair is e =
      let p = (told_of pair is).0 in
      let t = (told_of pair is).1 in
      found_apart job pair.source p (λ none. is_path q.rule pair.source steps [] p.sink.time p.sink.loc (t.is_path ∙ ap Some none))
      (sym (ap (pair_report job q.rule) is
      ∙ ap (found_report_or job pair.source) (ap (path_to_sink q.rule pair.source steps) t.is_sink ∙ ap (ended_in p.sink) t.is_path)) ∙ e)

  none_told : (path_report state log q ≡ no_path_text) ↔ All (λ r. r.sources ≡ []) (rows q steps)
  none_told = (λ e. to e (first_pair (rows q steps)) refl, λ none. ap (pair_report job q.rule) ((none_is_listed (rows q steps)).1 none)) where
    to : path_report state log q ≡ no_path_text → (o : Option Pair) → first_pair (rows q steps) ≡ o → All (λ r. r.sources ≡ []) (rows q steps)
    to e None is = (none_is_listed (rows q steps)).0 is
    to e (Some pair) is = absurd (not_none pair is e)

  first_located : (pair : Pair) → AreLocated q.points → first_pair (rows q steps) ≡ Some pair → IsLocated pair
  first_located pair located e = chosen_is_located q located pair.sink (told_of pair e).1.chosen

  named_told : (pair : Pair) → Names q pair → path_report state log q ≡ pair_report job q.rule (Some pair)
  named_told pair names = by (first_pair (rows q steps)) refl where
    -- a path that the query's pair has
    told : Option PathTo
    told = path_to_sink q.rule pair.source steps (sink_of steps pair.sink)

    chosen : path_to q steps pair.sink pair.source ≡ told
    chosen = ap₂ (λ (a b : Bool). if a && b then told else None) names.source.chosen names.sink.chosen

    has_none : All (λ r. r.sources ≡ []) (rows q steps) → (o : Option PathTo) → told ≡ o → told ≡ None
    has_none none None e = e
    has_none none (Some p) e =
        let row = (paths_are_listed q steps pair.sink pair.source (written_once steps (writes_apart state log))).0 (p, chosen ∙ e) in
        let lists = All-contains (λ (r : Row). r.sources ≡ []) (rows q steps) row.0 none row.1 in
        absurd (no_member pair.source (subst (λ (ss : List SourceByte). Contains ss pair.source) lists row.3))

    by : (o : Option Pair) → first_pair (rows q steps) ≡ o → path_report state log q ≡ pair_report job q.rule (Some pair)
    by None e =
        let none = has_none ((none_is_listed (rows q steps)).0 e) told refl in
        ap (pair_report job q.rule) e ∙ sym (ap (found_report_or job pair.source) none)
    by (Some other) e =
        let t = (told_of other e).1 in
        let same : other ≡ pair = ap₂ (λ (n : SinkPoint) (s : SourceByte). record { sink = n; source = s }) (names.sink.alone other.sink t.chosen) (names.source.alone other.source t.source) in
        ap (pair_report job q.rule) (e ∙ ap Some same)

module _ (none_is_listed : NoneIsListed) (first_has_path : FirstPairHasPath) where
  pub no_path_is_told_of_none : NoPathIsToldOfNone
  no_path_is_told_of_none = none_told none_is_listed first_has_path

  pub first_pair_is_located : FirstPairIsLocated
  first_pair_is_located = first_located none_is_listed first_has_path

  pub named_pair_is_told : NamedPairIsTold
  named_pair_is_told = named_told none_is_listed first_has_path
