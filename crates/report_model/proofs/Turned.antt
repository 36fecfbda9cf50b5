-- A source byte, and an output byte or point, stand together in the influence exactly where they do in the rows.
use Rattle.std.proofs.Common.{◌≡◌, ℕ, zero, suc, ◌<◌, List, [], ◌∷◌, true, sym, ap, ◌∙◌, subst, arith}
use Rattle.std.specs.Prelude.{Some, Contains}
use Rattle.std.specs.List.{filter, range_with_len}
use Rattle.std.proofs.lemmas.List.Concat.{flat_map-cons}
use Rattle.std.proofs.lemmas.List.Elements.{All-contains}
use Rattle.std.proofs.lemmas.Bool.{ltb-true}
use Rattle.isa.specs.declared.CallKind.{CallKind}
use Rattle.isa.specs.declared.CallKind.TheVariants as kind
use Rattle.flow_model.specs.declared.Loc.{Loc}
use Rattle.flow_model.specs.declared.Loc.TheVariants.{Reg, Mem}
use Rattle.flow_model.specs.declared.SourceByte.{SourceByte}
use Rattle.flow_model.specs.declared.SinkPoint.{SinkPoint}
use Rattle.flow_model.specs.declared.StepSeen.{StepSeen}
use Rattle.flow_model.specs.declared.CallSeen.{CallSeen}
use Rattle.flow_model.specs.Flow.{is_received, is_received_by, distance}
use Rattle.flow_model.specs.Origins.{Policy, origins, byte_at, step_at}
use Rattle.flow_model.specs.OriginLaws.{WasRead}
use Rattle.flow_model.specs.Orders.{source_cmp}
use Rattle.flow_model.proofs.Orders.{source_total, source_same}
use Rattle.flow_model.proofs.OriginsRead.{origins_were_read}
use Rattle.lists.specs.Sets.{has}
use Rattle.lists.proofs.Algebra.{has-set_of, has-Contains, Contains-has}
use Rattle.report_model.specs.Query.{Query, has_source, has_sink, policy_of}
use Rattle.report_model.specs.Rows.{Sink, Row, row, rows, rows_as_written, chosen_sinks}
use Rattle.report_model.specs.Influence.{source_at, sources_of_call, sources_of_step, sources_of, chosen_sources, Reach, reached, influence}
use Rattle.report_model.specs.InfluenceLaws.{IsListed, HasReached, InfluenceTurnsRows}
use Rattle.report_model.proofs.RowLemmas.{all_written}
use Rattle.report_model.proofs.Members.{Some_in, some-Any, Any-some, some-Contains, Contains-some, some-each, some-gives, some-left, some-right, filter-some, some-filter, map-some, some-map, some-range}

-- ---- what is reached, both ways

pub reached-from : (rs : List Row) (b : SourceByte) (s : SinkPoint) → Contains (reached rs b) s → IsListed s b rs
reached-from rs b s c =
    let mapped = map-some (λ (t : SinkPoint). t ≡ s) (λ (r : Row). r.sink) (filter (λ r. has source_cmp b r.sources) rs) (some-Contains (reached rs b) s c) in
    let kept = filter-some (λ (r : Row). r.sink ≡ s) (λ r. has source_cmp b r.sources) rs mapped in
    Any-some _ rs (some-each _ _ (λ (r : Row) p. (p.1, Contains-has source_total source_same r.sources b p.0)) rs kept)

pub reached-has : (rs : List Row) (b : SourceByte) (s : SinkPoint) → IsListed s b rs → Contains (reached rs b) s
reached-has rs b s a =
    let listed = some-Any (λ (r : Row). (r.sink ≡ s) × Contains r.sources b) rs a in
    let kept = some-each _ (λ (r : Row). (has source_cmp b r.sources ≡ true) × (r.sink ≡ s)) (λ (r : Row) p. (has-Contains source_total r.sources b p.1, p.0)) rs listed in
    Contains-some (reached rs b) s (some-map (λ (t : SinkPoint). t ≡ s) (λ (r : Row). r.sink) _ (some-filter (λ (r : Row). r.sink ≡ s) (λ r. has source_cmp b r.sources) rs kept))

-- ---- the source bytes that were read are those of the trace

in_call : (call : CallSeen) (k : CallKind) (p : ℕ) → is_received_by k call p ≡ true → Some_in (λ b. b ≡ byte_at call (Mem p)) (sources_of_call call k)
in_call call kind.Read p h =
    let d = distance call.place p in
    let inside : d < call.length = ltb-true d call.length h in
    let at = some-range 0 call.length d (omega arith) (omega (arith, inside)) in
    some-map (λ (b : SourceByte). b ≡ byte_at call (Mem p)) (source_at call) (range_with_len 0 call.length) (some-each _ (λ i. source_at call i ≡ byte_at call (Mem p)) (λ i e. ap (source_at call) e) (range_with_len 0 call.length) at)
in_call call k p h = cc

in_step : (call : CallSeen) (l : Loc) → is_received call l ≡ true → Some_in (λ b. b ≡ byte_at call l) (sources_of_step (Some call))
in_step call (Reg r i) h = cc
in_step call (Mem p) h = in_call call call.kind p h

pub in_trace : (P : SourceByte → Type 0) (trace : List StepSeen) (n : ℕ) (step : StepSeen) → step_at trace n ≡ Some step → Some_in P (sources_of_step step.call) → Some_in P (sources_of trace)
in_trace P [] n step e h = cc
in_trace P (s ∷ ss) zero step e h =
    let same : s ≡ step = cc in
    subst (Some_in P) (sym (flat_map-cons (λ (t : StepSeen). sources_of_step t.call) s ss)) (some-left P (sources_of_step s.call) _ (subst (λ (t : StepSeen). Some_in P (sources_of_step t.call)) (sym same) h))
in_trace P (s ∷ ss) (suc n) step e h =
    subst (Some_in P) (sym (flat_map-cons (λ (t : StepSeen). sources_of_step t.call) s ss)) (some-right P (sources_of_step s.call) _ (in_trace P ss n step e h))

was_received : (policy : Policy) (trace : List StepSeen) (t : ℕ) (b : SourceByte) → WasRead policy trace t b → Some_in (λ c. c ≡ b) (sources_of trace)
was_received policy trace t b w =
    let there = in_step w.call w.loc w.is_there in
    let this = some-each _ (λ (c : SourceByte). c ≡ b) (λ (c : SourceByte) e. e ∙ w.is_byte) (sources_of_step (Some w.call)) there in
    in_trace (λ c. c ≡ b) trace w.number w.step w.is_step (subst (λ o. Some_in (λ (c : SourceByte). c ≡ b) (sources_of_step o)) (sym w.is_call) this)

-- ---- a source byte of a row is one of those chosen

was_chosen : (q : Query) (trace : List StepSeen) (t : ℕ) (b : SourceByte) → WasRead (policy_of q) trace t b → Contains (chosen_sources q trace) b
was_chosen q trace t b w =
    let kept = filter (has_source q) (sources_of trace) in
    let read = was_received (policy_of q) trace t b w in
    let both = some-each _ (λ (c : SourceByte). (has_source q c ≡ true) × (c ≡ b)) (λ (c : SourceByte) e. (ap (has_source q) e ∙ w.is_introduced, e)) (sources_of trace) read in
    let inside = Contains-some kept b (some-filter (λ (c : SourceByte). c ≡ b) (has_source q) (sources_of trace) both) in
    Contains-has source_total source_same (chosen_sources q trace) b (has-set_of source_total kept b ∙ has-Contains source_total kept b inside)

of_written : (q : Query) (trace : List StepSeen) (r : Row) (b : SourceByte) → Contains (rows_as_written q trace) r → Contains r.sources b → Contains (chosen_sources q trace) b
of_written q trace r b written c =
    let made = map-some (λ (x : Row). x ≡ r) (row q trace) (chosen_sinks q trace) (some-Contains (rows_as_written q trace) r written) in
    some-gives _ (Contains (chosen_sources q trace) b) (λ (s : Sink) e. chosen s (subst (λ (x : Row). Contains x.sources b) (sym e) c)) (chosen_sinks q trace) made where
      chosen : (s : Sink) → Contains (origins (policy_of q) trace s.time s.loc) b → Contains (chosen_sources q trace) b
      chosen s c = was_chosen q trace s.time b (All-contains (WasRead (policy_of q) trace s.time) (origins (policy_of q) trace s.time s.loc) b (origins_were_read (policy_of q) trace s.time s.loc) c)

-- ---- the law

from_influence : (q : Query) (trace : List StepSeen) (s : SinkPoint) (b : SourceByte) → HasReached b s (influence q trace) → IsListed s b (rows q trace)
from_influence q trace s b h =
    let rs = rows q trace in
    let made = map-some (λ (r : Reach). (r.source ≡ b) × Contains r.sinks s) (λ c. record { source = c; sinks = reached rs c }) (chosen_sources q trace) (some-Any _ (influence q trace) h) in
    some-gives _ (IsListed s b rs) (λ (c : SourceByte) p. reached-from rs b s (subst (λ (x : SourceByte). Contains (reached rs x) s) p.0 p.1)) (chosen_sources q trace) made

to_influence : (q : Query) (trace : List StepSeen) (s : SinkPoint) (b : SourceByte) → IsListed s b (rows q trace) → HasReached b s (influence q trace)
to_influence q trace s b a =
    let rs = rows q trace in
    let written = All-contains (λ (r : Row). Contains (rows_as_written q trace) r × (has_sink q r.sink ≡ true)) rs a.1 (all_written q trace) (a.0, a.2, a.3) in
    let chosen = of_written q trace a.1 b written.0 (a.4).1 in
    let found = some-each _ (λ (c : SourceByte). (c ≡ b) × Contains (reached rs c) s) (λ (c : SourceByte) e. (e, subst (λ (x : SourceByte). Contains (reached rs x) s) (sym e) (reached-has rs b s a))) (chosen_sources q trace) (some-Contains (chosen_sources q trace) b chosen) in
    Any-some _ (influence q trace) (some-map (λ (r : Reach). (r.source ≡ b) × Contains r.sinks s) (λ c. record { source = c; sinks = reached rs c }) (chosen_sources q trace) found)

pub influence_turns_rows : InfluenceTurnsRows
influence_turns_rows q trace s b = (from_influence q trace s b, to_influence q trace s b)
