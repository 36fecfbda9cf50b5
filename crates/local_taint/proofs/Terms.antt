-- What a step makes of the terms of each location, and the summary of an epoch that was tracked by them.
use Rattle.std.proofs.Common.{◌≡◌, ℕ, ◌+◌, ◌-◌, List, [], ◌∷◌, map, refl, ap, sym, subst, ◌∙◌, Bool, true, false, if◌then◌else◌, arith, add-one}
use Rattle.std.specs.Prelude.{Option, Some, None}
use Rattle.std.proofs.lemmas.Simd.{map-map}
use Rattle.flow_model.specs.declared.Loc.{Loc}
use Rattle.flow_model.specs.declared.SinkPoint.{SinkPoint}
use Rattle.flow_model.specs.declared.SourceByte.{SourceByte}
use Rattle.flow_model.specs.declared.StepSeen.{StepSeen}
use Rattle.flow_model.specs.declared.CallSeen.{CallSeen}
use Rattle.lists.specs.Sets.{union}
use Rattle.flow_model.specs.Orders.{source_cmp}
use Rattle.flow_model.specs.Flow.{cleared, origins_by, is_received, from_instruction_or}
use Rattle.flow_model.specs.Origins.{Policy, union_over, introduced, byte_at, fresh_by, step_at}
use Rattle.report_model.specs.Query.{Query, policy_of}
use Rattle.epoch_model.specs.Stretch.{locations_over, from_step, fresh_step, past, born, sinks_of_epoch}
use Rattle.epoch_model.specs.Summary.{Terms, SinkTerms, IsSummary, terms}
use Rattle.taint_shadow.specs.Steps.{meaning_at, united_over, introduced as brought_in, after}
use Rattle.taint_tracking.specs.declared.tracking.Tracked.{Tracked}
use Rattle.taint_tracking.specs.Courses.{IsCourse}
use Rattle.taint_tracking.specs.Sinks.{labelled, meant}
use Rattle.taint_tracking.specs.Following.{IsOfEpoch}
use Rattle.merge_log.specs.Log.{joined}
use Rattle.source_labels.specs.declared.nodes.Nodes.{Nodes}
use Rattle.source_labels.specs.Words.{node_words}
use Rattle.epoch_summary.specs.Summaries.{named}
use Rattle.local_taint.specs.Following.{terms_from}

-- ---- what flows into a location

-- what some locations have together, by sources and by start locations
both_over : (f : Loc → Terms) (ls : List Loc) → united_over node_words f ls ≡ record { sources = union_over (λ m. (f m).sources) ls; starts = locations_over (λ m. (f m).starts) ls }
both_over f [] = refl
both_over f (l ∷ []) = refl
both_over f (l ∷ m ∷ ls) = ap (joined (f l)) (both_over f (m ∷ ls))

alone : (b : Bool) (s : SourceByte) → (if b then node_words.source s else node_words.nothing) ≡ record { sources = union source_cmp (if b then s ∷ [] else []) []; starts = [] }
alone true s = refl
alone false s = refl

-- a byte that was received has what it brings in, and every other location what flows into it
by_call : (policy : Policy) (f : Loc → Terms) (b : SourceByte) (ls : List Loc) (o : Bool)
    → (if o then brought_in node_words policy b else united_over node_words f (if o then [] else ls)) ≡ record {
      sources = union source_cmp (if o then introduced policy b else []) (union_over (λ m. (f m).sources) (if o then [] else ls));
      starts = locations_over (λ m. (f m).starts) (if o then [] else ls);
    }
by_call policy f b ls true = alone (policy.introduces b) b
by_call policy f b ls false = both_over f ls

after_is : (policy : Policy) (step : StepSeen) (call : Option CallSeen) (f : Loc → Terms) (l : Loc)
    → after node_words policy step call f l ≡ record {
      sources = union source_cmp (fresh_by policy call l) (union_over (λ m. (f m).sources) (from_instruction_or policy.rule step call l));
      starts = locations_over (λ m. (f m).starts) (from_instruction_or policy.rule step call l);
    }
after_is policy step None f l = both_over f _
after_is policy step (Some call) f l = by_call policy f (byte_at call l) (origins_by (cleared call.kind) l) (is_received call l)

-- the terms over one step more
next_terms : (policy : Policy) (trace : List StepSeen) (s n : ℕ) (step : StepSeen) (l : Loc) → step_at trace (s + n) ≡ Some step
    → after node_words policy step step.call (terms policy trace s n) l ≡ terms policy trace s (n + 1) l
next_terms policy trace s n step l at =
    let by : Option StepSeen → Terms = λ o. record {
      sources = union source_cmp (fresh_step policy o l) (union_over (born policy trace s n) (from_step policy.rule o l));
      starts = locations_over (past policy.rule trace s n) (from_step policy.rule o l);
    } in
    after_is policy step step.call (terms policy trace s n) l ∙ ap by (sym at) ∙ ap (λ (k : ℕ). terms policy trace s k l) (sym (add-one n))

-- so the terms are a course of meanings
pub terms_course : (policy : Policy) (trace : List StepSeen) (first : ℕ) → IsCourse node_words policy trace first (terms_from policy trace first)
terms_course policy trace first = record {
  begins = λ l. let none_yet : first - first ≡ 0 = omega arith in ap (λ (n : ℕ). terms policy trace first n l) none_yet;
  turns = λ t step begun at l.
      let n = t - first in
      let this : t ≡ first + n = omega (arith, begun) in
      let next : n + 1 ≡ t + 1 - first = omega (arith, begun) in
      let made : step_at trace (first + n) ≡ Some step = subst (λ (k : ℕ). step_at trace k ≡ Some step) this at in
      ap (λ (k : ℕ). terms policy trace first k l) (sym next) ∙ sym (next_terms policy trace first n step l made);
}

-- ---- the summary

abbrev as_sink : SinkPoint × Terms → SinkTerms
as_sink k = record { name = k.0; terms = k.1 }

-- where an epoch was tracked by its terms, what is left is its summary
pub summary_is : (q : Query) (trace : List StepSeen) (first time : ℕ) (t : Tracked Nodes) → IsOfEpoch node_words q trace first time (terms_from (policy_of q) trace first) t
    → IsSummary q trace first (time - first) (record { ends = λ l. meaning_at node_words t.labels t.places l; sinks = map (named t.labels) t.sinks.items })
summary_is q trace first time t found = record {
  ends = λ l here. found.holds.at l here;
  sinks =
      sym (map-map as_sink (labelled node_words t.labels) t.sinks.items)
      ∙ ap (map as_sink) found.rows
      ∙ map-map as_sink (meant (terms_from (policy_of q) trace first)) (sinks_of_epoch q trace first (time - first));
}
