-- The numbers of alike queries. Crates above cite this lemma.
use Rattle.std.proofs.Common.{◌≡◌, ℕ, zero, suc, ◌+◌, ◌-◌, List, [], ◌∷◌, ◌++◌, length, Bool, map, ap, ap₂, refl, sym, ◌∙◌, sum_by, arith}
use Rattle.std.proofs.lemmas.List.{length-map}
use Rattle.std.specs.Prelude.{Option, Some, None}
use Rattle.std.specs.List.{filter}
use Rattle.flow_model.specs.declared.Loc.{Loc}
use Rattle.flow_model.specs.declared.SinkPoint.{SinkPoint}
use Rattle.flow_model.specs.declared.StepSeen.{StepSeen}
use Rattle.flow_model.specs.Origins.{Policy, step_at}
use Rattle.report_model.specs.Query.{Query, Alike, policy_of}
use Rattle.report_model.specs.Rows.{Sink, Row, row, rows, rows_as_written, sinks_of_step, sinks_from}
use Rattle.report_model.specs.Text.{report_text}
use Rattle.report_model.proofs.RowLemmas.{same_rows, same_choice, same_points, same_sinks_from}
use Rattle.record_model.specs.Counts.{capped}
use Rattle.sink_collect.specs.Pairs.{pairs}
use Rattle.epoch_model.specs.Stretch.{sinks_at_step, sinks_between, points_at_start, sinks_of_epoch}
use Rattle.epoch_model.specs.Summary.{Summary, terms, sink_terms}
use Rattle.epoch_model.specs.Crossing.{crossing, crossing_at, summary_of, summaries_of}
use Rattle.stream_model.specs.Work.{asked_at, asked_in_all, listed, listed_in_all, run_work}
use Rattle.sha2.specs.Sha256.{sha256}
use Rattle.order_gateway.specs.declared.Numbers.{Numbers}
use Rattle.order_gateway.specs.Lines.{numbers_of}

same_policy : (q p : Query) → Alike q p → policy_of q ≡ policy_of p
same_policy q p a = λ i. record { rule = a.rule i; introduces = λ b. a.sources b.channel b.offset i }

same_at_step : (q p : Query) → Alike q p → (t : ℕ) (step : Option StepSeen) → sinks_at_step q t step ≡ sinks_at_step p t step
same_at_step q p a t None = refl
same_at_step q p a t (Some step) =
    ap₂ (λ (f : SinkPoint → Bool) (xs : List Sink). filter (λ k. f k.name) (sinks_of_step t step.call) ++ xs) (same_choice q p a) (same_points q p a (t + 1))

same_between : (q p : Query) → Alike q p → (trace : List StepSeen) (s n : ℕ) → sinks_between q trace s n ≡ sinks_between p trace s n
same_between q p a trace s zero = refl
same_between q p a trace s (suc n) =
    ap₂ (λ (xs ys : List Sink). xs ++ ys) (same_between q p a trace s n) (same_at_step q p a (s + n) (step_at trace (s + n)))

same_at_start : (q p : Query) → Alike q p → (s : ℕ) → points_at_start q s ≡ points_at_start p s
same_at_start q p a zero = same_points q p a 0
same_at_start q p a (suc s) = refl

same_of_epoch : (q p : Query) → Alike q p → (trace : List StepSeen) (s n : ℕ) → sinks_of_epoch q trace s n ≡ sinks_of_epoch p trace s n
same_of_epoch q p a trace s n = ap₂ (λ (xs ys : List Sink). xs ++ ys) (same_at_start q p a s) (same_between q p a trace s n)

-- the summary of a stretch by a policy, with these sinks
abbrev summary_by : List StepSeen → ℕ → ℕ → Policy → List Sink → Summary
summary_by trace s n policy sinks = record { ends = terms policy trace s n; sinks = map (sink_terms policy trace s) sinks }

same_summary : (q p : Query) → Alike q p → (trace : List StepSeen) (s n : ℕ) → summary_of q trace s n ≡ summary_of p trace s n
same_summary q p a trace s n = ap₂ (summary_by trace s n) (same_policy q p a) (same_of_epoch q p a trace s n)

same_summaries : (q p : Query) → Alike q p → (trace : List StepSeen) (s : ℕ) (cuts : List ℕ) → summaries_of q trace s cuts ≡ summaries_of p trace s cuts
same_summaries q p a trace s [] = refl
same_summaries q p a trace s (c ∷ cuts) =
    ap₂ (λ (e : Summary) (es : List Summary). e ∷ es) (same_summary q p a trace s (c - s)) (same_summaries q p a trace c cuts)

same_crossing : (q p : Query) → Alike q p → (trace : List StepSeen) (c : ℕ) (cuts : List ℕ) → crossing_at q trace c cuts ≡ crossing_at p trace c cuts
same_crossing q p a trace c cuts = ap crossing (same_summaries q p a trace c cuts)

same_asked : (q p : Query) → Alike q p → (trace : List StepSeen) (cuts : List ℕ) → asked_at q trace cuts ≡ asked_at p trace cuts
same_asked q p a trace [] = refl
same_asked q p a trace (c ∷ []) = refl
same_asked q p a trace (c ∷ d ∷ cuts) =
    ap₂ (λ (ls : List Loc) (all : List (List Loc)). ls ∷ all) (same_crossing q p a trace c (d ∷ cuts)) (same_asked q p a trace (d ∷ cuts))

-- ---- the events

same_asked_in_all : (q p : Query) → Alike q p → (trace : List StepSeen) (cuts : List ℕ) → asked_in_all q trace cuts ≡ asked_in_all p trace cuts
same_asked_in_all q p a trace [] = refl
same_asked_in_all q p a trace (c ∷ []) = refl
same_asked_in_all q p a trace (c ∷ d ∷ cuts) =
    ap₂ (λ (ls : List Loc) (n : ℕ). length ls + n) (same_crossing q p a trace c (d ∷ cuts)) (same_asked_in_all q p a trace (d ∷ cuts))

same_listed : (q p : Query) → Alike q p → (trace : List StepSeen) (c : ℕ) (cuts : List ℕ)
    → listed (policy_of q) trace c (crossing_at q trace c cuts) ≡ listed (policy_of p) trace c (crossing_at p trace c cuts)
same_listed q p a trace c cuts = ap₂ (λ (policy : Policy) (ls : List Loc). listed policy trace c ls) (same_policy q p a) (same_crossing q p a trace c cuts)

same_listed_in_all : (q p : Query) → Alike q p → (trace : List StepSeen) (cuts : List ℕ) → listed_in_all q trace cuts ≡ listed_in_all p trace cuts
same_listed_in_all q p a trace [] = refl
same_listed_in_all q p a trace (c ∷ []) = refl
same_listed_in_all q p a trace (c ∷ d ∷ cuts) = ap₂ (λ (m n : ℕ). m + n) (same_listed q p a trace c (d ∷ cuts)) (same_listed_in_all q p a trace (d ∷ cuts))

-- as many rows as sinks
row_count : (q p : Query) → Alike q p → (trace : List StepSeen) → length (rows_as_written q trace) ≡ length (rows_as_written p trace)
row_count q p a trace = length-map (sinks_from q 0 trace) (row q trace) ∙ ap length (same_sinks_from q p a 0 trace) ∙ sym (length-map (sinks_from p 0 trace) (row p trace))

same_work : (q p : Query) → Alike q p → (trace : List StepSeen) (cuts : List ℕ) → run_work q trace cuts ≡ run_work p trace cuts
same_work q p a trace cuts = omega (arith, row_count q p a trace, same_asked_in_all q p a trace cuts, same_listed_in_all q p a trace cuts)

-- the numbers of these rows, asked lists and events
abbrev numbers_by : List ℕ → List StepSeen → List Row → List (List Loc) → ℕ → Numbers
numbers_by cuts trace all asked events = record {
  steps = length trace;
  epochs = length cuts;
  sinks = length all;
  pairs = capped (pairs all);
  asked = capped (sum_by length asked);
  digest = sha256 (report_text all);
  events = capped events;
}

pub same_numbers : (q p : Query) (cuts : List ℕ) (trace : List StepSeen) → Alike q p → numbers_of q cuts trace ≡ numbers_of p cuts trace
same_numbers q p cuts trace a =
    ap₂ (λ (all : List Row) (asked : List (List Loc)). numbers_by cuts trace all asked (run_work q trace cuts)) (same_rows q p trace a) (same_asked q p a trace cuts)
    ∙ ap (numbers_by cuts trace (rows p trace) (asked_at p trace cuts)) (same_work q p a trace cuts)
