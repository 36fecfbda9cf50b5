-- Laws of rows. Crates above cite these lemmas.
use Rattle.std.proofs.Common.{◌≡◌, ℕ, ◌+◌, ◌==◌, List, [], ◌∷◌, ◌++◌, Bool, true, ap, ap₂, map}
use Rattle.std.specs.List.{filter, All, AllByRecursion, Contains}
use Rattle.std.specs.Cmp.{IsTotalOrder, on_total}
use Rattle.std.proofs.lemmas.List.Elements.{recursion_from_All, All-from_recursion, All-contains_itself}
use Rattle.flow_model.specs.declared.InnerSink.{InnerSink}
use Rattle.flow_model.specs.declared.StepSeen.{StepSeen}
use Rattle.flow_model.specs.declared.SinkPoint.{SinkPoint}
use Rattle.flow_model.specs.declared.SinkPoint.TheVariants.{Out, At}
use Rattle.flow_model.specs.Orders.{inner_cmp}
use Rattle.lists.specs.Sets.{set_of, has, Ascends}
use Rattle.flow_model.specs.Origins.{Policy, origins}
use Rattle.lists.proofs.Algebra.{Ascends-set_of, has-set_of, has-Contains, All-set_of}
use Rattle.lists.proofs.Lists.{all-append, all-weaken, all-filter, all-map}
use Rattle.flow_model.proofs.Orders.{inner_total, point_total}
use Rattle.report_model.specs.Query.{Query, Alike, has_sink}
use Rattle.report_model.specs.RowLaws.{has_row}
use Rattle.report_model.specs.Rows.{Sink, Row, row, rows, rows_as_written, point_sink, points_at, sinks_of_step, sinks_from, chosen_sinks, row_cmp}
use Rattle.report_model.proofs.Each.{each-both, each-trivial}

-- ---- alike queries

pub same_choice : (q p : Query) → Alike q p → has_sink q ≡ has_sink p
same_choice q p a = λ i s. of s i where
  of : (s : SinkPoint) → has_sink q s ≡ has_sink p s
  of (Out b) = a.sinks b.channel b.offset
  of (At x) = ap (has inner_cmp x) a.points

pub same_points : (q p : Query) → Alike q p → (t : ℕ) → points_at q t ≡ points_at p t
same_points q p a t = ap (λ (xs : List InnerSink). map point_sink (filter (λ x. x.time == t) xs)) a.points

pub same_sinks_from : (q p : Query) → Alike q p → (t : ℕ) (trace : List StepSeen) → sinks_from q t trace ≡ sinks_from p t trace
same_sinks_from q p a t [] = same_points q p a t
same_sinks_from q p a t (s ∷ ss) = ap₂ (λ (xs ys : List Sink). xs ++ ys)
    (ap₂ (λ (xs : List Sink) (f : SinkPoint → Bool). xs ++ filter (λ x. f x.name) (sinks_of_step t s.call)) (same_points q p a t) (same_choice q p a))
    (same_sinks_from q p a (t + 1) ss)

-- rows by a policy, of these sinks
abbrev rows_by : Policy → List StepSeen → List Sink → List Row
rows_by policy trace sinks = set_of row_cmp (map (λ s. record { sink = s.name; sources = origins policy trace s.time s.loc }) sinks)

pub same_rows : (q p : Query) (trace : List StepSeen) → Alike q p → rows q trace ≡ rows p trace
same_rows q p trace a = λ i. rows_by (record { rule = a.rule i; introduces = λ b. a.sources b.channel b.offset i }) trace (same_sinks_from q p a 0 trace i)

-- ---- the order of rows

pub row_total : IsTotalOrder row_cmp
row_total = on_total (λ r. r.sink) point_total

pub Ascends-rows : (q : Query) (trace : List StepSeen) → Ascends row_cmp (rows q trace)
Ascends-rows q trace = Ascends-set_of row_total (rows_as_written q trace)

pub same_sinks : (q : Query) (trace : List StepSeen) (s : SinkPoint) → has_row s (rows q trace) ≡ has_row s (rows_as_written q trace)
same_sinks q trace s = has-set_of row_total (rows_as_written q trace) (record { sink = s; sources = [] })

-- ---- each row is of what the query chooses

abbrev IsChosen : Query → Sink → Type 0
IsChosen q x = has_sink q x.name ≡ true

own_points : (q : Query) → AllByRecursion (λ p. IsChosen q (point_sink p)) q.points
own_points q =
    let points = q.points in
    all-weaken (Contains points) (λ p. IsChosen q (point_sink p)) (λ p c. has-Contains inner_total points p c) points (recursion_from_All (Contains points) points (All-contains_itself points))

chosen_at : (q : Query) (t : ℕ) → AllByRecursion (IsChosen q) (points_at q t)
chosen_at q t =
    let kept = filter (λ p. p.time == t) q.points in
    all-map (IsChosen q) point_sink kept (all-weaken _ (λ p. IsChosen q (point_sink p)) (λ p h. h.1) kept (all-filter (λ p. IsChosen q (point_sink p)) (λ p. p.time == t) q.points (own_points q)))

chosen_of_step : (q : Query) (sinks : List Sink) → AllByRecursion (IsChosen q) (filter (λ x. has_sink q x.name) sinks)
chosen_of_step q sinks = all-weaken _ (IsChosen q) (λ x h. h.0) _ (all-filter (λ x. Unit {0}) (λ x. has_sink q x.name) sinks (each-trivial sinks))

all_chosen : (q : Query) (t : ℕ) (trace : List StepSeen) → AllByRecursion (IsChosen q) (sinks_from q t trace)
all_chosen q t [] = chosen_at q t
all_chosen q t (s ∷ ss) = all-append (IsChosen q) _ _ (all-append (IsChosen q) (points_at q t) _ (chosen_at q t) (chosen_of_step q (sinks_of_step t s.call))) (all_chosen q (t + 1) ss)

pub all_written : (q : Query) (trace : List StepSeen) → All (λ r. Contains (rows_as_written q trace) r × (has_sink q r.sink ≡ true)) (rows q trace)
all_written q trace =
    let raw = rows_as_written q trace in
    let was_written = recursion_from_All (Contains raw) raw (All-contains_itself raw) in
    let was_chosen = all-map (λ (r : Row). has_sink q r.sink ≡ true) (row q trace) (chosen_sinks q trace) (all_chosen q 0 trace) in
    All-from_recursion _ (rows q trace) (All-set_of row_cmp _ raw (each-both (Contains raw) (λ (r : Row). has_sink q r.sink ≡ true) raw was_written was_chosen))
