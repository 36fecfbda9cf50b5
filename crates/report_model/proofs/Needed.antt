-- The first steps of a run that its rows need. Crates above cite these lemmas.
use Rattle.std.proofs.Common.{◌≡◌, ℕ, zero, suc, ◌+◌, ◌==◌, ◌<◌, ◌≤◌, List, [], ◌∷◌, ◌++◌, length, map, take, refl, ap, ap₂, sym, ◌∙◌, subst, arith, append-nil}
use Rattle.std.specs.Prelude.{max, Option, Some, None}
use Rattle.std.specs.List.{filter, AllByRecursion, range_with_len}
use Rattle.std.proofs.lemmas.Bool.{eqb-true}
use Rattle.isa.specs.declared.CallKind.{CallKind}
use Rattle.isa.specs.declared.CallKind.TheVariants as kind
use Rattle.flow_model.specs.declared.Loc.{Loc}
use Rattle.flow_model.specs.declared.SourceByte.{SourceByte}
use Rattle.flow_model.specs.declared.SinkPoint.{SinkPoint}
use Rattle.flow_model.specs.declared.SinkPoint.TheVariants.{Out, At}
use Rattle.flow_model.specs.declared.StepSeen.{StepSeen}
use Rattle.flow_model.specs.declared.CallSeen.{CallSeen}
use Rattle.flow_model.specs.Origins.{Policy, step_at, after_step, origins}
use Rattle.lists.specs.Sets.{set_of}
use Rattle.lists.proofs.Lists.{all-append, all-weaken, all-filter, all-map}
use Rattle.report_model.specs.Query.{Query, has_sink, policy_of}
use Rattle.report_model.specs.Rows.{Sink, Row, sink_at, sinks_of_call, sinks_of_step, point_sink, at_time, points_at, sinks_from, chosen_sinks, row, row_cmp}
use Rattle.report_model.specs.Needed.{greatest, steps_for, steps_for_sink, RowsOfBeginning, OrderOfBeginning, NeededAreMade}
use Rattle.report_model.proofs.Each.{each-trivial}

-- ---- the greatest of some numbers

-- what sinks need
abbrev pub needed_by : List Sink → ℕ
needed_by xs = greatest (map steps_for_sink xs)

pub needed_by-append : (xs ys : List Sink) → needed_by (xs ++ ys) ≡ max (needed_by xs) (needed_by ys)
needed_by-append [] ys = omega arith
needed_by-append (x ∷ xs) ys = omega (arith, needed_by-append xs ys)

pub needed-le : (n : ℕ) (xs : List Sink) → AllByRecursion (λ x. steps_for_sink x ≤ n) xs → needed_by xs ≤ n
needed-le n [] h = omega arith
needed-le n (x ∷ xs) h = omega (arith, h.0, needed-le n xs h.1)

none_beyond : (n : ℕ) (xs : List Sink) → AllByRecursion (λ x. n < steps_for_sink x) xs → needed_by xs ≤ n → xs ≡ []
none_beyond n [] beyond h = refl
none_beyond n (x ∷ xs) beyond h = absurd (omega (arith, beyond.0, h))

-- ---- the sinks of a time

points_need : (q : Query) (t : ℕ) → AllByRecursion (λ x. steps_for_sink x ≡ t) (points_at q t)
points_need q t =
    all-map (λ x. steps_for_sink x ≡ t) point_sink (at_time t q.points)
    (all-weaken _ (λ p. p.time ≡ t) (λ p h. eqb-true p.time t h.0) (at_time t q.points) (all-filter (λ p. Unit {0}) (λ p. p.time == t) q.points (each-trivial q.points)))

call_needs : (t : ℕ) (call : CallSeen) (k : CallKind) → AllByRecursion (λ x. steps_for_sink x ≡ t + 1) (sinks_of_call t call k)
call_needs t call kind.Write = all-map (λ x. steps_for_sink x ≡ t + 1) (sink_at t call) (range_with_len 0 call.length) (all-weaken (λ i. Unit {0}) _ (λ i u. refl) (range_with_len 0 call.length) (each-trivial (range_with_len 0 call.length)))
call_needs t call k = tt

step_needs : (t : ℕ) (o : Option CallSeen) → AllByRecursion (λ x. steps_for_sink x ≡ t + 1) (sinks_of_step t o)
step_needs t None = tt
step_needs t (Some call) = call_needs t call call.kind

-- the chosen output bytes of a step
abbrev chosen_of_step : Query → ℕ → StepSeen → List Sink
chosen_of_step q t s = filter (λ x. has_sink q x.name) (sinks_of_step t s.call)

chosen_need : (q : Query) (t : ℕ) (s : StepSeen) → AllByRecursion (λ x. steps_for_sink x ≡ t + 1) (chosen_of_step q t s)
chosen_need q t s = all-weaken _ (λ x. steps_for_sink x ≡ t + 1) (λ x h. h.1) (chosen_of_step q t s) (all-filter (λ x. steps_for_sink x ≡ t + 1) (λ x. has_sink q x.name) (sinks_of_step t s.call) (step_needs t s.call))

-- ---- the sinks from a time on

all_at : (P : ℕ → Type 0) (m : ℕ) (xs : List Sink) → P m → AllByRecursion (λ x. steps_for_sink x ≡ m) xs → AllByRecursion (λ x. P (steps_for_sink x)) xs
all_at P m xs p each = all-weaken (λ x. steps_for_sink x ≡ m) (λ x. P (steps_for_sink x)) (λ x e. subst P (sym e) p) xs each

-- each needs at least the steps before that time, and at most those of the trace
each_needs : (P : ℕ → Type 0) (q : Query) (t : ℕ) (ss : List StepSeen) → ((n : ℕ) → t ≤ n → n ≤ t + length ss → P n) → AllByRecursion (λ x. P (steps_for_sink x)) (sinks_from q t ss)
each_needs P q t [] h = all_at P t (points_at q t) (h t (omega arith) (omega arith)) (points_need q t)
each_needs P q t (s ∷ ss) h =
    let points = all_at P t (points_at q t) (h t (omega arith) (omega arith)) (points_need q t) in
    let chosen = all_at P (t + 1) (chosen_of_step q t s) (h (t + 1) (omega arith) (omega arith)) (chosen_need q t s) in
    all-append (λ x. P (steps_for_sink x)) (points_at q t ++ chosen_of_step q t s) (sinks_from q (t + 1) ss)
    (all-append (λ x. P (steps_for_sink x)) (points_at q t) (chosen_of_step q t s) points chosen)
    (each_needs P q (t + 1) ss (λ n low high. h n (omega (arith, low)) (omega (arith, high))))

none_later : (q : Query) (t n : ℕ) (ss : List StepSeen) → n < t → needed_by (sinks_from q t ss) ≤ n → sinks_from q t ss ≡ []
none_later q t n ss later h = none_beyond n (sinks_from q t ss) (each_needs (λ m. n < m) q t ss (λ m low high. omega (arith, later, low))) h

none_of_step : (q : Query) (t n : ℕ) (s : StepSeen) → n ≤ t → needed_by (chosen_of_step q t s) ≤ n → chosen_of_step q t s ≡ []
none_of_step q t n s late h =
    none_beyond n (chosen_of_step q t s) (all-weaken _ (λ x. n < steps_for_sink x) (λ x e. omega (arith, e, late)) (chosen_of_step q t s) (chosen_need q t s)) h

-- the parts of the sinks of a trace that begins with a step need no more than all of them
parts_need : (q : Query) (t : ℕ) (s : StepSeen) (ss : List StepSeen)
    → needed_by (sinks_from q t (s ∷ ss)) ≡ max (max (needed_by (points_at q t)) (needed_by (chosen_of_step q t s))) (needed_by (sinks_from q (t + 1) ss))
parts_need q t s ss =
    needed_by-append (points_at q t ++ chosen_of_step q t s) (sinks_from q (t + 1) ss)
    ∙ ap (λ (n : ℕ). max n (needed_by (sinks_from q (t + 1) ss))) (needed_by-append (points_at q t) (chosen_of_step q t s))

-- a beginning that has the steps they need has the same sinks
pub sinks_of_front : (q : Query) (t n : ℕ) (ss : List StepSeen) → needed_by (sinks_from q t ss) ≤ t + n → sinks_from q t (take n ss) ≡ sinks_from q t ss
sinks_of_front q t zero [] h = refl
sinks_of_front q t (suc n) [] h = refl
sinks_of_front q t zero (s ∷ ss) h =
    let parts = parts_need q t s ss in
    let chosen = none_of_step q t t s (omega arith) (omega (arith, h, parts)) in
    let later = none_later q (t + 1) t ss (omega arith) (omega (arith, h, parts)) in
    sym (ap₂ (λ (xs ys : List Sink). points_at q t ++ xs ++ ys) chosen later ∙ append-nil (points_at q t ++ []) ∙ append-nil (points_at q t))
sinks_of_front q t (suc n) (s ∷ ss) h =
    let parts = parts_need q t s ss in
    ap (λ (xs : List Sink). points_at q t ++ chosen_of_step q t s ++ xs) (sinks_of_front q (t + 1) n ss (omega (arith, h, parts)))

-- ---- origins

step_of_front : (trace : List StepSeen) (n t : ℕ) → t < n → step_at (take n trace) t ≡ step_at trace t
step_of_front trace zero t h = absurd (omega (arith, h))
step_of_front [] (suc n) t h = refl
step_of_front (s ∷ ss) (suc n) zero h = refl
step_of_front (s ∷ ss) (suc n) (suc t) h = step_of_front ss n t (omega (arith, h))

-- origins at a time come from the steps before it alone
pub origins_of_front : (policy : Policy) (trace : List StepSeen) (n t : ℕ) (l : Loc) → t ≤ n → origins policy (take n trace) t l ≡ origins policy trace t l
origins_of_front policy trace n zero l h = refl
origins_of_front policy trace n (suc t) l h =
    let before : origins policy (take n trace) t ≡ origins policy trace t = λ i m. origins_of_front policy trace n t m (omega (arith, h)) i in
    ap₂ (λ (o : Option StepSeen) (f : Loc → List SourceByte). after_step policy o f l) (step_of_front trace n t (omega (arith, h))) before

-- ---- rows

time-le : (name : SinkPoint) (t : ℕ) → t ≤ steps_for name t
time-le (Out b) t = omega arith
time-le (At p) t = omega arith

rows_of_front : (q : Query) (trace : List StepSeen) (n : ℕ) (xs : List Sink) → needed_by xs ≤ n → map (row q (take n trace)) xs ≡ map (row q trace) xs
rows_of_front q trace n [] h = refl
rows_of_front q trace n (x ∷ xs) h =
    let here = origins_of_front (policy_of q) trace n x.time x.loc (omega (arith, h, time-le x.name x.time)) in
    ap₂ (λ (sources : List SourceByte) (rs : List Row). record { sink = x.name; sources = sources } ∷ rs) here (rows_of_front q trace n xs (omega (arith, h)))

pub order_of_beginning : OrderOfBeginning
order_of_beginning q trace n h =
    ap (map (row q (take n trace))) (sinks_of_front q 0 n trace (omega (arith, h))) ∙ rows_of_front q trace n (chosen_sinks q trace) h

pub rows_of_beginning : RowsOfBeginning
rows_of_beginning q trace n h = ap (set_of row_cmp) (order_of_beginning q trace n h)

pub needed_are_made : NeededAreMade
needed_are_made q trace = needed-le (length trace) (chosen_sinks q trace) (each_needs (λ n. n ≤ length trace) q 0 trace (λ n low high. omega (arith, high)))
