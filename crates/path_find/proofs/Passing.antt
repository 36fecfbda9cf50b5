-- A pass over the run, from one arrival to the next.
use Rattle.std.proofs.Common.{◌≡◌, ℕ, zero, suc, ◌+◌, ◌-◌, ◌<◌, List, [], ◌∷◌, ◌++◌, length, drop, get_or, map, reverse, refl, ap, sym, ◌∙◌, subst, arith}
use Rattle.std.specs.Prelude.{Option, Some, None, IfSome}
use Rattle.std.proofs.lemmas.List.{drop_more, map-append, reverse-append}
use Rattle.std.proofs.lemmas.Option.{same_Some}
use Rattle.log_model.specs.Logs.{steps}
use Rattle.flow_model.specs.declared.Rule.{Rule}
use Rattle.flow_model.specs.declared.SourceByte.{SourceByte}
use Rattle.flow_model.specs.declared.Loc.{Loc}
use Rattle.flow_model.specs.declared.StepSeen.{StepSeen}
use Rattle.flow_model.specs.Origins.{step_at}
use Rattle.replay_model.specs.Run.{Moment, start, advance, step_of, steps_from, moment_after}
use Rattle.replayer.specs.Jobs.{Job, trace_of}
use Rattle.replayer.specs.Positions.{CursorAt}
use Rattle.replayer.specs.Nexts.{IsNext}
use Rattle.replayer.specs.declared.cursor.Next.{Next}
use Rattle.replayer.specs.declared.cursor.Next.TheVariants.{Step, End}
use Rattle.path_find.specs.declared.Arrival.{Arrival}
use Rattle.path_find.specs.Paths.{IsPath, path}
use Rattle.path_find.specs.declared.Pair.{Pair}
use Rattle.path_find.specs.declared.finding.SinkPath.{SinkPath}
use Rattle.path_find.specs.FirstPair.{PathTo, sink_of, ended_in, path_to_sink}
use Rattle.path_find.specs.Sinks.{path_of}
use Rattle.path_find.specs.Watched.{IsPathIn}
use Rattle.path_find.proofs.One.{is_path}
use Rattle.report_model.specs.Rows.{Sink}
use Rattle.path_find.specs.declared.writing.Stop.{Stop}
use Rattle.path_find.specs.Stops.{pc_at, stop_at, AreBefore}

pub moved_on : (before after : CursorAt) (r : Next) → before.time < steps before.job.log → IsNext before r after → after ≡ record before { time = before.time + 1 }
moved_on before after (Step s) h n = n.moved
moved_on before after (End e) h n = absurd (omega (arith, n.done))

-- the step of a trace is that of its moment
seen_is : (n k : ℕ) (m : Moment) (s : StepSeen) → step_at (steps_from n m) k ≡ Some s → step_of (moment_after k m) ≡ s
seen_is zero k m s e = absurd cc
seen_is (suc n) zero m s e = cc
seen_is (suc n) (suc k) m s e = seen_is n k (advance m) s e

pub told_is : (job : Job) (a : Arrival) (pc : ℕ) (step : StepSeen) → step_at (trace_of job) a.number ≡ Some step → pc ≡ pc_at job a.number
    → record { number = a.number; pc = pc; instr = step.instr; loc = a.loc } ≡ stop_at job a
told_is job a pc step at e =
    let same = seen_is (steps job.log) a.number (start job.start job.log) step at in
    ap (λ (p : ℕ). record { number = a.number; pc = p; instr = step.instr; loc = a.loc }) e
    ∙ ap (λ (s : StepSeen). record { number = a.number; pc = pc_at job a.number; instr = s.instr; loc = a.loc }) (sym same)

-- ---- the arrivals of a path

pub falls : (rule : Rule) (s : SourceByte) (trace : List StepSeen) (p : List Arrival) (t : ℕ) (l : Loc) → IsPath rule s trace t l p → AreBefore t p
falls rule s trace [] t l h = absurd h
falls rule s trace (a ∷ []) t l h = (h.0.before, tt)
falls rule s trace (a ∷ b ∷ bs) t l h = (h.0.before, falls rule s trace (b ∷ bs) a.number b.loc h.2)

pub before_all : (n : ℕ) (as_told : List Arrival) (k : ℕ) (d : Arrival) → AreBefore n as_told → k < length as_told → (get_or as_told k d).number < n
before_all n [] k d h lt = absurd (omega arith)
before_all n (a ∷ rest) zero d h lt = h.0
before_all n (a ∷ rest) (suc k) d h lt = omega (arith, h.0, before_all a.number rest k d h.1 (omega (arith, lt)))

-- of two, the one that stands first is later
pub earlier : (n : ℕ) (xs : List Arrival) (j k : ℕ) (d e : Arrival) → AreBefore n xs → j < k → k < length xs → (get_or xs k d).number < (get_or xs j e).number
earlier n [] j k d e h lt inside = absurd (omega arith)
earlier n (a ∷ rest) zero zero d e h lt inside = absurd (omega arith)
earlier n (a ∷ rest) zero (suc k) d e h lt inside = before_all a.number rest k d h.1 (omega (arith, inside))
earlier n (a ∷ rest) (suc j) zero d e h lt inside = absurd (omega arith)
earlier n (a ∷ rest) (suc j) (suc k) d e h lt inside = earlier a.number rest j k d e h.1 (omega (arith, lt)) (omega (arith, inside))

-- one stop more, from the back of the list
pub one_told : (job : Job) (xs : List Arrival) (m i : ℕ) (d : Arrival) (out : List Stop) → m ≡ length xs → i < m → out ≡ map (stop_at job) (reverse (drop (m - i) xs))
    → out ++ stop_at job (get_or xs (m - 1 - i) d) ∷ [] ≡ map (stop_at job) (reverse (drop (m - (i + 1)) xs))
one_told job xs m i d out n lt e =
    let here : m - (i + 1) ≡ m - 1 - i = omega arith in
    let next : m - 1 - i + 1 ≡ m - i = omega arith in
    let inside : m - 1 - i < length xs = omega (arith, n) in
    ap (λ (o : List Stop). o ++ stop_at job (get_or xs (m - 1 - i) d) ∷ []) e
    ∙ sym (
    ap (λ (k : ℕ). map (stop_at job) (reverse (drop k xs))) here
    ∙ ap (λ (ys : List Arrival). map (stop_at job) (reverse ys)) (drop_more xs (m - 1 - i) d inside ∙ ap (λ (k : ℕ). get_or xs (m - 1 - i) d ∷ drop k xs) next)
    ∙ ap (map (stop_at job)) (reverse_cons (get_or xs (m - 1 - i) d) (drop (m - i) xs))
    ∙ map-append (stop_at job) (reverse (drop (m - i) xs)) (get_or xs (m - 1 - i) d ∷ [])
    )
  where
    reverse_cons : (x : Arrival) (ys : List Arrival) → reverse (x ∷ ys) ≡ reverse ys ++ x ∷ []
    reverse_cons x ys = reverse-append (x ∷ []) ys

-- ---- the answer

-- the arrivals that were found fall from the sink's time
pub found_falls : (job : Job) (rule : Rule) (s : SourceByte) (o : Option Sink) (p : PathTo) → Some p ≡ path_to_sink rule s (trace_of job) o → AreBefore p.sink.time p.arrivals
found_falls job rule s None p e = absurd cc
found_falls job rule s (Some x) p e = by (path rule s (trace_of job) x.time x.loc) refl e where
  by : (q : Option (List Arrival)) → path rule s (trace_of job) x.time x.loc ≡ q → Some p ≡ ended_in x q → AreBefore p.sink.time p.arrivals
  by None is e = absurd cc
  by (Some arrivals) is e =
      let same : p ≡ record { sink = x; arrivals = arrivals } = same_Some p (record { sink = x; arrivals = arrivals }) e in
      subst (λ (z : PathTo). AreBefore z.sink.time z.arrivals) (sym same) (falls rule s (trace_of job) arrivals x.time x.loc (is_path rule s (trace_of job) arrivals x.time x.loc is))

-- so where a path was found
pub path_falls : (job : Job) (rule : Rule) (pair : Pair) (found : Option SinkPath) → IsPathIn rule pair (trace_of job) found → IfSome found (λ f. AreBefore f.time f.arrivals.items)
path_falls job rule pair None is = tt
path_falls job rule pair (Some f) is = found_falls job rule pair.source (sink_of (trace_of job) pair.sink) (path_of f) is
