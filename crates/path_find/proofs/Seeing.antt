-- A sink that isn't met yet; and what is known of a path after one step more, and at the end of the run.
use Rattle.std.proofs.Common.{◌≡◌, ℕ, zero, suc, ◌+◌, ◌<◌, ◌≤◌, ◌==◌, Bool, true, false, if◌then◌else◌, List, [], ◌∷◌, length, drop, refl, ap, sym, ◌∙◌, arith, subst}
use Rattle.std.specs.Prelude.{Option, Some, None, nat_le, Result, Ok, Err, IfOk, IfSome}
use Rattle.std.specs.List.{find}
use Rattle.std.specs.Option.{option_or}
use Rattle.std.proofs.lemmas.Bool.{eqb-true, eqb-false}
use Rattle.std.proofs.lemmas.Bool.Decides.{nat_tests}
use Rattle.std.proofs.lemmas.List.{drop_all}
use Rattle.std.proofs.lemmas.List.Folds.{find-append}
use Rattle.flow_model.specs.declared.SinkByte.{SinkByte}
use Rattle.flow_model.specs.declared.SinkPoint.{SinkPoint}
use Rattle.flow_model.specs.declared.SinkPoint.TheVariants.{Out, At}
use Rattle.flow_model.specs.declared.StepSeen.{StepSeen}
use Rattle.flow_model.specs.Origins.{step_at}
use Rattle.report_model.specs.Rows.{Sink, sinks_of_step, point_sink}
use Rattle.path_find.specs.FirstPair.{written_from, sink_of, ended_in, path_to_sink}
use Rattle.path_find.specs.Sinks.{is_named, sink_here, sink_after, IsNotMet, sink_by, shown_path}
use Rattle.no_memory.specs.declared.NoMemory.{NoMemory}
use Rattle.log_model.specs.Logs.{steps}
use Rattle.flow_model.specs.declared.Loc.{Loc}
use Rattle.flow_model.specs.declared.Rule.{Rule}
use Rattle.flow_model.specs.declared.SourceByte.{SourceByte}
use Rattle.replay_model.specs.Run.{start}
use Rattle.replay_model.proofs.Offsets.{length-steps_from}
use Rattle.replayer.specs.Jobs.{Job, trace_of}
use Rattle.path_find.specs.declared.Pair.{Pair}
use Rattle.path_find.specs.declared.finding.SinkPath.{SinkPath}
use Rattle.path_find.specs.declared.trail.Trail.{Trail}
use Rattle.path_find.specs.declared.watching.Standing.{Standing}
use Rattle.path_find.specs.declared.watching.Standing.TheVariants.{Before, Met, Out}
use Rattle.path_find.specs.Paths.{path}
use Rattle.path_find.specs.Trails.{IsAfter}
use Rattle.path_find.specs.Watched.{IsSound, Knows, IsFound, standing_before, standing_of}

pub not_met_first : (name : SinkPoint) (trace : List StepSeen) → IsNotMet name 0 trace
not_met_first (Out b) trace = refl
not_met_first (At p) trace = omega arith

left_is : (trace : List StepSeen) (t : ℕ) (step : StepSeen) → step_at trace t ≡ Some step → drop t trace ≡ step ∷ drop (t + 1) trace
left_is [] t step e = absurd cc
left_is (x ∷ xs) zero step e = let same : x ≡ step = cc in ap (λ (y : StepSeen). y ∷ xs) same
left_is (x ∷ xs) (suc t) step e = left_is xs t step e ∙ ap (λ (n : ℕ). step ∷ drop n (x ∷ xs)) (further t) where
  further : (t : ℕ) → suc (t + 1) ≡ suc t + 1
  further t = omega arith

pub inside : (trace : List StepSeen) (t : ℕ) (step : StepSeen) → step_at trace t ≡ Some step → t < length trace
inside [] t step e = absurd cc
inside (x ∷ xs) zero step e = omega arith
inside (x ∷ xs) (suc t) step e = omega (arith, inside xs t step e)

-- what is written from t on: by the step at t, and after it
written_now : (b : SinkByte) (t : ℕ) (trace : List StepSeen) (step : StepSeen) → step_at trace t ≡ Some step → step.number ≡ t
    → find (is_named (Out b)) (written_from t (drop t trace)) ≡ option_or (sink_here (Out b) step) (find (is_named (Out b)) (written_from (t + 1) (drop (t + 1) trace)))
written_now b t trace step at n =
    ap (λ (ss : List StepSeen). find (is_named (Out b)) (written_from t ss)) (left_is trace t step at)
    ∙ find-append (is_named (Out b)) (sinks_of_step t step.call) (written_from (t + 1) (drop (t + 1) trace))
    ∙ ap (λ (k : ℕ). option_or (find (is_named (Out b)) (sinks_of_step k step.call)) (find (is_named (Out b)) (written_from (t + 1) (drop (t + 1) trace)))) (sym n)

pub not_met_yet : (name : SinkPoint) (t : ℕ) (trace : List StepSeen) (step : StepSeen) → step_at trace t ≡ Some step → step.number ≡ t → sink_here name step ≡ None
    → IsNotMet name t trace → IsNotMet name (t + 1) trace
not_met_yet (Out b) t trace step at n none h =
    h ∙ written_now b t trace step at n ∙ ap (λ (o : Option Sink). option_or o (find (is_named (Out b)) (written_from (t + 1) (drop (t + 1) trace)))) none
not_met_yet (At p) t trace step at n none h = by (p.time == step.number) refl none where
  by : (c : Bool) → (p.time == step.number) ≡ c → (if c then Some (point_sink p) else None) ≡ None → t + 1 ≤ p.time
  by true e f = absurd cc
  by false e f = let other = eqb-false p.time step.number e in omega (arith, other, n, h)

pub met_here : (name : SinkPoint) (t : ℕ) (trace : List StepSeen) (step : StepSeen) (x : Sink) → step_at trace t ≡ Some step → step.number ≡ t → sink_here name step ≡ Some x
    → IsNotMet name t trace → sink_of trace name ≡ Some x
met_here (Out b) t trace step x at n is h =
    h ∙ written_now b t trace step at n ∙ ap (λ (o : Option Sink). option_or o (find (is_named (Out b)) (written_from (t + 1) (drop (t + 1) trace)))) is
met_here (At p) t trace step x at n is h = by (p.time == step.number) refl is where
  by : (c : Bool) → (p.time == step.number) ≡ c → (if c then Some (point_sink p) else None) ≡ Some x → (if nat_le p.time (length trace) then Some (point_sink p) else None) ≡ Some x
  by true e f =
      let same = eqb-true p.time step.number e in
      let low = inside trace t step at in
      let within : nat_le p.time (length trace) ≡ true = grind (arith, nat_tests) in
      ap (λ (c : Bool). if c then Some (point_sink p) else None) within ∙ f
  by false e f = absurd cc

pub met_after : (name : SinkPoint) (t : ℕ) (trace : List StepSeen) → length trace ≡ t → IsNotMet name t trace → sink_of trace name ≡ sink_after name t
met_after (Out b) t trace n h = h ∙ ap (λ (ss : List StepSeen). find (is_named (Out b)) (written_from t ss)) (drop_all t trace (omega arith))
met_after (At p) t trace n h = ap (λ (c : Bool). if c then Some (point_sink p) else None) same where
  same : nat_le p.time (length trace) ≡ (p.time == t)
  same = grind (arith, nat_tests)

-- ---- what is known of a path

-- a path of the trail's source byte to a sink with this time and location
abbrev pub IsPathHere : Pair → ℕ → Loc → Trail → Option SinkPath → Type 0
IsPathHere pair time loc trail found =
    (rule : Rule) (s : SourceByte) (trace : List StepSeen) → IsAfter rule s trace time trail
    → shown_path found ≡ ended_in (record { name = pair.sink; time = time; loc = loc }) (path rule s trace time loc)

within : (found : Option SinkPath) (t n : ℕ) → t ≤ n → IfSome found (λ f. f.time ≡ t) → IfSome found (λ f. f.time ≤ n)
within None t n low is = tt
within (Some f) t n low is = omega (arith, low, is)

earlier : (found : Option SinkPath) (t : ℕ) → IfSome found (λ f. f.time ≡ t) → IfSome found (λ f. f.time < t + 1)
earlier None t is = tt
earlier (Some f) t is = omega (arith, is)

module _ (rule : Rule) (pair : Pair) (trace : List StepSeen) (step : StepSeen) (at : step_at trace step.number ≡ Some step) where
  -- the step doesn't meet the sink
  pub passed : (trail new : Trail) → sink_here pair.sink step ≡ None
      → ((rule : Rule) (s : SourceByte) (trace : List StepSeen) → step_at trace step.number ≡ Some step → IsAfter rule s trace step.number trail → IsAfter rule s trace (step.number + 1) new)
      → Knows rule pair trace step.number (Before trail) → Knows rule pair trace (step.number + 1) (Before new)
  passed trail new none followed h = (followed rule pair.source trace at h.0, not_met_yet pair.sink step.number trace step at refl none h.1)

  -- it meets it
  pub meets : (trail : Trail) (loc : Loc) (found : Option SinkPath) → sink_by pair.sink step.number (Some loc) ≡ sink_here pair.sink step
      → IsPathHere pair step.number loc trail found → IfSome found (λ f. f.time ≡ step.number)
      → Knows rule pair trace step.number (Before trail) → Knows rule pair trace (step.number + 1) (Met found)
  meets trail loc found here is time h =
      let met = met_here pair.sink step.number trace step (record { name = pair.sink; time = step.number; loc = loc }) at refl (sym here) h.1 in
      (is rule pair.source trace h.0 ∙ ap (path_to_sink rule pair.source trace) (sym met), earlier found step.number time)

  pub meets_or_out : (trail : Trail) (loc : Loc) (r : Result (Option SinkPath) NoMemory) → sink_by pair.sink step.number (Some loc) ≡ sink_here pair.sink step
      → IfOk r (IsPathHere pair step.number loc trail) → IfOk r (λ found. IfSome found (λ f. f.time ≡ step.number))
      → Knows rule pair trace step.number (Before trail) → Knows rule pair trace (step.number + 1) (standing_of r)
  meets_or_out trail loc (Ok found) here is time h = meets trail loc found here is time h
  meets_or_out trail loc (Err e) here is time h = tt

  -- it was met before
  pub met_still : (found : Option SinkPath) → Knows rule pair trace step.number (Met found) → Knows rule pair trace (step.number + 1) (Met found)
  met_still None h = h
  met_still (Some f) h = (h.0, omega (arith, h.1))

  -- so it is but for a trail
  pub known_still : (standing : Standing) → ((trail : Trail) → standing ≡ Before trail → ⊥) → Knows rule pair trace step.number standing → Knows rule pair trace (step.number + 1) standing
  known_still (Before trail) other h = absurd (other trail refl)
  known_still (Met found) other h = met_still found h
  known_still (Out e) other h = tt

module _ (rule : Rule) (pair : Pair) (job : Job) where
  -- the path was found within the run
  pub found_before : (found : Option SinkPath) → Knows rule pair (trace_of job) (steps job.log) (Met found) → IsFound rule pair job found
  found_before None h = record { path = h.0; inside = tt }
  found_before (Some f) h = record { path = h.0; inside = omega (arith, h.1) }

  module _ (trail : Trail) (end : ℕ) (is_end : end ≡ steps job.log) (h : Knows rule pair (trace_of job) (steps job.log) (Before trail)) where
    last : sink_of (trace_of job) pair.sink ≡ sink_after pair.sink end
    last =
        met_after pair.sink (steps job.log) (trace_of job) (length-steps_from (steps job.log) (start job.start job.log)) h.1
        ∙ ap (sink_after pair.sink) (sym is_end)

    -- the sink is none
    pub found_nowhere : sink_by pair.sink end None ≡ sink_after pair.sink end → IsFound rule pair job None
    found_nowhere here = record { path = ap (path_to_sink rule pair.source (trace_of job)) (here ∙ sym last); inside = tt }

    -- it is a point at the end of the run
    pub found_at_end : (loc : Loc) (found : Option SinkPath) → sink_by pair.sink end (Some loc) ≡ sink_after pair.sink end → IsPathHere pair end loc trail found
        → IfSome found (λ f. f.time ≡ end) → IsFound rule pair job found
    found_at_end loc found here is time =
        let after = subst (λ (n : ℕ). IsAfter rule pair.source (trace_of job) n trail) (sym is_end) h.0 in
        record {
          path = is rule pair.source (trace_of job) after ∙ ap (path_to_sink rule pair.source (trace_of job)) (here ∙ sym last);
          inside = within found end (steps job.log) (omega (arith, is_end)) time;
        }

-- before the first step, unless memory ran out
pub first_known : (rule : Rule) (pair : Pair) (trace : List StepSeen) (r : Result Trail NoMemory) → IfOk r (λ trail. (trace : List StepSeen) → IsAfter rule pair.source trace 0 trail)
    → Knows rule pair trace 0 (standing_before r)
first_known rule pair trace (Ok trail) h = (h trace, not_met_first pair.sink trace)
first_known rule pair trace (Err e) h = tt

pub first_sound : (rule : Rule) (pair : Pair) (r : Result Trail NoMemory) → IfOk r (λ trail. (trace : List StepSeen) → IsAfter rule pair.source trace 0 trail) → IsSound (standing_before r)
first_sound rule pair (Ok trail) h = (h []).is_trail
first_sound rule pair (Err e) h = tt

-- what two clauses say of a value, unless there is none
pub found_or_out : {T E : Type 0} {P Q R : T → Type 0} (r : Result T E) → ((x : T) → P x → Q x → R x) → IfOk r P → IfOk r Q → IfOk r R
found_or_out (Ok x) both p q = both x p q
found_or_out (Err e) both p q = tt
