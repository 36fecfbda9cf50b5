-- Nothing is passed over.
use Rattle.std.proofs.Common.{◌≡◌, ℕ, ◌+◌, ◌-◌, ◌<◌, ◌≤◌, true, false, [], ◌⊎◌, inl, inr, Option, Some, None, find, refl, ap, sym, ◌∙◌, subst, arith}
use Rattle.std.specs.Prelude.{is_some}
use Rattle.std.proofs.lemmas.Bool.{true≢false, or_parts, or_right, cases_order}
use Rattle.flow_model.specs.declared.StepSeen.{StepSeen}
use Rattle.flow_model.specs.Origins.{step_at}
use Rattle.log_model.specs.Logs.{steps}
use Rattle.replayer.specs.Jobs.{Job, trace_of}
use Rattle.run_travel.specs.declared.aim.Aim.TheVariants.{Step, Points}
use Rattle.run_travel.specs.declared.watch.Watch.{Watch}
use Rattle.run_travel.specs.Stops.{PointsAt, meets, met_by, met_at, pc_at, is_break, is_point, stops_after, stops_before}
use Rattle.run_travel.specs.Moves.{stop_on, stop_back, time_after}
use Rattle.run_travel.specs.MoveLaws.{NonePasses, IsLeast, IsGreatest, NothingIsPassedOn, NothingIsPassedBack, OneStepIsMade, OnIsTakenBack}
use Rattle.run_travel.proofs.Finding.{least, greatest}
use Rattle.run_travel.proofs.Stopping.{stops_here}

pub none_on : NothingIsPassedOn
none_on job points aim t h =
    let all : t + (steps job.log - t) ≡ steps job.log = omega arith in
    subst (λ (n : ℕ). IsLeast (stops_after job points aim) t n (stop_on job points aim t)) all (least (stops_after job points aim) t (steps job.log - t))

pub none_back : NothingIsPassedBack
none_back job points t = greatest (stops_before job points) t

pub one_step : OneStepIsMade
one_step job points t h = stops_here job points Step t h (or_right (is_point points (met_at job points t) (pc_at job (t + 1))) true refl)

-- ---- with breakpoints alone

none_met : (points : PointsAt) (o : Option StepSeen) → points.watches ≡ [] → met_by points o ≡ None
none_met points None e = refl
none_met points (Some step) e = ap (find (meets step)) e

-- so a run stops alike forward and back: where its pc is a breakpoint
stops_back : (job : Job) (points : PointsAt) (t : ℕ) → points.watches ≡ [] → stops_before job points t ≡ is_break points (pc_at job t)
stops_back job points t e = ap (λ (o : Option Watch). is_point points o (pc_at job t)) (none_met points (step_at (trace_of job) t) e)

passed : (job : Job) (points : PointsAt) (t : ℕ) → stops_after job points Points t ≡ false → is_break points (pc_at job (t + 1)) ≡ false
passed job points t e =
    let met = met_at job points t in
    let pc = pc_at job (t + 1) in
    (or_parts (is_some met) (is_break points pc) ((or_parts (is_point points met pc) false e).0)).1

-- from one breakpoint on, up to a time, no later pc is another, so it's the last one before that time
last_is : (job : Job) (points : PointsAt) (t last : ℕ) (o : Option ℕ) → points.watches ≡ [] → is_break points (pc_at job t) ≡ true → t ≤ last
    → NonePasses (stops_after job points Points) t last → IsGreatest (stops_before job points) 0 (last + 1) o → o ≡ Some t
last_is job points t last None alone here low none is =
    absurd (true≢false (sym here ∙ (sym (stops_back job points t alone) ∙ is t (omega arith) (omega arith))))
last_is job points t last (Some n) alone here low none is = by (cases_order n t) where
  by : (n ≡ t) ⊎ ((n < t) ⊎ (t < n)) → Some n ≡ Some t
  by (inl same) = ap (λ (k : ℕ). Some k) same
  by (inr (inl less)) = absurd (true≢false (sym here ∙ (sym (stops_back job points t alone) ∙ is.3 t (omega arith) (omega arith))))
  by (inr (inr more)) =
      let again : n - 1 + 1 ≡ n = omega arith in
      let apart = ap (λ (k : ℕ). is_break points (pc_at job k)) (sym again) ∙ passed job points (n - 1) (none (n - 1) (omega arith) (omega (arith, is.1))) in
      absurd (true≢false (sym is.2 ∙ (stops_back job points n alone ∙ apart)))

pub taken_back : OnIsTakenBack
taken_back job points t alone low here = by (stop_on job points Points t) (none_on job points Points t (omega arith)) where
  by : (o : Option ℕ) → IsLeast (stops_after job points Points) t (steps job.log) o → stop_back job points (time_after job o) ≡ Some t
  by None is =
      let last : steps job.log - 1 + 1 ≡ steps job.log = omega arith in
      ap (stop_back job points) (sym last)
      ∙ last_is job points t (steps job.log - 1) (stop_back job points (steps job.log - 1 + 1)) alone here (omega arith) (λ k from below. is k from (omega arith)) (none_back job points (steps job.log - 1 + 1))
  by (Some step) is = last_is job points t step (stop_back job points (step + 1)) alone here is.0 is.3 (none_back job points (step + 1))
