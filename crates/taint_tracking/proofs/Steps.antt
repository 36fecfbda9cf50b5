-- What locations mean where an epoch begins, and after one step more.
use Rattle.std.proofs.Common.{◌≡◌, ℕ, ◌+◌, ◌≤◌, ◌<◌, List, refl, ap, sym, subst, ◌∙◌, Bool, true, false, arith}
use Rattle.std.specs.Prelude.{◌==◌, Some}
use Rattle.std.proofs.lemmas.Bool.{eqb-true, eqb-false}
use Rattle.flow_model.specs.declared.Loc.{Loc}
use Rattle.flow_model.specs.declared.StepSeen.{StepSeen}
use Rattle.flow_model.specs.Origins.{Policy, step_at}
use Rattle.flow_model.specs.Ranges.{IsInRange}
use Rattle.taint_shadow.specs.declared.places.Places.{Places}
use Rattle.taint_shadow.specs.Labels.{LabelWords, Laws, start_label}
use Rattle.taint_shadow.specs.Places.{AreKept}
use Rattle.taint_shadow.specs.Steps.{AreStanding, Holds, after}
use Rattle.taint_tracking.specs.Courses.{IsCourse}
use Rattle.taint_tracking.specs.Following.{AreInRange}

module _ {A M : Type 0} (words : LabelWords A M) where
  module _ (laws : Laws words) (labels : A) (places : Places) (untouched : AreKept places start_label) where
    -- where each location has the label of the start, each label stands
    pub first_stand : AreStanding words labels places
    first_stand = record { at = λ l here. subst (words.stands labels) (sym (untouched.at l here)) (laws.of_start labels l here).stands }

    -- and means what a course begins with
    pub first_mean : (policy : Policy) (trace : List StepSeen) (first : ℕ) (m : ℕ → Loc → M) → IsCourse words policy trace first m → Holds words labels places (m first)
    first_mean policy trace first m course = record {
      at = λ l here. ap (words.means labels) (untouched.at l here) ∙ (laws.of_start labels l here).means ∙ sym (course.begins l);
    }

  -- what a step makes of what was meant is what is meant after it
  pub next_mean : (policy : Policy) (trace : List StepSeen) (first t : ℕ) (m : ℕ → Loc → M) → IsCourse words policy trace first m → first ≤ t
      → (step : StepSeen) → step_at trace t ≡ Some step → (labels : A) (places : Places)
      → Holds words labels places (after words policy step step.call (m t)) → Holds words labels places (m (t + 1))
  next_mean policy trace first t m course begun step at labels places holds = record {
    at = λ l here. holds.at l here ∙ sym (course.turns t step begun at l);
  }

-- with a step that is in range, one more of the trace's steps are
pub one_in_range : (trace : List StepSeen) (s n : ℕ) (step : StepSeen) → step_at trace (s + n) ≡ Some step → IsInRange step → AreInRange trace s n → AreInRange trace s (n + 1)
one_in_range trace s n step at this before i other below is = by (i == n) refl where
  by : (b : Bool) → (i == n) ≡ b → IsInRange other
  by true e =
      let same : Some other ≡ Some step = sym is ∙ ap (λ k. step_at trace (s + k)) (eqb-true i n e) ∙ at in
      let one : other ≡ step = cc in
      subst IsInRange (sym one) this
  by false e = let less : i < n = omega (arith, below, eqb-false i n e) in before i other less is
