-- A tracking after one step more.
use Rattle.std.proofs.Common.{◌≡◌, ℕ, zero, suc, ◌+◌, ◌-◌, ◌<◌, ◌≤◌, List, [], ◌∷◌, map, length, get_or, refl, ap, sym, ◌∙◌, subst, arith, ⊎_elim}
use Rattle.std.specs.Prelude.{Some, All, nat_le, Result, Ok, Err, OnOk}
use Rattle.std.proofs.lemmas.List.Elements.{All-filter, All-from_recursion}
use Rattle.std.proofs.lemmas.Bool.{cases_lt}
use Rattle.isa.specs.Encodings.{Fits}
use Rattle.flow_model.specs.declared.Loc.{Loc}
use Rattle.flow_model.specs.declared.InnerSink.{InnerSink}
use Rattle.flow_model.specs.declared.StepSeen.{StepSeen}
use Rattle.flow_model.specs.Flow.{flow}
use Rattle.flow_model.specs.Orders.{inner_cmp}
use Rattle.flow_model.specs.Origins.{step_at}
use Rattle.flow_model.specs.Ranges.{IsLocation, IsInRange}
use Rattle.report_model.specs.Query.{Query, AreLocated, policy_of}
use Rattle.report_model.specs.Rows.{point_sink, sinks_of_step, from_time}
use Rattle.report_model.proofs.Due.{AreAfter, after_due, due_are, later_are, due_now, later_now, left_in_time}
use Rattle.replayer.specs.declared.cursor.PlainStep.{PlainStep}
use Rattle.replayer.specs.Nexts.{seen_at}
use Rattle.lists.specs.Sets.{Ascends}
use Rattle.epoch_model.specs.Stretch.{sinks_of_epoch}
use Rattle.taint_shadow.specs.Labels.{LabelWords, KeepsLabels}
use Rattle.taint_shadow.specs.declared.places.Places.{Places}
use Rattle.taint_shadow.specs.Steps.{AreStanding, Holds, after, turned as turned_by}
use Rattle.taint_shadow.specs.declared.labels.SinkLabel.{SinkLabel}
use Rattle.taint_tracking.specs.declared.tracking.Tracking.{Tracking}
use Rattle.taint_tracking.specs.Courses.{IsCourse}
use Rattle.taint_tracking.specs.Sinks.{Notes, chosen, meant, labelled, sinks_at}
use Rattle.taint_tracking.specs.Following.{IsSound, IsTracked, IsTurned, AreNoted, NotesDue, TracksStep, AreInRange, number_before}
use Rattle.taint_tracking.proofs.Notes.{AreHere, no_notes, labelled_kept}
use Rattle.taint_tracking.proofs.Steps.{next_mean, one_in_range}
use Rattle.taint_tracking.proofs.Between.{more_sinks, here_points}

-- ---- points

-- of points that ascend the first is due first
pub first_due : (points : List InnerSink) (p : InnerSink) → 0 < length points → p ≡ get_or points 0 p → Ascends inner_cmp points → All (λ q. p.time ≤ q.time) points
first_due points p inside first ascend i d h = by p.time refl where
  by : (t : ℕ) → p.time ≡ t → p.time ≤ (get_or points i d).time
  by zero e = omega (arith, e)
  by (suc t) e =
      let sooner : t < p.time = omega (arith, e) in
      let later = All-from_recursion (λ (q : InnerSink). t < q.time) points (after_due t points 0 p inside first ascend sooner) i d h in
      omega (arith, e, later)

-- where the first of the points that are left is not due after a step, none is
pub quiet_after : (points : List InnerSink) (number : ℕ) → Ascends inner_cmp points → All (λ p. number < p.time) points → (number ≡ number_before points → ⊥) → AreAfter (number + 1) points
quiet_after [] number ascend later apart = tt
quiet_after (p ∷ ps) number ascend later apart =
    let first = later 0 p (omega arith) in
    after_due (number + 1) (p ∷ ps) 0 p (omega arith) refl ascend (⊎_elim (λ h. h) (λ h. absurd (apart (omega (arith, first, h)))) (cases_lt (number + 1) p.time))

-- where points are at locations, those of them that are left are
pub left_located : (t : ℕ) (points left : List InnerSink) → left ≡ from_time t points → AreLocated points → AreLocated left
left_located t points left is located = subst AreLocated (sym is) (All-filter (λ (p : InnerSink). nat_le t p.time) (λ (p : InnerSink). IsLocation p.loc) points located)

module _ {A M : Type 0} (words : LabelWords A M) where
  -- where no point is due, nothing is noted
  pub none_due : (t : Tracking A) (number : ℕ) → AreAfter (number + 1) t.points.now → AreNoted words number t t
  none_due t number later =
      let points = t.points.now in
      let next : number + 1 + 1 ≡ number + 2 = omega arith in
      record {
        noted = subst (λ ks. Notes t.places ks t.sinks.items t.sinks.items) (sym (ap (map point_sink) (due_are (number + 1) points 0 later refl))) (no_notes t.places t.sinks.items);
        left = later_are (number + 1) points 0 later refl ∙ ap (λ k. from_time k points) next;
        rest = refl;
      }

  -- a turn of the labels leaves all sound
  pub turned_sound : {E U : Type 0} (r : Result U E) (old : Tracking A) (labels : A) (places : Places) → IsSound words old → OnOk r (AreStanding words labels places) → OnOk r (KeepsLabels words old.labels labels)
      → OnOk r (IsSound words (record old { labels = labels; places = places }))
  turned_sound (Ok x) old labels places sound standing keeps = record {
    locations = standing;
    sinks = labelled_kept words old.labels labels old.sinks.items keeps sound.sinks;
    points = sound.points;
    located = sound.located;
    due = sound.due;
  }
  turned_sound (Err e) old labels places sound standing keeps = tt

  -- ---- one step more

  module _ (q : Query) (trace : List StepSeen) (first time : ℕ) (m : ℕ → Loc → M) (course : IsCourse words (policy_of q) trace first m)
      (old : Tracking A) (here : IsTracked words q trace first time m old) where
    -- after its bytes were noted, locations have the labels that it makes, and the points due after it were noted
    pub one_step : (step : StepSeen) → step_at trace time ≡ Some step → IsInRange step → (written : List SinkLabel) (turned new : Tracking A)
        → Notes old.places (chosen q (sinks_of_step time step.call)) old.sinks.items written
        → Holds words turned.labels turned.places (after words (policy_of q) step step.call (m time))
        → KeepsLabels words old.labels turned.labels
        → turned.query.now ≡ old.query.now → turned.points.now ≡ old.points.now → turned.sinks.items ≡ written
        → NotesDue words time turned new → IsSound words new → IsTracked words q trace first (time + 1) m new
    one_step step at range written turned new notes holds keeps same_query same_points is_written notes_due sound =
        let n = time - first in
        let begun = here.begun in
        let this : time ≡ first + n = omega (arith, begun) in
        let next : n + 1 ≡ time + 1 - first = omega (arith, begun) in
        let then : time + 2 ≡ time + 1 + 1 = omega arith in
        let made : step_at trace (first + n) ≡ Some step = subst (λ (t : ℕ). step_at trace t ≡ Some step) this at in
        let means = next_mean words (policy_of q) trace first time m course begun step at turned.labels turned.places holds in
        let left = same_points ∙ here.left in
        let due = notes_due (λ i d h. let later = left_in_time (time + 1) (time + 1) turned.points.now q.points refl left i d h in omega arith) in
        let points = due_now (time + 1) (time + 1) turned.points.now q.points refl left in
        let noted = subst (λ (y : List SinkLabel). Notes turned.places (sinks_at (time + 1) q.points) y new.sinks.items) is_written
        (subst (λ (ps : List InnerSink). Notes turned.places (map point_sink ps) turned.sinks.items new.sinks.items) points due.noted) in
        let located = subst AreLocated (sym same_points) here.sound.located in
        let due_here = subst (λ (ps : List InnerSink). AreHere (time + 1) (map point_sink ps)) points (here_points (time + 1) turned.points.now located) in
        let rows = more_sinks words q trace m first n time this step made old.places turned.places old.labels turned.labels old.sinks.items written new.sinks.items
        here.sound.locations here.sound.sinks here.found.rows here.found.holds notes keeps means due_here noted in
        let later : Tracking A = record turned { sinks = new.sinks; points = new.points; due_after = new.due_after } in
        let tracked : IsTracked words q trace first (time + 1) m later = record {
          sound = subst (IsSound words) due.rest sound;
          query = same_query ∙ here.query;
          begun = omega (arith, begun);
          found = record {
            in_range = subst (AreInRange trace first) next (one_in_range trace first n step made range here.found.in_range);
            holds = means;
            rows = subst (λ (k : ℕ). map (labelled words turned.labels) new.sinks.items ≡ map (meant m) (sinks_of_epoch q trace first k)) next rows;
          };
          left = due.left ∙ ap (λ k. from_time k turned.points.now) then ∙ later_now (time + 1) (time + 1) turned.points.now q.points refl left;
        } in
        subst (IsTracked words q trace first (time + 1) m) (sym due.rest) tracked

    -- a step that is no call writes nothing
    pub plain_step : (step : PlainStep) → step_at trace time ≡ Some (seen_at time step) → Fits step.instr → (turned new : Tracking A) → IsTurned words old step.instr step.place turned
        → NotesDue words time turned new → IsSound words new → IsTracked words q trace first (time + 1) m new
    plain_step step at fits turned new turn notes_due sound =
        let holds = subst (λ (k : Query). Holds words turned.labels turned.places (turned_by words (flow k.rule step.instr step.place) (m time))) here.query (turn.labels.holds (m time) here.found.holds) in
        one_step (seen_at time step) at (record { fits = fits; call = tt }) old.sinks.items turned new (no_notes old.places old.sinks.items)
        (record { at = λ l place. holds.at l place }) turn.labels.keeps (ap (λ (t : Tracking A). t.query.now) turn.rest) (ap (λ (t : Tracking A). t.points.now) turn.rest)
        (ap (λ (t : Tracking A). t.sinks.items) turn.rest) notes_due sound

  -- after a step that is no call and comes before the one after which the next point is due, nothing is noted
  pub quiet_step : (step : PlainStep) (old new : Tracking A) → Fits step.instr → IsTurned words old step.instr step.place new → IsSound words new
      → (number : ℕ) → number < old.due_after → TracksStep words (seen_at number step) old new
  quiet_step step old new fits turn sound number quiet trace at q first m course here =
      let same : new.due_after ≡ old.due_after = ap (λ (t : Tracking A). t.due_after) turn.rest in
      plain_step q trace first number m course old here step at fits new new turn
      (λ later. none_due new number (quiet_after new.points.now number sound.points later (λ e. omega (arith, quiet, same, sound.due, e)))) sound
