-- The sinks of an epoch, one step after another.
use Rattle.std.proofs.Common.{◌≡◌, ℕ, ◌+◌, ◌<◌, ◌^◌, List, [], ◌∷◌, ◌++◌, map, refl, ap, sym, ◌∙◌, Bool, true, false, cond, arith, append_assoc, append-nil, add-one, zero, suc}
use Rattle.std.specs.Prelude.{Option, Some, None, nat_eq}
use Rattle.std.specs.List.{range_with_len, AllByRecursion}
use Rattle.std.proofs.lemmas.Bool.{eqb-true}
use Rattle.std.proofs.lemmas.List.{map-append}
use Rattle.std.proofs.lemmas.List.Elements.{recursion_from_All}
use Rattle.isa.specs.declared.CallKind.{CallKind}
use Rattle.isa.specs.declared.CallKind.TheVariants as kind
use Rattle.isa.specs.Machine.{wrap}
use Rattle.flow_model.specs.declared.Loc.{Loc}
use Rattle.flow_model.specs.declared.InnerSink.{InnerSink}
use Rattle.flow_model.specs.declared.SinkPoint.{SinkPoint}
use Rattle.flow_model.specs.declared.StepSeen.{StepSeen}
use Rattle.flow_model.specs.declared.CallSeen.{CallSeen}
use Rattle.flow_model.specs.Origins.{step_at}
use Rattle.flow_model.specs.Ranges.{IsLocation}
use Rattle.report_model.specs.Query.{Query, AreLocated, has_sink}
use Rattle.report_model.specs.Rows.{Sink, sink_at, point_sink, sinks_of_call, sinks_of_step, at_time}
use Rattle.epoch_model.specs.Stretch.{points_at_start, sinks_at_step, sinks_between, sinks_of_epoch}
use Rattle.taint_shadow.specs.declared.places.Places.{Places}
use Rattle.taint_shadow.specs.Labels.{LabelWords, KeepsLabels}
use Rattle.taint_shadow.specs.Steps.{AreStanding, Holds}
use Rattle.taint_shadow.specs.declared.labels.SinkLabel.{SinkLabel}
use Rattle.taint_tracking.specs.Sinks.{Notes, chosen, meant, labelled, AreLabelled, sinks_at}
use Rattle.taint_tracking.proofs.Notes.{AreHere, noted_stand, noted_rows, meaning_kept}

-- ---- the times and the locations of sinks

here_bytes : (t : ℕ) (call : CallSeen) (is : List ℕ) → AreHere t (map (sink_at t call) is)
here_bytes t call [] = tt
here_bytes t call (i ∷ is) = let inside : wrap (call.place + i) < 2 ^ 32 = omega arith in ((refl, inside), here_bytes t call is)

here_call : (t : ℕ) (call : CallSeen) (k : CallKind) → AreHere t (sinks_of_call t call k)
here_call t call kind.Write = here_bytes t call (range_with_len 0 call.length)
here_call t call kind.Read = tt
here_call t call kind.Clock = tt
here_call t call kind.Other = tt
here_call t call kind.Exit = tt

here_step : (t : ℕ) (call : Option CallSeen) → AreHere t (sinks_of_step t call)
here_step t None = tt
here_step t (Some call) = here_call t call call.kind

here_chosen : (t : ℕ) (q : Query) (ks : List Sink) → AreHere t ks → AreHere t (chosen q ks)
here_chosen t q [] h = tt
here_chosen t q (k ∷ ks) h = by (has_sink q k.name) (here_chosen t q ks h.1) where
  by : (b : Bool) → AreHere t (chosen q ks) → AreHere t (cond b (k ∷ chosen q ks) (chosen q ks))
  by true ih = (h.0, ih)
  by false ih = ih

-- the chosen bytes of a step
pub here_written : (t : ℕ) (q : Query) (call : Option CallSeen) → AreHere t (chosen q (sinks_of_step t call))
here_written t q call = here_chosen t q (sinks_of_step t call) (here_step t call)

here_each : (t : ℕ) (ps : List InnerSink) → AllByRecursion (λ p. IsLocation p.loc) ps → AreHere t (sinks_at t ps)
here_each t [] located = tt
here_each t (p ∷ ps) located = by (nat_eq p.time t) refl (here_each t ps located.1) where
  by : (b : Bool) → nat_eq p.time t ≡ b → AreHere t (sinks_at t ps) → AreHere t (map point_sink (cond b (p ∷ at_time t ps) (at_time t ps)))
  by true e ih = ((eqb-true p.time t e, located.0), ih)
  by false e ih = ih

-- points at a time
pub here_points : (t : ℕ) (ps : List InnerSink) → AreLocated ps → AreHere t (sinks_at t ps)
here_points t ps located = here_each t ps (recursion_from_All (λ (p : InnerSink). IsLocation p.loc) ps located)

pub here_at_start : (s : ℕ) (q : Query) → AreLocated q.points → AreHere s (points_at_start q s)
here_at_start zero q located = here_points 0 q.points located
here_at_start (suc s) q located = tt

module _ {A M : Type 0} (words : LabelWords A M) (q : Query) (trace : List StepSeen) (m : ℕ → Loc → M) where
  -- the sinks where an epoch begins
  pub first_sinks : (s : ℕ) (labels : A) (places : Places) (none sinks : List SinkLabel) → Holds words labels places (m s) → AreHere s (points_at_start q s) → none ≡ []
      → Notes places (points_at_start q s) none sinks
      → map (labelled words labels) sinks ≡ map (meant m) (sinks_of_epoch q trace s 0)
  first_sinks s labels places none sinks holds here empty notes =
      let start = points_at_start q s in
      noted_rows words labels places s m holds start here none sinks notes
      ∙ ap (λ (xs : List SinkLabel). map (labelled words labels) xs ++ map (meant m) start) empty
      ∙ ap (map (meant m)) (sym (append-nil start))

  -- the sinks of one step more
  module _ (s n t : ℕ) (now : t ≡ s + n) (step : StepSeen) (at : step_at trace (s + n) ≡ Some step) where
    one_more_step : sinks_of_epoch q trace s (n + 1) ≡ sinks_of_epoch q trace s n ++ (chosen q (sinks_of_step t step.call) ++ sinks_at (t + 1) q.points)
    one_more_step =
        let start = points_at_start q s in
        let so_far = sinks_between q trace s n in
        ap (λ (k : ℕ). sinks_of_epoch q trace s k) (add-one n)
        ∙ ap (λ (o : Option StepSeen). start ++ (so_far ++ sinks_at_step q (s + n) o)) at
        ∙ ap (λ (k : ℕ). start ++ (so_far ++ sinks_at_step q k (Some step))) (sym now)
        ∙ sym (append_assoc start so_far (sinks_at_step q t (Some step)))

    pub more_sinks : (before after : Places) (a b : A) (x y z : List SinkLabel)
        → AreStanding words a before → AreLabelled words a x → map (labelled words a) x ≡ map (meant m) (sinks_of_epoch q trace s n)
        → Holds words a before (m t) → Notes before (chosen q (sinks_of_step t step.call)) x y
        → KeepsLabels words a b → Holds words b after (m (t + 1)) → AreHere (t + 1) (sinks_at (t + 1) q.points) → Notes after (sinks_at (t + 1) q.points) y z
        → map (labelled words b) z ≡ map (meant m) (sinks_of_epoch q trace s (n + 1))
    more_sinks before after a b x y z standing stand e holds written keeps holds_later due_here due =
        let wrote = chosen q (sinks_of_step t step.call) in
        let points = sinks_at (t + 1) q.points in
        let so_far = sinks_of_epoch q trace s n in
        let here = here_written t q step.call in
        let row = meant m in
        let stand_too = noted_stand words a before t standing wrote here x y written stand in
        noted_rows words b after (t + 1) m holds_later points due_here y z due
        ∙ ap (λ (rs : List (SinkPoint × M)). rs ++ map row points)
        (meaning_kept words a b y keeps stand_too ∙ noted_rows words a before t m holds wrote here x y written ∙ ap (λ (rs : List (SinkPoint × M)). rs ++ map row wrote) e)
        ∙ append_assoc (map row so_far) (map row wrote) (map row points)
        ∙ ap (λ (rs : List (SinkPoint × M)). map row so_far ++ rs) (sym (map-append row wrote points))
        ∙ sym (map-append row so_far (wrote ++ points))
        ∙ ap (map row) (sym one_more_step)
