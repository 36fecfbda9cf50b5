-- The sinks of stretches of a trace. Crates above cite these lemmas.
use Rattle.std.proofs.Common.{◌≡◌, ℕ, zero, suc, ◌+◌, ◌-◌, ◌<◌, ◌≤◌, ◌==◌, List, [], ◌∷◌, ◌++◌, map, length, refl, ap, ap₂, sym, ◌∙◌, arith, append_assoc, append-nil}
use Rattle.std.specs.Prelude.{Option, Some, None}
use Rattle.std.specs.List.{filter, range_with_len, AllByRecursion}
use Rattle.std.proofs.lemmas.Bool.{eqb-true}
use Rattle.lists.proofs.Lists.{all-append, all-weaken, all-filter, all-map}
use Rattle.isa.specs.declared.CallKind.{CallKind}
use Rattle.isa.specs.declared.CallKind.TheVariants as kind
use Rattle.flow_model.specs.declared.InnerSink.{InnerSink}
use Rattle.flow_model.specs.declared.StepSeen.{StepSeen}
use Rattle.flow_model.specs.declared.CallSeen.{CallSeen}
use Rattle.flow_model.specs.Origins.{step_at}
use Rattle.flow_model.specs.Ranges.{IsLocation}
use Rattle.report_model.specs.Query.{Query, has_sink}
use Rattle.report_model.specs.Rows.{Sink, sink_at, sinks_of_call, sinks_of_step, point_sink, points_at, sinks_from, chosen_sinks}
use Rattle.epoch_model.specs.Stretch.{sinks_at_step, sinks_between, points_at_start, sinks_of_epoch}

module _ (q : Query) where
  -- ---- stretches

  pub sinks-more : (trace : List StepSeen) (s m n : ℕ) → sinks_between q trace s (m + n) ≡ sinks_between q trace s m ++ sinks_between q trace (s + m) n
  sinks-more trace s m zero =
      let none : m + 0 ≡ m = omega arith in
      ap (λ (i : ℕ). sinks_between q trace s i) none ∙ sym (append-nil (sinks_between q trace s m))
  sinks-more trace s m (suc n) =
      let later : m + suc n ≡ suc (m + n) = omega arith in
      let place : s + (m + n) ≡ (s + m) + n = omega arith in
      ap (λ (i : ℕ). sinks_between q trace s i) later
      ∙ ap₂ (λ (ks : List Sink) (t : ℕ). ks ++ sinks_at_step q t (step_at trace t)) (sinks-more trace s m n) place
      ∙ append_assoc (sinks_between q trace s m) (sinks_between q trace (s + m) n) (sinks_at_step q ((s + m) + n) (step_at trace ((s + m) + n)))

  -- the first step of a stretch comes first
  sinks-first : (trace : List StepSeen) (s n : ℕ) → sinks_between q trace s (suc n) ≡ sinks_at_step q s (step_at trace s) ++ sinks_between q trace (s + 1) n
  sinks-first trace s n =
      let more : suc n ≡ 1 + n = omega arith in
      let here : s + 0 ≡ s = omega arith in
      ap (λ (i : ℕ). sinks_between q trace s i) more ∙ sinks-more trace s 1 n
      ∙ ap (λ (t : ℕ). sinks_at_step q t (step_at trace t) ++ sinks_between q trace (s + 1) n) here

  -- the sinks up to time t are those up to a time c before, and those from there on
  pub sinks-split : (trace : List StepSeen) (s c t : ℕ) → s ≤ c → c ≤ t → sinks_between q trace s (t - s) ≡ sinks_between q trace s (c - s) ++ sinks_between q trace c (t - c)
  sinks-split trace s c t low high =
      let whole : t - s ≡ (c - s) + (t - c) = omega (arith, low, high) in
      let place : s + (c - s) ≡ c = omega (arith, low) in
      ap (sinks_between q trace s) whole ∙ sinks-more trace s (c - s) (t - c)
      ∙ ap (λ (r : ℕ). sinks_between q trace s (c - s) ++ sinks_between q trace r (t - c)) place

  sinks-from : (trace : List StepSeen) (s : ℕ) (ss : List StepSeen) → ((i : ℕ) → step_at trace (s + i) ≡ step_at ss i)
      → sinks_from q s ss ≡ points_at q s ++ sinks_between q trace s (length ss)
  sinks-from trace s [] h = sym (append-nil (points_at q s))
  sinks-from trace s (x ∷ xs) h =
      let here : s + 0 ≡ s = omega arith in
      let points = points_at q s in
      let written = filter (λ k. has_sink q k.name) (sinks_of_step s x.call) in
      let next = points_at q (s + 1) in
      let later = sinks_between q trace (s + 1) (length xs) in
      ap (λ (ks : List Sink). (points ++ written) ++ ks)
      (sinks-from trace (s + 1) xs (λ i. let place : (s + 1) + i ≡ s + suc i = omega arith in ap (step_at trace) place ∙ h (suc i)))
      ∙ append_assoc points written (next ++ later)
      ∙ ap (λ (ks : List Sink). points ++ ks)
      (sym (append_assoc written next later)
      ∙ ap (λ (o : Option StepSeen). sinks_at_step q s o ++ later) (sym (h 0) ∙ ap (step_at trace) here)
      ∙ sym (sinks-first trace s (length xs)))

  -- the sinks of the whole trace are those of one epoch
  pub sinks-all : (trace : List StepSeen) → chosen_sinks q trace ≡ sinks_of_epoch q trace 0 (length trace)
  sinks-all trace = sinks-from trace 0 trace (λ i. let place : 0 + i ≡ i = omega arith in ap (step_at trace) place)

  -- an epoch that begins later has those of its stretch
  pub sinks-later : (trace : List StepSeen) (s n : ℕ) → 0 < s → sinks_of_epoch q trace s n ≡ sinks_between q trace s n
  sinks-later trace zero n h = absurd (omega (arith, h))
  sinks-later trace (suc s) n h = refl

  -- ---- their times and locations

  -- at s or later, and at a location
  abbrev pub IsPlaced : ℕ → Sink → Type 0
  IsPlaced s k = (s ≤ k.time) × IsLocation k.loc

  placed-bytes : (s t : ℕ) (call : CallSeen) → s ≤ t → (a n : ℕ) → AllByRecursion (IsPlaced s) (map (sink_at t call) (range_with_len a n))
  placed-bytes s t call h a zero = tt
  placed-bytes s t call h a (suc n) = ((h, omega arith), placed-bytes s t call h (a + 1) n)

  placed-call : (s t : ℕ) (call : CallSeen) → s ≤ t → (k : CallKind) → AllByRecursion (IsPlaced s) (sinks_of_call t call k)
  placed-call s t call h kind.Write = placed-bytes s t call h 0 call.length
  placed-call s t call h k = tt

  placed-step : (s t : ℕ) (call : Option CallSeen) → s ≤ t → AllByRecursion (IsPlaced s) (sinks_of_step t call)
  placed-step s t None h = tt
  placed-step s t (Some call) h = placed-call s t call h call.kind

  module _ (located : AllByRecursion (λ p. IsLocation p.loc) q.points) where
    placed-points : (s t : ℕ) → s ≤ t → AllByRecursion (IsPlaced s) (points_at q t)
    placed-points s t h = all-map (IsPlaced s) point_sink (filter (λ p. p.time == t) q.points)
        (all-weaken _ (λ (p : InnerSink). IsPlaced s (point_sink p)) (λ (p : InnerSink) at. let now = eqb-true p.time t at.0 in (omega (arith, h, now), at.1)) (filter (λ p. p.time == t) q.points)
        (all-filter (λ (p : InnerSink). IsLocation p.loc) (λ p. p.time == t) q.points located))

    placed-at_step : (s t : ℕ) → s ≤ t → (step : Option StepSeen) → AllByRecursion (IsPlaced s) (sinks_at_step q t step)
    placed-at_step s t h None = tt
    placed-at_step s t h (Some step) = all-append (IsPlaced s) (filter (λ k. has_sink q k.name) (sinks_of_step t step.call)) (points_at q (t + 1))
        (all-weaken _ (IsPlaced s) (λ (k : Sink) at. at.1) _ (all-filter (IsPlaced s) (λ k. has_sink q k.name) (sinks_of_step t step.call) (placed-step s t step.call h)))
        (placed-points s (t + 1) (omega (arith, h)))

    -- the sinks of a stretch, and of an epoch, are at locations at its start or later
    pub placed-between : (trace : List StepSeen) (s n : ℕ) → AllByRecursion (IsPlaced s) (sinks_between q trace s n)
    placed-between trace s zero = tt
    placed-between trace s (suc n) = all-append (IsPlaced s) (sinks_between q trace s n) _ (placed-between trace s n) (placed-at_step s (s + n) (omega arith) (step_at trace (s + n)))

    placed-at_start : (s : ℕ) → AllByRecursion (IsPlaced s) (points_at_start q s)
    placed-at_start zero = placed-points 0 0 (omega arith)
    placed-at_start (suc s) = tt

    pub placed-of_epoch : (trace : List StepSeen) (s n : ℕ) → AllByRecursion (IsPlaced s) (sinks_of_epoch q trace s n)
    placed-of_epoch trace s n = all-append (IsPlaced s) (points_at_start q s) _ (placed-at_start s) (placed-between trace s n)
