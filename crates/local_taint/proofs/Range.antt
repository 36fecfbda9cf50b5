-- Where the steps of each epoch of a run are in range, all of its steps are. Crates above cite these lemmas.
use Rattle.std.proofs.Common.{◌≡◌, ℕ, zero, suc, ◌+◌, ◌-◌, ◌<◌, ◌≤◌, Some, List, [], ◌∷◌, length, get_or, refl, ap, ◌∙◌, arith, Bool, true, false}
use Rattle.std.specs.Prelude.{All, nat_lt}
use Rattle.std.specs.List.{AllByRecursion}
use Rattle.std.proofs.lemmas.Bool.{ltb-true, ltb-false}
use Rattle.flow_model.specs.declared.StepSeen.{StepSeen}
use Rattle.flow_model.specs.Origins.{step_at}
use Rattle.flow_model.specs.Ranges.{IsInRange}
use Rattle.log_model.specs.Logs.{steps}
use Rattle.replay_model.specs.Run.{start}
use Rattle.replay_model.proofs.Offsets.{length-steps_from}
use Rattle.replayer.specs.Jobs.{Job, trace_of}
use Rattle.epoch_model.specs.Cutting.{Epoch, RisesTo, IsCutting, epochs}
use Rattle.local_taint.specs.Following.{AreInRange}

-- a run has as many steps as its log says
pub trace_long : (job : Job) → length (trace_of job) ≡ steps job.log
trace_long job = length-steps_from (steps job.log) (start job.start job.log)

module _ (trace : List StepSeen) where
  -- a step from time s on is one of an epoch
  in_some_epoch : (s n : ℕ) (cs : List ℕ) → RisesTo s cs n → AllByRecursion (λ (e : Epoch). AreInRange trace e.first (e.past_last - e.first)) (epochs s cs)
      → (t : ℕ) (step : StepSeen) → s ≤ t → t < n → step_at trace t ≡ Some step → IsInRange step
  in_some_epoch s n [] r a t step low high at = absurd (omega (arith, r, low, high))
  in_some_epoch s n (c ∷ cs) r a t step low high at =
      by (λ later. in_some_epoch c n cs r.1 a.1 t step later high at) (nat_lt t c) refl where
        by : (c ≤ t → IsInRange step) → (b : Bool) → nat_lt t c ≡ b → IsInRange step
        by go true h =
            let here : t < c = ltb-true t c h in
            let place : s + (t - s) ≡ t = omega (arith, low) in
            a.0 (t - s) step (omega (arith, low, here)) (ap (step_at trace) place ∙ at)
        by go false h = go (ltb-false t c h)

step_in : (trace : List StepSeen) (i : ℕ) (d : StepSeen) → i < length trace → step_at trace i ≡ Some (get_or trace i d)
step_in [] i d h = absurd (omega (arith, h))
step_in (s ∷ ss) zero d h = refl
step_in (s ∷ ss) (suc i) d h = step_in ss i d (omega (arith, h))

pub all_in_range : (trace : List StepSeen) (cuts : List ℕ) → IsCutting (length trace) cuts
    → AllByRecursion (λ (e : Epoch). AreInRange trace e.first (e.past_last - e.first)) (epochs 0 cuts) → All IsInRange trace
all_in_range [] cuts h a = λ i d below. absurd (omega (arith, below))
all_in_range (s ∷ ss) cuts h a =
    λ i d below. in_some_epoch (s ∷ ss) 0 (length (s ∷ ss)) cuts h a i (get_or (s ∷ ss) i d) (omega arith) below (step_in (s ∷ ss) i d below)
