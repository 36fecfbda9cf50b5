-- The epochs of a cutting begin at the checkpoints, and what is found of them is of all steps.
use Rattle.std.proofs.Common.{◌≡◌, ℕ, zero, suc, ◌+◌, ◌<◌, ◌≤◌, List, [], ◌∷◌, length, slice_get, ap, sym, ◌∙◌, arith}
use Rattle.std.specs.List.{AllByRecursion}
use Rattle.lists.proofs.Lists.{slice_get-take}
use Rattle.log_model.specs.Logs.{steps}
use Rattle.epoch_model.specs.Cutting.{IsCutting, epochs}
use Rattle.epoch_model.proofs.Cutting.{all_within, one_left, AreLeft}
use Rattle.epoch_cut.specs.Numbered.{numbered}
use Rattle.epoch_node.specs.Cores.{CanStart}
use Rattle.epoch_layout.specs.Layouts.{CutRun, points_of, epochs_of}

-- ---- where epochs begin

module _ (run : CutRun) where
  from_place : (k s : ℕ) (cs : List ℕ) → AreLeft run.cuts k s cs → AllByRecursion (λ c. c ≤ steps run.job.log) cs
      → AllByRecursion (CanStart (points_of run)) (numbered k (epochs s cs))
  from_place k s [] h a = tt
  from_place k s (c ∷ cs) h a =
      let below : k < length run.cuts = omega (arith, h.count) in
      let place : k + 0 ≡ k = omega arith in (
        record { begins = slice_get-take (length run.cuts) k (0 ∷ run.cuts) below ∙ ap (slice_get (0 ∷ run.cuts)) (sym place) ∙ h.at 0; ends = a.0 },
        from_place (suc k) c cs (one_left run.cuts k s c cs h) a.1,
      )

  pub all_can_start : IsCutting (steps run.job.log) run.cuts → AllByRecursion (CanStart (points_of run)) (epochs_of run)
  all_can_start h =
      from_place 0 0 run.cuts (record { count = omega arith; at = λ j. let place : 0 + j ≡ j = omega arith in ap (slice_get (0 ∷ run.cuts)) place }) (all_within (steps run.job.log) run.cuts h)

-- there is an epoch
pub some_epoch : (n : ℕ) (cuts : List ℕ) → IsCutting n cuts → 1 ≤ length cuts
some_epoch zero cuts e = let n : length cuts ≡ 1 = ap length e in omega (arith, n)
some_epoch (suc n) [] r = absurd (omega (arith, r))
some_epoch (suc n) (c ∷ cs) r = omega arith
