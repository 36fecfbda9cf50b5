-- The epochs of a cutting begin at the checkpoints; their analyses have the numbers of tasks; and what these find is of the epochs.
use Rattle.std.proofs.Common.{◌≡◌, ℕ, suc, add-one, List, [], ◌∷◌, map, length, refl, sym, subst, ap, ◌∙◌}
use Rattle.std.specs.Prelude.{All}
use Rattle.std.specs.List.{AllZip, range_with_len}
use Rattle.std.proofs.lemmas.List.Elements.{All-from_recursion}
use Rattle.std.proofs.lemmas.Option.{slice_get_within}
use Rattle.lists.proofs.Lists.{all-weaken}
use Rattle.report_model.specs.Query.{Query}
use Rattle.replayer.specs.Jobs.{trace_of}
use Rattle.epoch_model.specs.Cutting.{epochs}
use Rattle.epoch_cut.specs.Numbered.{NumberedEpoch, numbered}
use Rattle.checkpoints.specs.Points.{CheckpointsAt}
use Rattle.epoch_summary.specs.declared.summary.Summary.{Summary}
use Rattle.epoch_engine.specs.Collecting.{AreAtBeginnings}
use Rattle.epoch_node.specs.Cores.{CanStart}
use Rattle.epoch_layout.specs.Layouts.{CutRun, points_of, epochs_of}
use Rattle.epoch_layout.proofs.Tickets.{all_can_start}
use Rattle.epoch_analysis.specs.Epochs.{BeginsAt, IsFound, AreFound}
use Rattle.epoch_analysis.specs.Analyses.{AnalysisView, IsSameAnalysis, IsFoundBy, fresh, number_of}

-- ---- where epochs begin

begins : (points : CheckpointsAt) (e : NumberedEpoch) → CanStart points e → BeginsAt points e
begins points e c = record { number = slice_get_within points.times e.number e.first c.begins; first = c.begins; past_last = c.ends }

pub all_begin : (q : Query) (points : CheckpointsAt) (cuts : List ℕ) → AreAtBeginnings cuts points → All (BeginsAt points) (numbered 0 (epochs 0 cuts))
all_begin q points cuts h =
    let run : CutRun = record { job = points.job; query = q; cuts = cuts } in
    let same : points_of run ≡ points = ap (λ ts. record { job = points.job; times = ts }) (sym h.times) in
    subst (λ (ps : CheckpointsAt). All (BeginsAt ps) (epochs_of run)) same
    (All-from_recursion (BeginsAt (points_of run)) (epochs_of run)
    (all-weaken (CanStart (points_of run)) (BeginsAt (points_of run)) (begins (points_of run)) (epochs_of run) (all_can_start run h.cutting)))

-- ---- numbers

module _ (points : CheckpointsAt) (q : Query) where
  pub numbers_of : (k s : ℕ) (cs : List ℕ) → map number_of (map (fresh points q) (numbered k (epochs s cs))) ≡ range_with_len k (length cs)
  numbers_of k s [] = refl
  numbers_of k s (c ∷ cs) = ap (λ ks. k ∷ ks) (numbers_of (suc k) c cs ∙ ap (λ j. range_with_len j (length cs)) (sym (add-one k)))

  pub count_of : (es : List NumberedEpoch) → length (map (fresh points q) es) ≡ length es
  count_of [] = refl
  count_of (e ∷ es) = ap suc (count_of es)

  -- ---- what is found

  found_one : (e : NumberedEpoch) (a : AnalysisView) (s : Summary) → IsSameAnalysis a (fresh points q e) → IsFoundBy a s → IsFound q (trace_of points.job) e s
  found_one e a s same found =
      subst (λ (x : NumberedEpoch). IsFound q (trace_of points.job) x s) same.epoch
      (subst (λ (x : CheckpointsAt). IsFound q (trace_of x.job) a.epoch s) same.points
      (subst (λ (x : Query). IsFound x (trace_of a.points.job) a.epoch s) same.query found))

  pub all_found : (es : List NumberedEpoch) (analyses : List AnalysisView) (ss : List Summary) → AllZip IsSameAnalysis analyses (map (fresh points q) es) → AllZip IsFoundBy analyses ss
      → AreFound q (trace_of points.job) es ss
  all_found [] [] [] same found = tt
  all_found (e ∷ es) (a ∷ analyses) (s ∷ ss) same found = (found_one e a s same.0 found.0, all_found es analyses ss same.1 found.1)
  all_found [] [] (s ∷ ss) same found = absurd found
  all_found [] (a ∷ analyses) ss same found = absurd same
  all_found (e ∷ es) [] ss same found = absurd same
  all_found (e ∷ es) (a ∷ analyses) [] same found = absurd found
