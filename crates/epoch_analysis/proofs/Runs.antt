-- What is found of all epochs of a run is of the run: its summaries, in order, and its steps are in range.
use Rattle.std.proofs.Common.{◌≡◌, ℕ, suc, ◌-◌, List, [], ◌∷◌, map, length, sym, subst}
use Rattle.std.specs.Prelude.{All}
use Rattle.std.specs.List.{AllByRecursion}
use Rattle.flow_model.specs.declared.StepSeen.{StepSeen}
use Rattle.flow_model.specs.Ranges.{IsInRange}
use Rattle.log_model.specs.Logs.{steps}
use Rattle.report_model.specs.Query.{Query, AreLocated}
use Rattle.replayer.specs.Jobs.{Job, trace_of}
use Rattle.epoch_model.specs.Cutting.{Epoch, IsCutting, epochs}
use Rattle.epoch_model.specs.Summary.{AreSummaries}
use Rattle.epoch_cut.specs.Numbered.{numbered}
use Rattle.epoch_summary.specs.declared.summary.Summary.{Summary}
use Rattle.epoch_summary.specs.Summaries.{summary_of}
use Rattle.summary_join.specs.Runs.{AreOfRun}
use Rattle.local_taint.specs.Following.{AreInRange}
use Rattle.local_taint.proofs.Range.{all_in_range, trace_long}
use Rattle.epoch_analysis.specs.Epochs.{AreFound}

module _ (q : Query) (trace : List StepSeen) where
  pub found_summaries : (k s : ℕ) (cs : List ℕ) (es : List Summary) → AreFound q trace (numbered k (epochs s cs)) es → AreSummaries q trace s cs (map summary_of es)
  found_summaries k s [] [] a = tt
  found_summaries k s (c ∷ cs) (e ∷ es) a = (a.0.summary, found_summaries (suc k) c cs es a.1)
  found_summaries k s cs es a = absurd a

  -- so the steps of each epoch are in range
  pub epochs_in_range : (k s : ℕ) (cs : List ℕ) (es : List Summary) → AreFound q trace (numbered k (epochs s cs)) es
      → AllByRecursion (λ (e : Epoch). AreInRange trace e.first (e.past_last - e.first)) (epochs s cs)
  epochs_in_range k s [] es a = tt
  epochs_in_range k s (c ∷ cs) [] a = absurd a
  epochs_in_range k s (c ∷ cs) (e ∷ es) a = (a.0.in_range, epochs_in_range (suc k) c cs es a.1)

  pub found_in_range : (cuts : List ℕ) (es : List Summary) → IsCutting (length trace) cuts → AreFound q trace (numbered 0 (epochs 0 cuts)) es → All IsInRange trace
  found_in_range cuts es h a = all_in_range trace cuts h (epochs_in_range 0 0 cuts es a)

pub of_run : (job : Job) (q : Query) (cuts : List ℕ) (es : List Summary) → AreLocated q.points → IsCutting (steps job.log) cuts
    → AreFound q (trace_of job) (numbered 0 (epochs 0 cuts)) es → AreOfRun (record { query = q; trace = trace_of job; cuts = cuts }) (map summary_of es)
of_run job q cuts es located cutting found =
    let cut : IsCutting (length (trace_of job)) cuts = subst (λ n. IsCutting n cuts) (sym (trace_long job)) cutting in
    record {
      in_range = found_in_range q (trace_of job) cuts es cut found;
      located = located;
      cutting = cut;
      summaries = found_summaries q (trace_of job) 0 0 cuts es found;
    }
