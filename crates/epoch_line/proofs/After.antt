-- What is found of all epochs of a run, of the first with source bytes, is of the run.
use Rattle.std.proofs.Common.{◌≡◌, ℕ, ◌-◌, List, ◌∷◌, map, length, sym, subst, arith}
use Rattle.std.specs.List.{AllByRecursion}
use Rattle.log_model.specs.Logs.{steps}
use Rattle.report_model.specs.Query.{Query, AreLocated}
use Rattle.replayer.specs.Jobs.{Job, trace_of}
use Rattle.epoch_model.specs.Cutting.{Epoch, IsCutting, epochs}
use Rattle.epoch_summary.specs.declared.summary.Summary.{Summary}
use Rattle.epoch_summary.specs.Summaries.{summary_of}
use Rattle.summary_join.specs.First.{FirstFound}
use Rattle.summary_join.specs.Runs.{AreOfRunAfter}
use Rattle.local_taint.specs.Following.{AreInRange}
use Rattle.local_taint.proofs.Range.{all_in_range, trace_long}
use Rattle.epoch_analysis.proofs.Runs.{found_summaries, epochs_in_range}
use Rattle.checked_epochs.specs.Found.{AreAllFound}

pub of_run_after : (job : Job) (q : Query) (cuts : List ℕ) (first : FirstFound) (es : List Summary) → AreLocated q.points → IsCutting (steps job.log) cuts
    → AreAllFound q (trace_of job) cuts first es → AreOfRunAfter (record { query = q; trace = trace_of job; cuts = cuts }) first (map summary_of es)
of_run_after job q cuts first es located cutting found =
    let trace = trace_of job in
    let cut : IsCutting (length trace) cuts = subst (λ n. IsCutting n cuts) (sym (trace_long job)) cutting in
    let whole : found.past_first ≡ found.past_first - 0 = omega arith in
    let begins : AreInRange trace 0 (found.past_first - 0) = subst (AreInRange trace 0) whole found.in_range in
    let ranges : AllByRecursion (λ (e : Epoch). AreInRange trace e.first (e.past_last - e.first)) (epochs 0 (found.past_first ∷ found.later)) =
    (begins, epochs_in_range q trace 1 found.past_first found.later es found.found) in
    record {
      in_range = all_in_range trace cuts cut (subst (λ cs. AllByRecursion (λ (e : Epoch). AreInRange trace e.first (e.past_last - e.first)) (epochs 0 cs)) (sym found.cuts_are) ranges);
      located = located;
      cutting = cut;
      past_first = found.past_first;
      later = found.later;
      cuts_are = found.cuts_are;
      first_found = found.first_found;
      summaries = found_summaries q trace 1 found.past_first found.later es found.found;
    }
