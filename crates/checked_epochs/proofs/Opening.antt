-- A run whose check has begun, and what a check that has ended says of its job.
use Rattle.std.proofs.Common.{◌≡◌, ℕ, List, [], ◌∷◌, false, None, Ok, refl, sym, ap, ◌∙◌, subst, arith}
use Rattle.std.specs.List.{AllZip}
use Rattle.elf_model.specs.Image.{Image, image}
use Rattle.log_model.specs.Logs.{Log}
use Rattle.report_model.specs.Query.{Query}
use Rattle.replay_model.specs.declared.Divergence.{Divergence}
use Rattle.replay_model.specs.Comparison.{divergence}
use Rattle.replay_model.specs.Fits.{start_in_image}
use Rattle.replay_model.specs.Run.{start, moment_after}
use Rattle.replay_model.proofs.Agreement.{divergence_differs}
use Rattle.replay_run.specs.Runs.{RunAt}
use Rattle.replayer.specs.Checks.{IsChecked, IsDiverged}
use Rattle.replayer.specs.Cursors.{Stands}
use Rattle.replayer.specs.InParts.{IsOpened, AgreesSoFar, Differs, job_of}
use Rattle.replayer.specs.Jobs.{Job, trace_of}
use Rattle.epoch_cut.specs.Numbered.{NumberedEpoch}
use Rattle.epoch_summary.specs.declared.summary.Summary.{Summary}
use Rattle.local_taint.specs.Ahead.{IsFoundAhead}
use Rattle.epoch_analysis.specs.Epochs.{AreFound}
use Rattle.checked_epochs.specs.Beginnings.{IsOfSome}

pub agrees_at_start : (job : Job) (run : RunAt) → run ≡ record { log = job.log; moment = start job.start job.log; waits = false } → AgreesSoFar job run
agrees_at_start job run e =
    let time : run.moment.time ≡ 0 = ap (λ (r : RunAt). r.moment.time) e in
    record {
      stands = record {
        same_log = ap (λ (r : RunAt). r.log) e;
        within = omega arith;
        here = ap (λ (r : RunAt). r.moment) e ∙ ap (λ (k : ℕ). moment_after k (start job.start job.log)) (sym time);
      };
      none_before = λ k b. absurd (omega arith);
    }

module _ (program : List ℕ) (im : Image) (log : Log) (run : RunAt) (opened : IsOpened program im log run) where
  pub agrees_opened : AgreesSoFar (job_of im log) run
  agrees_opened = agrees_at_start (job_of im log) run opened.here

  pub opened_of_some : IsOfSome run
  opened_of_some = (job_of im log, agrees_opened.stands)

  pub opened_time : run.moment.time ≡ 0
  opened_time = ap (λ (r : RunAt). r.moment.time) opened.here

  pub opened_log : run.log ≡ log
  opened_log = ap (λ (r : RunAt). r.log) opened.here

  pub checked_of : image program ≡ Ok im → (job : Job) → job ≡ job_of im log → divergence (job_of im log).start log ≡ None → IsChecked program im log job
  checked_of loads job is agrees = subst (λ (j : Job). IsChecked program im log j) (sym is) (record {
    digest = opened.digest;
    start = opened.begins;
    same_log = refl;
    agrees = agrees;
    fits = record { start = (job_of im log).start; digest = opened.digest; begins = ap (λ im. start_in_image im log.pages) loads ∙ opened.begins; agrees = agrees };
  })

  pub diverged_of : (d : Divergence) → Differs run d → IsDiverged program im log d
  diverged_of d differs =
      let first = differs.first (job_of im log) agrees_opened in
      record { start = (job_of im log).start; digest = opened.digest; begins = opened.begins; first = first; differ = divergence_differs (job_of im log).start log d first }

-- ---- what is found

pub all_found : (q : Query) (job : Job) (run : RunAt) → Stands job run → (ts : List NumberedEpoch) (es : List Summary) → AllZip (IsFoundAhead q run) ts es → AreFound q (trace_of job) ts es
all_found q job run stands [] [] z = tt
all_found q job run stands (t ∷ ts) (e ∷ es) z = (record { summary = z.0.summary job stands; in_range = z.0.in_range job stands }, all_found q job run stands ts es z.1)
all_found q job run stands [] (e ∷ es) z = absurd z
all_found q job run stands (t ∷ ts) [] z = absurd z
