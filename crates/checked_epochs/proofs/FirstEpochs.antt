-- What is found of the first epoch of a run, and of all its epochs.
use Rattle.std.proofs.Common.{◌≡◌, ℕ, ◌-◌, arith, ap, sym, ◌∙◌, refl, subst, List, [], ◌∷◌, ◌++◌, length, map}
use Rattle.std.specs.List.{AllZip}
use Rattle.flow_model.specs.Origins.{origins}
use Rattle.log_model.specs.Logs.{Log}
use Rattle.report_model.specs.Query.{Query, policy_of}
use Rattle.epoch_model.specs.Cutting.{epochs}
use Rattle.epoch_model.specs.Stretch.{sinks_of_epoch}
use Rattle.epoch_cut.specs.Numbered.{NumberedEpoch, numbered}
use Rattle.epoch_analysis.specs.Epochs.{AreFound}
use Rattle.epoch_summary.specs.declared.summary.Summary.{Summary}
use Rattle.replay_run.specs.Runs.{RunAt}
use Rattle.replayer.specs.Cursors.{Stands}
use Rattle.replayer.specs.Jobs.{Job, trace_of}
use Rattle.source_labels.specs.declared.labels.SourceLabels.{SourceLabels}
use Rattle.source_labels.specs.Words.{label_words}
use Rattle.taint_tracking.specs.declared.tracking.Tracked.{Tracked}
use Rattle.taint_tracking.specs.Following.{AreInRange}
use Rattle.taint_tracking.specs.Sinks.{labelled, meant}
use Rattle.local_taint.specs.Ahead.{IsFoundAhead}
use Rattle.seq_taint.specs.Beginnings.{IsTrackedFirst}
use Rattle.seq_taint.proofs.Whole.{rows_of_steps}
use Rattle.summary_join.specs.First.{FirstFound, IsFirstFound, found_by}
use Rattle.checked_epochs.specs.declared.ahead.Beginning.{Beginning}
use Rattle.checked_epochs.specs.declared.ahead.Ahead.{Ahead}
use Rattle.checked_epochs.specs.Beginnings.{run_of}
use Rattle.checked_epochs.specs.Aheads.{Follow, HasBegunInner, HasBegunLast, IsAhead, left_of, stand_of}
use Rattle.checked_epochs.specs.Found.{AreAllAhead, AreAllFound, IsFirstAhead}
use Rattle.checked_epochs.proofs.Leading.{first_before}
use Rattle.checked_epochs.proofs.Resting.{all_before, inner_epochs, last_epochs}
use Rattle.checked_epochs.proofs.Opening.{all_found}

-- steps that were tracked from the run's beginning on are its first epoch
pub first_ahead : (q : Query) (run : RunAt) (until : ℕ) (t : Tracked SourceLabels) → IsTrackedFirst q run until t
    → IsFirstAhead q run until (found_by t.labels t.places t.sinks.items)
first_ahead q run until t tracked = record {
  found = λ job stands. record {
    ends = λ l at. (tracked job stands).holds.at l at;
    rows = rows_of_steps q (trace_of job) until t.labels t.sinks.items
        (subst (λ (n : ℕ). map (labelled label_words t.labels) t.sinks.items ≡ map (meant (origins (policy_of q) (trace_of job))) (sinks_of_epoch q (trace_of job) 0 n)) all (tracked job stands).rows);
  };
  in_range = λ job stands. subst (AreInRange (trace_of job) 0) all (tracked job stands).in_range;
}
  where
    all : until - 0 ≡ until
    all = omega arith

-- ---- the epoch that is begun first

pub inner_first : (log : Log) (old : Ahead) (b : Beginning) (new : Ahead) → IsAhead log old → HasBegunInner log old b new → b.ticket.first ≡ old.next
inner_first log old b new a h = (subst (λ (es : List NumberedEpoch). Follow old.next es old.last.first) (sym h.epochs) a.follow).0

pub last_first : (log : Log) (old : Ahead) (b : Beginning) → IsAhead log old → HasBegunLast log old b → b.ticket.first ≡ old.next
last_first log old b a h =
    ap (λ (e : NumberedEpoch). e.first) h.is_last ∙ sym (subst (λ (es : List NumberedEpoch). Follow old.next es old.last.first) h.none a.follow)

module _ (q : Query) (log : Log) (old : Ahead) (b : Beginning) (first : FirstFound) (found : IsFirstAhead q (run_of log b) b.ticket.past_last first) where
  pub inner_ahead : (new : Ahead) (es : List Summary) → HasBegunInner log old b new → AllZip (IsFoundAhead q (stand_of log new)) (left_of new ++ new.last ∷ []) es
      → AreAllAhead q (stand_of log old) (left_of old ++ old.last ∷ []) first es
  inner_ahead new es h z = record {
    first_epoch = b.ticket;
    later = left_of new ++ new.last ∷ [];
    all_are = sym (inner_epochs log old b new h);
    first_found = first_before q (stand_of log old) (run_of log b) b.ticket.past_last first h.led found;
    found = all_before q log (stand_of log old) (stand_of log new) (left_of new ++ new.last ∷ []) es h.leads z;
  }

  pub only_ahead : (es : List Summary) → HasBegunLast log old b → es ≡ [] → AreAllAhead q (stand_of log old) (left_of old ++ old.last ∷ []) first es
  only_ahead es h none = record {
    first_epoch = b.ticket;
    later = [];
    all_are = sym (last_epochs log old b h);
    first_found = first_before q (stand_of log old) (run_of log b) b.ticket.past_last first h.led found;
    found = subst (AllZip (IsFoundAhead q (stand_of log old)) []) (sym none) tt;
  }

-- ---- all epochs of a run that is cut

module _ (q : Query) (job : Job) (run : RunAt) (stands : Stands job run) (all : List NumberedEpoch) (first : FirstFound) (es : List Summary) (h : AreAllAhead q run all first es) where
  pub all_of_cuts : (cuts : List ℕ) → all ≡ numbered 0 (epochs 0 cuts) → AreAllFound q (trace_of job) cuts first es
  all_of_cuts [] e = absurd (omega (arith, ap length e, ap length h.all_are))
  all_of_cuts (c ∷ cs) e =
      let is : h.first_epoch ∷ h.later ≡ record { number = 0; first = 0; past_last = c } ∷ numbered 1 (epochs c cs) = sym h.all_are ∙ e in
      let epoch : h.first_epoch ≡ record { number = 0; first = 0; past_last = c } = cc in
      let past = ap (λ (t : NumberedEpoch). t.past_last) epoch in
      let later : h.later ≡ numbered 1 (epochs c cs) = cc in
      record {
        past_first = c;
        later = cs;
        cuts_are = refl;
        first_found = subst (λ (n : ℕ). IsFirstFound q (trace_of job) n first) past (h.first_found.found job stands);
        in_range = subst (AreInRange (trace_of job) 0) past (h.first_found.in_range job stands);
        found = subst (λ (ts : List NumberedEpoch). AreFound q (trace_of job) ts es) later (all_found q job run stands h.later es h.found);
      }
