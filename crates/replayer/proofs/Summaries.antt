-- The bytes that the calls of a log moved, call after call.
use Rattle.std.proofs.Common.{◌≡◌, ℕ, ◌+◌, ◌^◌, ◌<◌, ◌≤◌, ◌⊎◌, inl, inr, List, [], ◌∷◌, ◌++◌, length, take, get_or, arith, ap, sym, ◌∙◌}
use Rattle.std.specs.List.{flat_map}
use Rattle.std.proofs.lemmas.Bool.{cases_lt}
use Rattle.std.proofs.lemmas.List.{take_more}
use Rattle.std.proofs.lemmas.List.Folds.{length-flat_map-take}
use Rattle.log_model.specs.declared.CallRecord.{CallRecord}
use Rattle.log_model.specs.Logs.{IsRecord}
use Rattle.log_model.proofs.Texts.{received-le-text}
use Rattle.log_model.specs.Moved.{received}
use Rattle.replay_model.proofs.Sizes.{moved_with, moved_below_each, records_fit_text}
use Rattle.replay_model.proofs.Received.{none_received}
use Rattle.replayer.specs.Jobs.{Job, IsJob}

module _ (f : CallRecord → List ℕ) (records : List CallRecord) (i : ℕ) (r : CallRecord) (below : i < length records) (item : r ≡ get_or records i r) where
  -- the bytes of one more call
  pub moved_more : length (flat_map f (take (i + 1) records)) ≡ length (flat_map f (take i records)) + length (f r)
  moved_more =
      ap (λ (rs : List CallRecord). length (flat_map f rs)) (take_more records i r below ∙ ap (λ (x : CallRecord). take i records ++ x ∷ []) (sym item))
      ∙ moved_with f (take i records) r

  -- they are no more than those of all calls
  pub next_within : length (flat_map f (take i records)) + length (f r) ≤ length (flat_map f records)
  next_within =
      let own : length (f r) ≡ length (f (get_or records i r)) = ap (λ (x : CallRecord). length (f x)) item in
      omega (arith, length-flat_map-take f records i r below)

  -- a log has at most 2^27 records, and each moves fewer than 2^31 bytes
  pub next_fits : (job : Job) → records ≡ job.log.records → IsJob job → ((q : CallRecord) → IsRecord q → length (f q) < 2 ^ 31) → length (flat_map f (take i records)) + length (f r) ≤ 2 ^ 58
  next_fits job same is each =
      let all : length (flat_map f records) ≡ length (flat_map f job.log.records) = ap (λ (rs : List CallRecord). length (flat_map f rs)) same in
      omega (arith, all, next_within, moved_below_each f each job.log.records is.form.records, records_fit_text job.log, is.small)

-- what a job's run received on a channel
pub received_small : (job : Job) (channel : ℕ) → IsJob job → length (received channel job.log.records) ≤ 2 ^ 27
received_small job channel is = by (cases_lt channel job.log.inputs)
  where
    by : (channel < job.log.inputs) ⊎ (job.log.inputs ≤ channel) → length (received channel job.log.records) ≤ 2 ^ 27
    by (inl below) = omega (arith, received-le-text job.log channel below, is.small)
    by (inr above) = omega (arith, ap length (none_received job.start job.log is.form is.agrees channel above))
