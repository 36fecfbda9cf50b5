-- The beginning of a log is a log, whose text is no longer.
use Rattle.std.proofs.Common.{◌≡◌, refl, ap, sym, subst, arith, ℕ, ◌≤◌, ◌^◌, List, length, take, ◌∙◌}
use Rattle.log_model.specs.declared.Version.TheVariants.{Two}
use Rattle.log_model.specs.declared.CallRecord.{CallRecord}
use Rattle.log_model.specs.declared.RunEnd.{RunEnd}
use Rattle.log_model.specs.declared.RunEnd.TheVariants.{Exit, Limit}
use Rattle.log_model.specs.Logs.{Log, IsLog, end_at, end_text, log_text}
use Rattle.log_model.proofs.Texts.{wide_length}
use Rattle.log_model.proofs.Ends.{end_at-small}
use Rattle.replay_model.specs.Offsets.{records_before}
use Rattle.replay_log.specs.Logs.{log_of_parts}
use Rattle.run_beginning.specs.Beginnings.{beginning}
use Rattle.run_beginning.proofs.Fronts.{is_front}

-- no end is shorter than that of a run that is cut off
limit_is_short : (end : RunEnd) (n : ℕ) → length (end_text Two (Limit n)) ≤ length (end_text Two end)
limit_is_short (Exit at code) n = omega arith
limit_is_short end n = omega arith

module _ (log : Log) (n : ℕ) (form : IsLog log) where
  pub beginning_is_log : n ≤ end_at log.end → IsLog (beginning n log)
  beginning_is_log below =
      let front = is_front n 0 log.inputs log.records (omega arith) form.records form.rise in
      record {
        pages = form.pages;
        inputs = form.inputs;
        digest = form.digest;
        digest_bytes = form.digest_bytes;
        records = front.records;
        end = omega (arith, below, end_at-small log.end form.end);
        rise = front.rise;
        ends_after = front.ends_after;
      }

  pub beginning_is_short : n ≤ end_at log.end → length (log_text Two (beginning n log)) ≤ length (log_text Two log)
  beginning_is_short below =
      let front = is_front n 0 log.inputs log.records (omega arith) form.records form.rise in
      omega (arith, wide_length log form, wide_length (beginning n log) (beginning_is_log below), front.shares, limit_is_short log.end n)

-- ---- a log that is put together of parts

pub record AreParts (log : Log) : Type 0 where
  pub form : IsLog log
  pub limit : length (log_text Two log) ≤ 2 ^ 27

-- the parts of a beginning: the calls are the first of those that were taken out of the log
pub parts_of_beginning : (log : Log) (n pages inputs : ℕ) (digest : List ℕ) (count : ℕ) (items taken calls : List CallRecord) → IsLog log → length (log_text Two log) ≤ 2 ^ 27 → n ≤ end_at log.end
    → pages ≡ log.pages → inputs ≡ log.inputs → digest ≡ log.digest → items ≡ take count taken → taken ≡ log.records → calls ≡ log.records → take count calls ≡ records_before n calls
    → AreParts (log_of_parts pages inputs digest items (Limit n))
parts_of_beginning log n pages inputs digest count items taken calls form short below p i d first all seen front =
    let kept : items ≡ records_before n log.records = first ∙ ap (take count) (all ∙ sym seen) ∙ front ∙ ap (records_before n) seen in
    let same : log_of_parts pages inputs digest items (Limit n) ≡ beginning n log = rw (p, i, d, kept) refl in
    let whole : AreParts (beginning n log) = record { form = beginning_is_log log n form below; limit = omega (arith, short, beginning_is_short log n form below) } in
    subst AreParts (sym same) whole
