-- The bytes that a log's calls moved, and its records, beside the length of its text. Crates above cite these lemmas.
use Rattle.std.proofs.Common.{◌≡◌, ℕ, ◌+◌, ◌*◌, ◌^◌, ◌<◌, ◌≤◌, Bool, true, false, List, [], ◌∷◌, ◌++◌, length, arith, ap, ◌∙◌, length-append, append-nil}
use Rattle.std.specs.Prelude.{if◌then◌else◌}
use Rattle.std.specs.List.{flat_map, AllByRecursion}
use Rattle.std.proofs.lemmas.Grind.{flat_map-append}
use Rattle.std.proofs.lemmas.List.Concat.{flat_map-cons}
use Rattle.log_model.specs.declared.Version.TheVariants.{Two}
use Rattle.log_model.specs.declared.CallRecord.{CallRecord}
use Rattle.log_model.specs.declared.CallRecord.TheVariants.{Read, Write}
use Rattle.log_model.specs.Logs.{Log, IsRecord, channel_text, kept_channels, log_text, record_text, header_text, end_text, step_text, word32, signed32}
use Rattle.log_model.proofs.Reading.{no_more_than_bytes}
use Rattle.log_model.proofs.Texts.{data_below}
use Rattle.log_model.specs.Moved.{received_of, written_of, is_on, written_by, written}

-- the bytes of one more call
pub moved_with : (f : CallRecord → List ℕ) (records : List CallRecord) (r : CallRecord) → length (flat_map f (records ++ r ∷ [])) ≡ length (flat_map f records) + length (f r)
moved_with f records r =
    ap length (flat_map-append f records (r ∷ []))
    ∙ length-append (flat_map f records) (f r ++ [])
    ∙ ap (λ (bs : List ℕ). length (flat_map f records) + length bs) (append-nil (f r))

-- ---- the parts of a text

-- what stands before the records, and all that stands before the end
abbrev pub before_records : Log → List ℕ
before_records log = header_text Two log ++ flat_map channel_text (kept_channels Two log)

abbrev pub before_end : Log → List ℕ
before_end log = before_records log ++ flat_map (record_text Two) log.records

text_parts : (log : Log) → length (log_text Two log) ≡ length (header_text Two log) + length (flat_map channel_text (kept_channels Two log)) + length (flat_map (record_text Two) log.records) + length (end_text Two log.end)
text_parts log =
    omega (arith, length-append (header_text Two log) (flat_map channel_text (kept_channels Two log)), length-append (before_records log) (flat_map (record_text Two) log.records), length-append (before_end log) (end_text Two log.end))

-- ---- what was written stands in the records

tail_fits : (front bytes : List ℕ) → length bytes ≤ length (front ++ bytes)
tail_fits front bytes = omega (arith, length-append front bytes)

written_of_fits : (r : CallRecord) → length (written_of r) ≤ length (record_text Two r)
written_of_fits (Write at args result bytes) = tail_fits (2 ∷ step_text Two at ++ flat_map word32 args ++ signed32 result) bytes
written_of_fits r = omega arith

if_fits : (b : Bool) (bytes : List ℕ) (n : ℕ) → length bytes ≤ n → length (if b then bytes else []) ≤ n
if_fits true bytes n h = h
if_fits false bytes n h = omega arith

records_fit : (f : CallRecord → List ℕ) → ((r : CallRecord) → length (f r) ≤ length (record_text Two r)) → (rs : List CallRecord) → length (flat_map f rs) ≤ length (flat_map (record_text Two) rs)
records_fit f h [] = omega arith
records_fit f h (r ∷ rs) =
    rw (flat_map-cons f r rs, flat_map-cons (record_text Two) r rs) (omega (arith, length-append (f r) (flat_map f rs), length-append (record_text Two r) (flat_map (record_text Two) rs), h r, records_fit f h rs))

pub written_fits : (channel : ℕ) (log : Log) → length (written channel log.records) ≤ length (log_text Two log)
written_fits channel log =
    omega (arith, text_parts log, records_fit (written_by channel) (λ r. if_fits (is_on channel r) (written_of r) (length (record_text Two r)) (written_of_fits r)) log.records)

-- ---- the number of records

pub records_fit_text : (log : Log) → length log.records ≤ length (log_text Two log)
records_fit_text log = omega (arith, text_parts log, no_more_than_bytes Two log.records)

-- ---- each call moves fewer than 2^31 bytes

pub received_of_below : (r : CallRecord) → IsRecord r → length (received_of r) < 2 ^ 31
received_of_below (Read at args result bytes) is = data_below args result bytes is.1
received_of_below r is = omega arith

pub written_of_below : (r : CallRecord) → IsRecord r → length (written_of r) < 2 ^ 31
written_of_below (Write at args result bytes) is = data_below args result bytes is.1
written_of_below r is = omega arith

pub moved_below_each : (f : CallRecord → List ℕ) → ((r : CallRecord) → IsRecord r → length (f r) < 2 ^ 31) → (rs : List CallRecord) → AllByRecursion IsRecord rs → length (flat_map f rs) ≤ length rs * 2 ^ 31
moved_below_each f h [] forms = omega arith
moved_below_each f h (r ∷ rs) forms =
    rw (flat_map-cons f r rs) (omega (arith, length-append (f r) (flat_map f rs), h r forms.0, moved_below_each f h rs forms.1))
