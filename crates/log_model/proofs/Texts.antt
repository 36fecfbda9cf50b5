-- Logs' texts: how long they are, and that none is a proper prefix of another. Crates above cite these lemmas.
use Rattle.std.proofs.Common.{◌≡◌, ℕ, zero, suc, ◌+◌, ◌-◌, ◌*◌, ◌^◌, ◌<◌, ◌≤◌, ◌⊎◌, List, [], ◌∷◌, ◌++◌, length, map, get_or, drop, refl, sym, ap, subst, ◌∙◌, append_assoc, arith, ℤ, pos, negsuc, ◌<ℤ◌, inl, inr}
use Rattle.std.specs.Prelude.{eqb, Bool, true, false, if◌then◌else◌, nat_lt, slice_index}
use Rattle.std.specs.List.{flat_map, sum_by, range_with_len}
use Rattle.std.proofs.lemmas.Bool.{cases_eq, cases_lt, eq-eqb, ne_eqb, lt-ltb, le-ltb}
use Rattle.std.proofs.lemmas.List.{take-append-drop, length-append, length-drop}
use Rattle.std.proofs.lemmas.List.Concat.{length-flat_map}
use Rattle.std.proofs.lemmas.List.FromFn.{length-map-range_with_len, get_or-map-range_with_len, sum_by-map-range_with_len_more}
use Rattle.std.proofs.lemmas.List.Sums.{sum_by-cons, get_or-le-sum_by}
use Rattle.std.proofs.lemmas.Int.{ints}
use Rattle.log_model.specs.declared.Version.{Version}
use Rattle.log_model.specs.declared.Version.TheVariants.{One, Two}
use Rattle.log_model.specs.declared.CallRecord.{CallRecord}
use Rattle.log_model.specs.declared.CallRecord.TheVariants.{Read, Write}
use Rattle.log_model.specs.declared.RunEnd.{RunEnd}
use Rattle.log_model.specs.declared.RunEnd.TheVariants.{Exit}
use Rattle.log_model.specs.declared.LogKind.TheVariants.{Trailing}
use Rattle.log_model.specs.Moved.{received, received_by}
use Rattle.log_model.specs.Logs.{Log, IsLog, IsTextOf, CanHold, IsTransfer, moved_length, magic, log_text, header_text, channel_text, kept_channels, record_text, end_text, kept_length, share, step_text, word32, signed32}
use Rattle.log_model.specs.Faults.{step_length, HasFault, AfterEnd}
use Rattle.log_model.specs.Laws.{HaveLength, ArePrefixFree}
use Rattle.log_model.proofs.Headers.{magic_length, IsHeaderAgain, after_header, header_again, text_parts}
use Rattle.log_model.proofs.Words.{length-step_text}
use Rattle.log_model.proofs.Left.{emptied, none_left, end_written, text_read_to}
use Rattle.log_model.proofs.Unique.{faulty_is_no_log}

-- ---- records

-- a read's or a write's record: these bytes follow its fields
pub transfer_length : (v : Version) (t at : ℕ) (args : List ℕ) (outcome : ℤ) (bytes after : List ℕ) → IsTransfer args outcome bytes → length (t ∷ step_text v at ++ flat_map word32 args ++ signed32 outcome ++ after) ≡ 17 + step_length v + length after
transfer_length v t at args outcome bytes after is =
    let fields = flat_map word32 args in
    let twelve : length fields ≡ 12 = args_length args is.three in
    omega (arith, twelve, length-step_text v at, length-append (step_text v at) fields, length-append (step_text v at ++ fields) (signed32 outcome), length-append (step_text v at ++ fields ++ signed32 outcome) after)
  where
    args_length : (args : List ℕ) → length args ≡ 3 → length (flat_map word32 args) ≡ 12
    args_length (a ∷ b ∷ c ∷ []) e = refl
    args_length args e = absurd (omega (arith, e))

-- in version 2 a read's record has 25 bytes, and a write's as many and its data
pub read_length : (at : ℕ) (args : List ℕ) (outcome : ℤ) (bytes : List ℕ) → IsTransfer args outcome bytes → length (record_text Two (Read at args outcome bytes)) ≡ 25
read_length at args outcome bytes is = transfer_length Two 1 at args outcome bytes [] is

pub write_length : (at : ℕ) (args : List ℕ) (outcome : ℤ) (bytes : List ℕ) → IsTransfer args outcome bytes → length (record_text Two (Write at args outcome bytes)) ≡ 25 + length bytes
write_length at args outcome bytes is = transfer_length Two 2 at args outcome bytes bytes is

moved_below : (outcome : ℤ) → outcome <ℤ pos (2 ^ 31) → moved_length outcome < 2 ^ 31
moved_below (pos n) h = omega (arith, ints)
moved_below (negsuc n) h = omega arith

pub data_below : (args : List ℕ) (outcome : ℤ) (bytes : List ℕ) → IsTransfer args outcome bytes → length bytes < 2 ^ 31
data_below args outcome bytes is = omega (arith, is.whole, moved_below outcome is.fits)

-- ---- the bytes of reads, by channel and by record

no_bytes : (b : Bool) → 0 ≡ 0 + length (let bytes : List ℕ = if b then [] else [] in bytes)
no_bytes true = refl
no_bytes false = refl

-- one channel more keeps what was read on it
kept_more : (n : ℕ) (r : CallRecord) → kept_length (n + 1) r ≡ kept_length n r + length (received_by n r)
kept_more n (Read at args result bytes) =
    let k = slice_index args 0 in
    elim (cases_lt k n) [
      | inl below ↦
          let other = ne_eqb k n (λ e. omega (arith, e)) in
          rw (lt-ltb k n below, lt-ltb k (n + 1) (omega (arith, below)), other) (omega arith)
      | inr above ↦ elim (cases_eq k n) [
        | inl e ↦ rw (le-ltb k n above, lt-ltb k (n + 1) (omega (arith, e)), eq-eqb k n e) (omega arith)
        | inr other ↦ rw (le-ltb k n above, le-ltb k (n + 1) (omega (arith, above, other)), ne_eqb k n other) refl
      ]
    ]
kept_more n (Write at args result bytes) = no_bytes (eqb (slice_index args 0) n)
kept_more n r = refl

kept_sum_more : (n : ℕ) (rs : List CallRecord) → sum_by (kept_length (n + 1)) rs ≡ sum_by (kept_length n) rs + length (received n rs)
kept_sum_more n [] = refl
kept_sum_more n (r ∷ rs) =
    let more = kept_sum_more n rs in
    omega (arith, kept_more n r, more, sum_by-cons (kept_length (n + 1)) r rs, sum_by-cons (kept_length n) r rs, length-append (received_by n r) (received n rs))

kept_none : (rs : List CallRecord) → sum_by (kept_length 0) rs ≡ 0
kept_none [] = refl
kept_none (r ∷ rs) = omega (arith, none r, kept_none rs, sum_by-cons (kept_length 0) r rs) where
  none : (r : CallRecord) → kept_length 0 r ≡ 0
  none (Read at args result bytes) = rw (le-ltb (slice_index args 0) 0 (omega arith)) refl
  none r = refl

-- what so many channels keep is what they keep of each record
channels_sum : (n : ℕ) (rs : List CallRecord) → sum_by length (map (λ c. received c rs) (range_with_len 0 n)) ≡ sum_by (kept_length n) rs
channels_sum zero rs = sym (kept_none rs)
channels_sum (suc n) rs =
    let last : n + 1 ≡ suc n = omega arith in
    subst (λ (k : ℕ). sum_by length (map (λ c. received c rs) (range_with_len 0 k)) ≡ sum_by (kept_length k) rs) last
    (omega (arith, sum_by-map-range_with_len_more length (λ c. received c rs) 0 n n (omega arith), channels_sum n rs, kept_sum_more n rs))

channel_texts : (channels : List (List ℕ)) → length (flat_map channel_text channels) ≡ 4 * length channels + sum_by length channels
channel_texts [] = refl
channel_texts (c ∷ channels) = omega (arith, channel_texts channels, length-append (channel_text c) (flat_map channel_text channels), sum_by-cons length c channels)

kept_texts : (log : Log) → length (flat_map channel_text (kept_channels Two log)) ≡ 4 * log.inputs + sum_by (kept_length log.inputs) log.records
kept_texts log = omega (arith, channel_texts (kept_channels Two log), channels_sum log.inputs log.records, length-map-range_with_len (λ c. received c log.records) 0 log.inputs)

-- ---- the whole

parts_length : (v : Version) (log : Log) → IsLog log → length (log_text v log) ≡ 48 + length (flat_map channel_text (kept_channels v log)) + sum_by (λ r. length (record_text v r)) log.records + length (end_text v log.end)
parts_length v log is =
    let channels = flat_map channel_text (kept_channels v log) in
    let records = flat_map (record_text v) log.records in
    let last = end_text v log.end in
    let header : length (header_text v log) ≡ 48 = omega (arith, is.digest, magic_length v, length-append (magic v) log.digest, length-append (magic v ++ log.digest) (word32 log.pages), length-append (magic v ++ log.digest ++ word32 log.pages) (word32 log.inputs)) in
    omega (arith, header, length-append (header_text v log) channels, length-append (header_text v log ++ channels) records, length-append (header_text v log ++ channels ++ records) last, length-flat_map (record_text v) log.records)

share_sum : (inputs : ℕ) (rs : List CallRecord) → sum_by (share inputs) rs ≡ sum_by (λ r. length (record_text Two r)) rs + sum_by (kept_length inputs) rs
share_sum inputs [] = refl
share_sum inputs (r ∷ rs) = omega (arith, share_sum inputs rs, sum_by-cons (share inputs) r rs, sum_by-cons (λ r. length (record_text Two r)) r rs, sum_by-cons (kept_length inputs) r rs)

pub narrow_length : (log : Log) → IsLog log → length (log_text One log) ≡ 48 + sum_by (λ r. length (record_text One r)) log.records + length (end_text One log.end)
narrow_length log is = omega (arith, parts_length One log is)

pub wide_length : (log : Log) → IsLog log → length (log_text Two log) ≡ 48 + 4 * log.inputs + sum_by (share log.inputs) log.records + length (end_text Two log.end)
wide_length log is = omega (arith, parts_length Two log is, kept_texts log, share_sum log.inputs log.records)

pub text_length : HaveLength
text_length log is = (narrow_length log is, wide_length log is)

-- what was read on a channel of the run is no longer than the text
pub received-le-text : (log : Log) (c : ℕ) → c < log.inputs → length (received c log.records) ≤ length (log_text Two log)
received-le-text log c below =
    let channels = kept_channels Two log in
    let many = length-map-range_with_len (λ k. received k log.records) 0 log.inputs in
    let here : get_or channels c [] ≡ received c log.records = get_or-map-range_with_len (λ k. received k log.records) 0 log.inputs c c [] below (omega arith) in
    omega (
      arith,
      ap length here,
      get_or-le-sum_by length channels c [] (omega (arith, below, many)),
      channel_texts channels,
      ap length (text_parts Two log),
      length-append (header_text Two log) (after_header Two log),
      length-append (flat_map channel_text channels) (flat_map (record_text Two) log.records ++ end_text Two log.end),
    )

-- version 2 can hold a log whose reads are of its channels, and whose text is short enough
pub can_hold : (log : Log) → ((c : ℕ) → log.inputs ≤ c → received c log.records ≡ []) → length (log_text Two log) < 2 ^ 32 → CanHold Two log
can_hold log none short c = (below (cases_lt c log.inputs), none c) where
  below : (c < log.inputs) ⊎ (log.inputs ≤ c) → length (received c log.records) < 2 ^ 32
  below (inl here) = omega (arith, short, received-le-text log c here)
  below (inr past) = omega (arith, ap length (none c past))

-- ---- version 2's text beside version 1's

kept_most : (b : Bool) (bytes : List ℕ) → (if b then length bytes else 0) ≤ length bytes
kept_most true bytes = omega arith
kept_most false bytes = omega arith

-- a record takes at most four bytes more
share_most : (inputs : ℕ) (r : CallRecord) → share inputs r ≤ length (record_text One r) + 4
share_most inputs (Read at args result bytes) =
    let fields = flat_map word32 args in
    omega (arith, kept_most (nat_lt (slice_index args 0) inputs) bytes, length-append fields (signed32 result), length-append (fields ++ signed32 result) bytes, length-append (fields ++ signed32 result) [])
share_most inputs r = omega arith

shares_most : (inputs : ℕ) (rs : List CallRecord) → sum_by (share inputs) rs ≤ sum_by (λ r. length (record_text One r)) rs + 4 * length rs
shares_most inputs [] = omega arith
shares_most inputs (r ∷ rs) = omega (arith, share_most inputs r, shares_most inputs rs, sum_by-cons (share inputs) r rs, sum_by-cons (λ r. length (record_text One r)) r rs)

end_most : (e : RunEnd) → length (end_text Two e) ≡ length (end_text One e) + 4
end_most (Exit at code) = refl
end_most e = refl

pub wide-le-narrow : (log : Log) → IsLog log → length (log_text Two log) ≤ length (log_text One log) + 4 * length log.records + 4 * log.inputs + 4
wide-le-narrow log is = omega (arith, narrow_length log is, wide_length log is, shares_most log.inputs log.records, end_most log.end)

-- in version 1 a record takes at least nine bytes
nine : (r : CallRecord) → 9 ≤ length (record_text One r)
nine (Read at args result bytes) = omega (arith, length-append (flat_map word32 args) (signed32 result), length-append (flat_map word32 args ++ signed32 result) bytes)
nine (Write at args result bytes) = omega (arith, length-append (flat_map word32 args) (signed32 result), length-append (flat_map word32 args ++ signed32 result) bytes)
nine r = omega arith

nines : (rs : List CallRecord) → 9 * length rs ≤ sum_by (λ r. length (record_text One r)) rs
nines [] = omega arith
nines (r ∷ rs) = omega (arith, nine r, nines rs, sum_by-cons (λ r. length (record_text One r)) r rs)

-- a log that was read from at most 2^26 bytes is written in at most 2^27
pub wide_limit : (log : Log) (bytes : List ℕ) → IsLog log → IsTextOf log bytes → length bytes ≤ 2 ^ 26 → length (log_text Two log) ≤ 2 ^ 27
wide_limit log bytes is text most = limit text.version text.spelt where
  limit : (v : Version) → bytes ≡ log_text v log → length (log_text Two log) ≤ 2 ^ 27
  limit One e = omega (arith, most, ap length e, narrow_length log is, wide-le-narrow log is, nines log.records, is.inputs)
  limit Two e = omega (arith, most, ap length e)

-- ---- fronts

five_parts : (h c r e rest : List ℕ) → h ++ c ++ r ++ e ++ rest ≡ h ++ (c ++ (r ++ (e ++ rest)))
five_parts h c r e rest = simp append_assoc

-- bytes after a log's text are a fault
after_end : (v : Version) (log : Log) (rest : List ℕ) → IsLog log → CanHold v log → 0 < length rest → HasFault (log_text v log ++ rest) Trailing (length (log_text v log ++ rest) - length rest)
after_end v log rest is held some =
    let channels = flat_map channel_text (kept_channels v log) in
    let records = flat_map (record_text v) log.records in
    let last = end_text v log.end ++ rest in
    let after = channels ++ (records ++ last) in
    let bytes = log_text v log ++ rest in
    let parts : bytes ≡ header_text v log ++ after = five_parts (header_text v log) channels records (end_text v log.end) rest in
    let again : IsHeaderAgain v bytes log after = subst (λ (x : List ℕ). IsHeaderAgain v x log after) (sym parts) (header_again v log after is) in
    AfterEnd v log.records log.end (emptied (kept_channels v log)) rest (text_read_to v log bytes last is held again) is.end (end_written v log is held) is.ends_after (none_left (kept_channels v log)) some

pub no_front_is_a_log : ArePrefixFree
no_front_is_a_log log other bytes n is other_is text less front =
    let v = front.version in
    let rest = drop n bytes in
    let whole : log_text v other ++ rest ≡ bytes = ap (λ (x : List ℕ). x ++ rest) (sym front.spelt) ∙ take-append-drop n bytes in
    let there = subst (IsTextOf log) (sym whole) text in
    faulty_is_no_log (log_text v other ++ rest) Trailing _ log (after_end v other rest other_is front.held (omega (arith, less, length-drop n bytes))) is there
