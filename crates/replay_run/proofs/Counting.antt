-- The counters of a run count the bytes of the records that are done.
use Rattle.std.proofs.Common.{◌≡◌, ℕ, suc, ◌+◌, ◌^◌, ◌<◌, ◌≤◌, ◌⊎◌, inl, inr, Bool, true, false, List, [], ◌∷◌, ◌++◌, length, take, drop, get_or, ℤ, refl, arith, ap, sym, ◌∙◌, subst, get_or-set_same, get_or-set_other, drop-cons, length-drop, add-one}
use Rattle.std.specs.Prelude.{◌==◌, if◌then◌else◌, slice_set}
use Rattle.std.specs.List.{flat_map}
use Rattle.std.proofs.lemmas.Bool.{cases_lt, cases_eq, eq-eqb, ne_eqb}
use Rattle.std.proofs.lemmas.List.{set_past, take_more}
use Rattle.std.proofs.lemmas.List.Folds.{length-flat_map-take}
use Rattle.log_model.specs.declared.CallRecord.{CallRecord}
use Rattle.log_model.specs.declared.CallRecord.TheVariants.{Read, Write, Clock, Other}
use Rattle.log_model.specs.Logs.{Log, at_of, Rise}
use Rattle.log_model.proofs.Texts.{received-le-text}
use Rattle.log_model.specs.Moved.{received_by, received, written_by, written}
use Rattle.replay_model.proofs.Sizes.{moved_with, written_fits}
use Rattle.replay_run.specs.Counters.{AreCounts, IsCounted}

-- ---- the first record that is left

pub record IsFront (records : List CallRecord) (index : ℕ) (r : CallRecord) : Type 0 where
  pub below : index < length records
  pub item : r ≡ get_or records index r
  pub taken : take (index + 1) records ≡ take index records ++ r ∷ []
  pub left : drop index records ≡ r ∷ drop (index + 1) records

pub front_of : (records left : List CallRecord) (index : ℕ) (r : CallRecord) → left ≡ drop index records → 1 ≤ length left → r ≡ get_or left 0 r → IsFront records index r
front_of records left index r e some item =
    let below : index < length records = omega (arith, length-drop index records, ap length e) in
    let first : drop index records ≡ get_or records index r ∷ drop (suc index) records = drop-cons records index r below in
    let same : r ≡ get_or records index r = item ∙ ap (λ (rs : List CallRecord). get_or rs 0 r) (e ∙ first) in
    record {
      below = below;
      item = same;
      taken = take_more records index r below ∙ ap (λ (x : CallRecord). take index records ++ x ∷ []) (sym same);
      left = first ∙ ap (λ (x : CallRecord). x ∷ drop (suc index) records) (sym same) ∙ ap (λ (n : ℕ). r ∷ drop n records) (sym (add-one index));
    }

-- ---- one counter goes up

counted_by : (counts : List ℕ) (channel n c : ℕ) → length counts ≡ 16 → (0 < n → channel < 16) → (0 < n) ⊎ (n ≤ 0) → (channel < length counts) ⊎ (length counts ≤ channel) → (channel ≡ c) ⊎ (channel ≡ c → ⊥) → get_or (slice_set counts channel (get_or counts channel 0 + n)) c 0 ≡ get_or counts c 0 + (if channel == c then n else 0)
counted_by counts channel n c size h s (inl b) (inl e) = rw (sym e, eq-eqb channel channel refl, get_or-set_same counts channel (get_or counts channel 0 + n) 0 b) refl
counted_by counts channel n c size h (inl s) (inr b) o = let below = h s in absurd (omega arith)
counted_by counts channel n c size h (inr s) (inr b) (inl e) =
    let none : n ≡ 0 = omega arith in
    rw (set_past counts channel (get_or counts channel 0 + n) b, eq-eqb channel c e, none) (omega arith)
counted_by counts channel n c size h s (inl b) (inr e) = rw (get_or-set_other counts channel c (get_or counts channel 0 + n) 0 (λ i. e (sym i)), ne_eqb channel c e) (omega arith)
counted_by counts channel n c size h (inr s) (inr b) (inr e) = rw (get_or-set_other counts channel c (get_or counts channel 0 + n) 0 (λ i. e (sym i)), ne_eqb channel c e) (omega arith)

module _ (bytes_of : ℕ → CallRecord → List ℕ) (counts : List ℕ) (records : List CallRecord) (index : ℕ) (r : CallRecord) (front : IsFront records index r) (before : AreCounts counts (λ c. flat_map (bytes_of c) (take index records))) where
  more : (c : ℕ) → length (flat_map (bytes_of c) (take (index + 1) records)) ≡ length (flat_map (bytes_of c) (take index records)) + length (bytes_of c r)
  more c = ap (λ (rs : List CallRecord). length (flat_map (bytes_of c) rs)) front.taken ∙ moved_with (bytes_of c) (take index records) r

  -- a call that moves nothing leaves the counters as they are
  pub counts_kept : ((c : ℕ) → bytes_of c r ≡ []) → AreCounts counts (λ c. flat_map (bytes_of c) (take (index + 1) records))
  counts_kept none = record { each = λ c h. omega (arith, before.each c h, more c, ap length (none c)) }

  -- a call that moves n bytes on a channel
  pub counts_moved : (channel n : ℕ) → length counts ≡ 16 → (0 < n → channel < 16) → ((c : ℕ) → length (bytes_of c r) ≡ (if channel == c then n else 0)) → AreCounts (slice_set counts channel (get_or counts channel 0 + n)) (λ c. flat_map (bytes_of c) (take (index + 1) records))
  counts_moved channel n size few own =
      record { each = λ c h. counted_by counts channel n c size few (cases_lt 0 n) (cases_lt channel (length counts)) (cases_eq channel c) ∙ omega (arith, before.each c h, more c, own c) }

-- ---- the bytes of a record

length_if : (b : Bool) (bytes : List ℕ) → length (if b then bytes else []) ≡ (if b then length bytes else 0)
length_if true bytes = refl
length_if false bytes = refl

none_if : (b : Bool) (bytes : List ℕ) → (if b then bytes else bytes) ≡ bytes
none_if true bytes = refl
none_if false bytes = refl

-- ---- the run after a call

-- what is counted goes on with the records after the one that is done
pub counted_on : (log : Log) (time index : ℕ) (read write reads writes : List ℕ) (r : CallRecord) → IsCounted log time index read write → IsFront log.records index r → at_of r ≡ time
    → AreCounts reads (λ c. received c (take (index + 1) log.records)) → AreCounts writes (λ c. written c (take (index + 1) log.records)) → IsCounted log (time + 1) (index + 1) reads writes
counted_on log time index read write reads writes r counted front now r_counts w_counts =
    let rise : Rise time (r ∷ drop (index + 1) log.records) = subst (Rise time) front.left counted.rise in
    record {
      form = counted.form;
      small = counted.small;
      within = let h = front.below in omega arith;
      rise = subst (λ (t : ℕ). Rise (t + 1) (drop (index + 1) log.records)) now rise.1;
      reads = r_counts;
      writes = w_counts;
    }

module _ (log : Log) (time index : ℕ) (read write : List ℕ) (counted : IsCounted log time index read write) where
  pub after_read : (at : ℕ) (args : List ℕ) (result : ℤ) (bytes : List ℕ) → IsFront log.records index (Read at args result bytes) → at ≡ time → length read ≡ 16 → (0 < length bytes → get_or args 0 0 < 16)
      → IsCounted log (time + 1) (index + 1) (slice_set read (get_or args 0 0) (get_or read (get_or args 0 0) 0 + length bytes)) write
  after_read at args result bytes front now size few =
      counted_on log time index read write _ write (Read at args result bytes) counted front now
      (counts_moved received_by read log.records index (Read at args result bytes) front counted.reads (get_or args 0 0) (length bytes) size few (λ c. length_if (get_or args 0 0 == c) bytes))
      (counts_kept written_by write log.records index (Read at args result bytes) front counted.writes (λ c. none_if (get_or args 0 0 == c) []))

  pub after_write : (at : ℕ) (args : List ℕ) (result : ℤ) (bytes : List ℕ) → IsFront log.records index (Write at args result bytes) → at ≡ time → length write ≡ 16 → (0 < length bytes → get_or args 0 0 < 16)
      → IsCounted log (time + 1) (index + 1) read (slice_set write (get_or args 0 0) (get_or write (get_or args 0 0) 0 + length bytes))
  after_write at args result bytes front now size few =
      counted_on log time index read write read _ (Write at args result bytes) counted front now
      (counts_kept received_by read log.records index (Write at args result bytes) front counted.reads (λ c. none_if (get_or args 0 0 == c) []))
      (counts_moved written_by write log.records index (Write at args result bytes) front counted.writes (get_or args 0 0) (length bytes) size few (λ c. length_if (get_or args 0 0 == c) bytes))

  pub after_clock : (at value : ℕ) → IsFront log.records index (Clock at value) → at ≡ time → IsCounted log (time + 1) (index + 1) read write
  after_clock at value front now =
      counted_on log time index read write read write (Clock at value) counted front now
      (counts_kept received_by read log.records index (Clock at value) front counted.reads (λ c. refl))
      (counts_kept written_by write log.records index (Clock at value) front counted.writes (λ c. refl))

  pub after_other : (at number : ℕ) → IsFront log.records index (Other at number) → at ≡ time → IsCounted log (time + 1) (index + 1) read write
  after_other at number front now =
      counted_on log time index read write read write (Other at number) counted front now
      (counts_kept received_by read log.records index (Other at number) front counted.reads (λ c. refl))
      (counts_kept written_by write log.records index (Other at number) front counted.writes (λ c. refl))

  -- ---- a channel has room for the bytes of the next call

  pub read_room : (at : ℕ) (args : List ℕ) (result : ℤ) (bytes : List ℕ) → IsFront log.records index (Read at args result bytes) → get_or args 0 0 < log.inputs → get_or read (get_or args 0 0) 0 + length bytes ≤ 2 ^ 27
  read_room at args result bytes front few =
      let channel = get_or args 0 0 in
      let r = Read at args result bytes in
      let all = length-flat_map-take (received_by channel) log.records index r front.below in
      let item : length (received_by channel (get_or log.records index r)) ≡ length (received_by channel r) = ap (λ (x : CallRecord). length (received_by channel x)) (sym front.item) in
      let own : length (received_by channel r) ≡ length bytes = ap (λ (b : Bool). length (if b then bytes else [])) (eq-eqb channel channel refl) in
      omega (arith, all, item, own, counted.reads.each channel (omega (arith, few, counted.form.inputs)), received-le-text log channel few, counted.small)

  pub write_room : (at : ℕ) (args : List ℕ) (result : ℤ) (bytes : List ℕ) → IsFront log.records index (Write at args result bytes) → get_or args 0 0 < 16 → get_or write (get_or args 0 0) 0 + length bytes ≤ 2 ^ 27
  write_room at args result bytes front few =
      let channel = get_or args 0 0 in
      let r = Write at args result bytes in
      let all = length-flat_map-take (written_by channel) log.records index r front.below in
      let item : length (written_by channel (get_or log.records index r)) ≡ length (written_by channel r) = ap (λ (x : CallRecord). length (written_by channel x)) (sym front.item) in
      let own : length (written_by channel r) ≡ length bytes = ap (λ (b : Bool). length (if b then bytes else [])) (eq-eqb channel channel refl) in
      omega (arith, all, item, own, counted.writes.each channel few, written_fits channel log, counted.small)
