-- The text of a record, whatever follows it, is read as that record, and has no fault.
use Rattle.std.proofs.Common.{◌≡◌, ℕ, ◌+◌, ◌^◌, ◌<◌, ◌≤◌, ◌⊎◌, false, List, [], ◌∷◌, ◌++◌, length, get_or, take, drop, None, ℤ, pos, ◌≤ℤ◌, refl, sym, ap, ap₂, subst, ◌∙◌, append_assoc, arith, inl, inr}
use Rattle.std.specs.Prelude.{nat_lt}
use Rattle.std.specs.List.{flat_map}
use Rattle.std.specs.Int.{w32, cast_unsigned}
use Rattle.std.proofs.lemmas.Bool.{le-ltb}
use Rattle.std.proofs.lemmas.Int.{ints}
use Rattle.std.proofs.lemmas.List.{take_at, drop-drop, length-append}
use Rattle.std.proofs.lemmas.Nat.{from_le_bytes-to_le_bytes_4, from_le_bytes-to_le_bytes_8}
use Rattle.lists.specs.Fields.{word_at}
use Rattle.lists.proofs.Numbers.{three-get_or}
use Rattle.log_model.specs.declared.Version.{Version}
use Rattle.log_model.specs.declared.Version.TheVariants.{One, Two}
use Rattle.log_model.specs.declared.CallRecord.{CallRecord}
use Rattle.log_model.specs.declared.CallRecord.TheVariants.{Read, Write, Clock, Other}
use Rattle.log_model.specs.declared.RunEnd.{RunEnd}
use Rattle.log_model.specs.declared.RunEnd.TheVariants.{Exit, Trap, Limit}
use Rattle.log_model.specs.declared.Item.{Item}
use Rattle.log_model.specs.declared.Item.TheVariants.{Call, End}
use Rattle.log_model.specs.Logs.{word32, word64, signed32, step_text, read_text, record_text, end_text, IsTransfer, IsRecord, IsEnd, IsRefusal, IsTrapKind}
use Rattle.log_model.specs.Faults.{long_at, tag_of, step_bound, fixed_length, is_result_wrong, step_of, step_end, step_length, fields_of, moved, data_length, left_on, are_left, are_bytes_wrong, record_fault}
use Rattle.log_model.specs.Reading.{item_of, item_length, read_bytes}
use Rattle.log_model.proofs.Faults.{record_fault-none}
use Rattle.log_model.proofs.Headers.{regroup}
use Rattle.log_model.proofs.Items.{item_text, item_at, IsForm, IsFront, IsItemOf}
use Rattle.log_model.proofs.Results.{IsOutcome, word_of_below, word_of_moved, cast_again, read_is_right, write_is_right, kind_is_right}
use Rattle.log_model.proofs.Words.{step_again, fields_again, length-step_text}

-- ---- a record's text, and bytes after it, are read as that record

pub record IsAgain (v : Version) (left : List (List ℕ)) (item : Item) (after : List ℕ) : Type 0 where
  pub same : item_of v left (item_text v item ++ after) ≡ item
  pub size : item_length v (item_text v item ++ after) ≡ length (item_text v item)
  pub none : (least : ℕ) → least ≤ item_at item → record_fault v least left (item_text v item ++ after) ≡ None

-- bytes with this tag, this step number and these fields and what follows them
record IsBegun (v : Version) (text : List ℕ) (t at : ℕ) (fields : List ℕ) : Type 0 where
  tag : tag_of text ≡ t
  step : step_of v text ≡ at
  has : fields_of v text ≡ fields
  long : length text ≡ 1 + step_length v + length fields

begun : (v : Version) (t at : ℕ) (fields : List ℕ) → at < step_end v → IsBegun v (t ∷ (step_text v at ++ fields)) t at fields
begun v t at fields h = record {
  tag = refl;
  step = step_again v t at fields h;
  has = fields_again v t at fields;
  long = omega (arith, length-append (step_text v at) fields, length-step_text v at);
}

-- the same where more follows
begun_with : (v : Version) (t at : ℕ) (fields after : List ℕ) → at < step_end v → IsBegun v (t ∷ (step_text v at ++ fields) ++ after) t at (fields ++ after)
begun_with v t at fields after h =
    subst (λ (x : List ℕ). IsBegun v (t ∷ x) t at (fields ++ after)) (sym (append_assoc (step_text v at) fields after)) (begun v t at (fields ++ after) h)

none_again : (v : Version) (least : ℕ) (left : List (List ℕ)) (text : List ℕ) (t at : ℕ) (fields : List ℕ) → IsBegun v text t at fields → 1 ≤ t → t ≤ 7 → least ≤ at → at < step_bound t
    → is_result_wrong t fields ≡ false → are_bytes_wrong v t left fields ≡ false → fixed_length v t + data_length v t text ≤ length text → record_fault v least left text ≡ None
none_again v least left text t at fields is low high order below outcome bytes whole =
    record_fault-none v least left text t record { tag = is.tag; low = low; high = high; order = rw is.step order; below = rw is.step below; outcome = rw is.has outcome; bytes = rw is.has bytes; whole = whole }

clock_again : (v : Version) (left : List (List ℕ)) (at value : ℕ) (after : List ℕ) → at < 2 ^ 40 → at < step_end v → value < 2 ^ 64 → IsAgain v left (Call (Clock at value)) after
clock_again v left at value after p w q =
    let is = begun_with v 3 at (word64 value) after w in
    let b : long_at (word64 value ++ after) 0 ≡ value = from_le_bytes-to_le_bytes_8 value q in
    record {
      same = rw (is.step, is.has, b) refl;
      size = omega (arith, (begun v 3 at (word64 value) w).long);
      none = λ least h. none_again v least left _ 3 at _ is (omega arith) (omega arith) h p refl refl (omega (arith, is.long));
    }

other_again : (v : Version) (left : List (List ℕ)) (at number : ℕ) (after : List ℕ) → at < 2 ^ 40 → at < step_end v → number < 2 ^ 32 → IsAgain v left (Call (Other at number)) after
other_again v left at number after p w q =
    let is = begun_with v 4 at (word32 number) after w in
    let b : word_at (word32 number ++ after) 0 ≡ number = from_le_bytes-to_le_bytes_4 number q in
    record {
      same = rw (is.step, is.has, b) refl;
      size = omega (arith, (begun v 4 at (word32 number) w).long);
      none = λ least h. none_again v least left _ 4 at _ is (omega arith) (omega arith) h p refl refl (omega (arith, is.long));
    }

small : (k : ℕ) → IsTrapKind k → k ≤ 7
small k h = grind arith

pub end_again : (v : Version) (left : List (List ℕ)) (e : RunEnd) (after : List ℕ) → IsEnd e → item_at (End e) < step_end v → are_left left ≡ false → IsAgain v left (End e) after
end_again v left (Exit at code) after h w none =
    let is = begun_with v 5 at (word32 code) after w in
    let b : word_at (word32 code ++ after) 0 ≡ code = from_le_bytes-to_le_bytes_4 code h.1 in
    record {
      same = rw (is.step, is.has, b) refl;
      size = omega (arith, (begun v 5 at (word32 code) w).long);
      none = λ least o. none_again v least left _ 5 at _ is (omega arith) (omega arith) o h.0 refl (rw none refl) (omega (arith, is.long));
    }
end_again v left (Trap at kind pc) after h w none =
    let text = end_text v (Trap at kind pc) ++ after in
    let fields = word32 kind ++ word32 pc in
    let parts : end_text v (Trap at kind pc) ≡ 6 ∷ (step_text v at ++ fields) = ap (λ (x : List ℕ). 6 ∷ x) (append_assoc (step_text v at) (word32 kind) (word32 pc)) in
    let is : IsBegun v text 6 at (fields ++ after) = subst (λ (x : List ℕ). IsBegun v (x ++ after) 6 at (fields ++ after)) (sym parts) (begun_with v 6 at fields after w) in
    let here : IsBegun v (end_text v (Trap at kind pc)) 6 at fields = subst (λ (x : List ℕ). IsBegun v x 6 at fields) (sym parts) (begun v 6 at fields w) in
    let b : word_at (fields ++ after) 0 ≡ kind = from_le_bytes-to_le_bytes_4 kind (omega (arith, small kind h.1)) in
    let d : word_at (fields ++ after) 4 ≡ pc = from_le_bytes-to_le_bytes_4 pc h.2 in
    record {
      same = rw (is.step, is.has, b, d) refl;
      size = omega (arith, here.long);
      none = λ least o. none_again v least left text 6 at _ is (omega arith) (omega arith) o (omega (arith, h.0)) (rw b (kind_is_right kind h.1)) (rw none refl) (omega (arith, is.long));
    }
end_again v left (Limit at) after h w none =
    let text = end_text v (Limit at) ++ after in
    let is : IsBegun v text 7 at after = begun v 7 at after w in
    record {
      same = rw is.step refl;
      size = omega (arith, length-step_text v at);
      none = λ least o. none_again v least left text 7 at _ is (omega arith) (omega arith) o (omega (arith, h)) refl (rw none refl) (omega (arith, is.long));
    }

-- ---- reads and writes

-- the fields of a read or a write, and what follows them
abbrev transfer : List ℕ → ℤ → List ℕ → List ℕ
transfer args result after = flat_map word32 args ++ (signed32 result ++ after)

record HasFields (fields : List ℕ) (a b c : ℕ) (result : ℤ) (size : ℕ) (after : List ℕ) : Type 0 where
  first : word_at fields 0 ≡ a
  second : word_at fields 4 ≡ b
  third : word_at fields 8 ≡ c
  outcome : word_at fields 12 ≡ cast_unsigned w32 result
  moves : moved fields ≡ size
  tail : drop 16 fields ≡ after
  long : length fields ≡ 16 + length after

has_fields : (a b c : ℕ) (result : ℤ) (bytes after : List ℕ) → IsTransfer (a ∷ b ∷ c ∷ []) result bytes → IsOutcome result
    → HasFields (transfer (a ∷ b ∷ c ∷ []) result after) a b c result (length bytes) after
has_fields a b c result bytes after f o =
    let fields = transfer (a ∷ b ∷ c ∷ []) result after in
    let outcome : word_at fields 12 ≡ cast_unsigned w32 result = from_le_bytes-to_le_bytes_4 (cast_unsigned w32 result) (word_of_below result f.fits) in
    record {
      first = from_le_bytes-to_le_bytes_4 a f.words.0;
      second = from_le_bytes-to_le_bytes_4 b f.words.1.0;
      third = from_le_bytes-to_le_bytes_4 c f.words.1.1.0;
      outcome = outcome;
      moves = rw outcome (word_of_moved result f.fits o) ∙ sym f.whole;
      tail = refl;
      long = omega arith;
    }

outcome_of : (result : ℤ) (requested : ℕ) → IsRefusal result ⊎ ((pos 0 ≤ℤ result) × (result ≤ℤ pos requested)) → IsOutcome result
outcome_of result requested (inl r) = inl r
outcome_of result requested (inr p) = inr p.0

outcome_from : (result : ℤ) (requested : ℕ) → IsRefusal result ⊎ (result ≡ pos requested) → IsOutcome result
outcome_from result requested (inl r) = inl r
outcome_from result requested (inr e) = inr (omega (arith, ints, e))

-- what follows the fields
past_fields : (v : Version) (text fields after : List ℕ) → fields_of v text ≡ fields → drop 16 fields ≡ after → drop (1 + step_length v + 16) text ≡ after
past_fields v text fields after e f = sym (drop-drop 16 (1 + step_length v) text) ∙ ap (drop 16) e ∙ f

-- of a read in either version: the bytes, how many follow, and that they are there
record IsReadAgain (v : Version) (left : List (List ℕ)) (text fields bytes after : List ℕ) : Type 0 where
  gives : read_bytes v left text ≡ bytes
  follow : data_length v 1 text ≡ length (read_text v bytes)
  right : are_bytes_wrong v 1 left fields ≡ false

read_is : (v : Version) (left : List (List ℕ)) (text fields bytes after : List ℕ) → fields_of v text ≡ fields → moved fields ≡ length bytes → drop 16 fields ≡ read_text v bytes ++ after
    → IsFront v bytes (left_on left fields) → IsReadAgain v left text fields bytes after
read_is One left text fields bytes after e m t front =
    let follow : data_length One 1 text ≡ length bytes = ap moved e ∙ m in
    record {
      gives = ap₂ (λ (n : ℕ) (x : List ℕ). take n x) follow (past_fields One text fields (bytes ++ after) e t) ∙ take_at bytes after (length bytes) refl;
      follow = follow;
      right = refl;
    }
read_is Two left text fields bytes after e m t front =
    let channel = left_on left fields in
    let front : channel ≡ bytes ++ drop (length bytes) channel = front in
    let enough : length bytes ≤ length channel = omega (arith, ap length front, length-append bytes (drop (length bytes) channel)) in
    let all : nat_lt (length channel) (moved fields) ≡ false = rw m (le-ltb (length channel) (length bytes) enough) in
    record {
      gives = ap (λ (x : List ℕ). take (moved x) (left_on left x)) e ∙ ap₂ (λ (n : ℕ) (x : List ℕ). take n x) m front ∙ take_at bytes (drop (length bytes) channel) (length bytes) refl;
      follow = refl;
      right = rw all refl;
    }

read_again : (v : Version) (left : List (List ℕ)) (at a b c : ℕ) (result : ℤ) (bytes after : List ℕ) → IsRecord (Read at (a ∷ b ∷ c ∷ []) result bytes) → at < step_end v → IsFront v bytes (get_or left a [])
    → IsAgain v left (Call (Read at (a ∷ b ∷ c ∷ []) result bytes)) after
read_again v left at a b c result bytes after r w front =
    let args = a ∷ b ∷ c ∷ [] in
    let moved_bytes = read_text v bytes in
    let text = record_text v (Read at args result bytes) ++ after in
    let o = outcome_of result c r.2 in
    let fields = transfer args result (moved_bytes ++ after) in
    let h = has_fields a b c result bytes (moved_bytes ++ after) r.1 o in
    let parts : text ≡ 1 ∷ (step_text v at ++ fields) = ap (λ (x : List ℕ). 1 ∷ x) (regroup (step_text v at) (flat_map word32 args) (signed32 result) moved_bytes after) in
    let is : IsBegun v text 1 at fields = subst (λ (x : List ℕ). IsBegun v x 1 at fields) (sym parts) (begun v 1 at fields w) in
    let channel : IsFront v bytes (left_on left fields) = subst (λ (k : ℕ). IsFront v bytes (get_or left k [])) (sym h.first) front in
    let n = read_is v left text fields bytes after is.has h.moves h.tail channel in
    let sum = length-append moved_bytes after in
    let whole : length text ≡ length (record_text v (Read at args result bytes)) + length after = length-append (record_text v (Read at args result bytes)) after in
    record {
      same = rw (is.step, n.gives, is.has, h.first, h.second, h.third, h.outcome, cast_again result r.1.fits o) refl;
      size = omega (arith, n.follow, is.long, h.long, sum, whole);
      none = λ least order. none_again v least left text 1 at _ is (omega arith) (omega arith) order r.0 (rw (h.third, h.outcome, read_is_right c result r.1.fits r.2) refl) n.right (omega (arith, n.follow, is.long, h.long, sum));
    }

write_again : (v : Version) (left : List (List ℕ)) (at a b c : ℕ) (result : ℤ) (bytes after : List ℕ) → IsRecord (Write at (a ∷ b ∷ c ∷ []) result bytes) → at < step_end v
    → IsAgain v left (Call (Write at (a ∷ b ∷ c ∷ []) result bytes)) after
write_again v left at a b c result bytes after r w =
    let args = a ∷ b ∷ c ∷ [] in
    let text = record_text v (Write at args result bytes) ++ after in
    let o = outcome_from result c r.2 in
    let fields = transfer args result (bytes ++ after) in
    let h = has_fields a b c result bytes (bytes ++ after) r.1 o in
    let parts : text ≡ 2 ∷ (step_text v at ++ fields) = ap (λ (x : List ℕ). 2 ∷ x) (regroup (step_text v at) (flat_map word32 args) (signed32 result) bytes after) in
    let is : IsBegun v text 2 at fields = subst (λ (x : List ℕ). IsBegun v x 2 at fields) (sym parts) (begun v 2 at fields w) in
    let n : moved (fields_of v text) ≡ length bytes = ap moved is.has ∙ h.moves in
    let moved_bytes = past_fields v text fields (bytes ++ after) is.has h.tail in
    let sum = length-append bytes after in
    let whole : length text ≡ length (record_text v (Write at args result bytes)) + length after = length-append (record_text v (Write at args result bytes)) after in
    record {
      same = rw (n, moved_bytes, is.step, is.has, h.first, h.second, h.third, h.outcome, cast_again result r.1.fits o, take_at bytes after (length bytes) refl) refl;
      size = omega (arith, n, is.long, h.long, sum, whole);
      none = λ least order. none_again v least left text 2 at _ is (omega arith) (omega arith) order r.0 (rw (h.third, h.outcome, write_is_right c result r.1.fits r.2) refl) refl (omega (arith, n, is.long, h.long, sum));
    }

pub record_again : (v : Version) (left : List (List ℕ)) (r : CallRecord) (after : List ℕ) → IsRecord r → item_at (Call r) < step_end v → IsItemOf v left (Call r) → IsAgain v left (Call r) after
record_again v left (Read at args result bytes) after r w front =
    let split = three-get_or args r.1.three in
    let here : IsRecord (Read at (get_or args 0 0 ∷ get_or args 1 0 ∷ get_or args 2 0 ∷ []) result bytes) = subst (λ (x : List ℕ). IsRecord (Read at x result bytes)) split r in
    subst (λ (x : List ℕ). IsAgain v left (Call (Read at x result bytes)) after) (sym split) (read_again v left at _ _ _ result bytes after here w front)
record_again v left (Write at args result bytes) after r w front =
    let split = three-get_or args r.1.three in
    let here : IsRecord (Write at (get_or args 0 0 ∷ get_or args 1 0 ∷ get_or args 2 0 ∷ []) result bytes) = subst (λ (x : List ℕ). IsRecord (Write at x result bytes)) split r in
    subst (λ (x : List ℕ). IsAgain v left (Call (Write at x result bytes)) after) (sym split) (write_again v left at _ _ _ result bytes after here w)
record_again v left (Clock at value) after r w front = clock_again v left at value after r.0 w r.1
record_again v left (Other at number) after r w front = other_again v left at number after r.0 w r.1

pub item_again : (v : Version) (left : List (List ℕ)) (item : Item) (after : List ℕ) → IsForm item → item_at item < step_end v → IsItemOf v left item → IsAgain v left item after
item_again v left (Call r) after form w allowed = record_again v left r after form w allowed
item_again v left (End e) after form w allowed = end_again v left e after form w allowed
