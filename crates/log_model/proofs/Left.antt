-- The channels that stand in a log's text, and what is left of them, call after call. Crates above cite these lemmas.
use Rattle.std.proofs.Common.{◌≡◌, ℕ, ◌≢◌, Bool, true, false, eqb, List, [], ◌∷◌, ◌++◌, length, get_or, set, drop, refl, sym, ap, subst, ◌∙◌, append_assoc, arith, inl, inr, zero, suc, ◌^◌, ◌<◌, map}
use Rattle.std.specs.Prelude.{if◌then◌else◌, slice_index}
use Rattle.std.proofs.lemmas.Bool.{cases_eq, cases_lt, eq-eqb, ne_eqb, or_parts, ltb-false}
use Rattle.std.proofs.lemmas.List.{append_cancel_left, length-set, get_or-set_same, get_or-set_other, get_or_past, set_past, drop_all, drop_at, ext_get_or, append-nil, length-map, nil_from_length}
use Rattle.std.specs.List.{flat_map, range_with_len, AllByRecursion}
use Rattle.std.proofs.lemmas.List.FromFn.{length-map-range_with_len, get_or-map-range_with_len, fill_by_all}
use Rattle.log_model.specs.declared.Version.{Version}
use Rattle.log_model.specs.declared.Version.TheVariants.{One, Two}
use Rattle.log_model.specs.declared.CallRecord.{CallRecord}
use Rattle.log_model.specs.declared.CallRecord.TheVariants.{Read, Write}
use Rattle.log_model.specs.Moved.{received, received_by}
use Rattle.log_model.specs.Faults.{taken, AreLeft, channel_count, step_end, are_left, IsRead}
use Rattle.log_model.specs.Reading.{left_after}
use Rattle.log_model.proofs.Items.{IsCallOf}
use Rattle.lists.specs.Fields.{word_at}
use Rattle.log_model.specs.declared.RunEnd.{RunEnd}
use Rattle.log_model.specs.declared.RunEnd.TheVariants.{Limit}
use Rattle.log_model.specs.Logs.{Log, IsLog, IsRecord, IsEnd, CanHold, channel_text, kept_channels, at_of, end_at, record_text, end_text, log_text}
use Rattle.log_model.proofs.Channels.{AreCounted}
use Rattle.log_model.proofs.Headers.{IsHeaderAgain, log_again}

-- in version 1 there are no channels
abbrev pub HasNone : Version → List (List ℕ) → Type 0
HasNone One channels = channels ≡ []
HasNone Two channels = Unit {0}

nil_after : (call : CallRecord) → left_after call [] ≡ []
nil_after (Read at args result bytes) = refl
nil_after call = refl

pub none_after : (v : Version) (channels : List (List ℕ)) (call : CallRecord) → HasNone v channels → HasNone v (left_after call channels)
none_after One channels call e = ap (left_after call) e ∙ nil_after call
none_after Two channels call e = tt

pub length-left_after : (call : CallRecord) (channels : List (List ℕ)) → length (left_after call channels) ≡ length channels
length-left_after (Read at args result bytes) channels = length-set channels (slice_index args 0) _
length-left_after call channels = refl

-- what a call takes from a channel
abbrev took : Version → ℕ → CallRecord → List ℕ
took One c call = []
took Two c call = received_by c call

taken-cons : (v : Version) (c : ℕ) (call : CallRecord) (calls : List CallRecord) → taken v c (call ∷ calls) ≡ took v c call ++ taken v c calls
taken-cons One c call calls = refl
taken-cons Two c call calls = refl

taken-nil : (v : Version) (c : ℕ) → taken v c [] ≡ []
taken-nil One c = refl
taken-nil Two c = refl

pub same_place : (channels : List (List ℕ)) (k n : ℕ) → get_or (set channels k (drop n (get_or channels k []))) k [] ≡ drop n (get_or channels k [])
same_place channels k n =
    elim (cases_lt k (length channels)) [
      | inl below ↦ get_or-set_same channels k _ [] below
      | inr past ↦
          let none = get_or_past channels k [] past in
          ap (λ (x : List (List ℕ)). get_or x k []) (set_past channels k _ past) ∙ none ∙ sym (ap (drop n) none ∙ drop_all n [] (omega arith))
    ]

read_took : (channels : List (List ℕ)) (k : ℕ) (bytes : List ℕ) → get_or channels k [] ≡ bytes ++ drop (length bytes) (get_or channels k [])
    → (c : ℕ) → get_or channels c [] ≡ (if eqb k c then bytes else []) ++ get_or (set channels k (drop (length bytes) (get_or channels k []))) c []
read_took channels k bytes front c =
    elim (cases_eq k c) [
      | inl e ↦
          subst (λ (c : ℕ). get_or channels c [] ≡ (if eqb k c then bytes else []) ++ get_or (set channels k (drop (length bytes) (get_or channels k []))) c []) e
          (rw (eq-eqb k k refl) (front ∙ ap (λ (x : List ℕ). bytes ++ x) (sym (same_place channels k (length bytes)))))
      | inr n ↦
          let other : c ≢ k = λ e. n (sym e) in
          rw (ne_eqb k c n) (sym (get_or-set_other channels k c _ [] other))
    ]

if_nil : (b : Bool) (x : List ℕ) → x ≡ (if b then [] else []) ++ x
if_nil true x = refl
if_nil false x = refl

call_took : (v : Version) (channels : List (List ℕ)) (call : CallRecord) → HasNone v channels → IsCallOf v channels call
    → (c : ℕ) → get_or channels c [] ≡ took v c call ++ get_or (left_after call channels) c []
call_took One channels call none is c = ap (λ (x : List (List ℕ)). get_or x c []) (none ∙ sym (none_after One channels call none))
call_took Two channels (Read at args result bytes) none is c = read_took channels (slice_index args 0) bytes is c
call_took Two channels (Write at args result bytes) none is c = if_nil (eqb (slice_index args 0) c) (get_or channels c [])
call_took Two channels call none is c = refl

-- ---- from the whole to the first call

front_of : (channel bytes more : List ℕ) → channel ≡ bytes ++ more → channel ≡ bytes ++ drop (length bytes) channel
front_of channel bytes more e = e ∙ ap (λ (x : List ℕ). bytes ++ x) (sym (ap (drop (length bytes)) e ∙ drop_at bytes more (length bytes) refl))

read_of : (channels : List (List ℕ)) (k : ℕ) (bytes more left : List ℕ) → get_or channels k [] ≡ (if eqb k k then bytes else []) ++ more ++ left → get_or channels k [] ≡ bytes ++ drop (length bytes) (get_or channels k [])
read_of channels k bytes more left e = front_of (get_or channels k []) bytes (more ++ left) (rw (eq-eqb k k refl) at e ∙ append_assoc bytes more left)

pub call_of : (v : Version) (channels : List (List ℕ)) (call : CallRecord) (calls : List CallRecord) (left : List (List ℕ)) → AreLeft v channels (call ∷ calls) left → IsCallOf v channels call
call_of One channels (Read at args result bytes) calls left are = tt
call_of Two channels (Read at args result bytes) calls left are =
    let k = slice_index args 0 in
    read_of channels k bytes (received k calls) (get_or left k []) (are.each k)
call_of v channels call calls left are = tt

pub left_next : (v : Version) (channels : List (List ℕ)) (call : CallRecord) (calls : List CallRecord) (left : List (List ℕ)) → HasNone v channels → AreLeft v channels (call ∷ calls) left
    → AreLeft v (left_after call channels) calls left
left_next v channels call calls left none are = record {
  as_many = are.as_many ∙ sym (length-left_after call channels);
  each = λ c.
      append_cancel_left (took v c call) _ _
      (sym (call_took v channels call none (call_of v channels call calls left are) c) ∙ are.each c ∙ ap (λ (x : List ℕ). x ++ get_or left c []) (taken-cons v c call calls)
      ∙ append_assoc (took v c call) (taken v c calls) (get_or left c []));
}

pub left_same : (v : Version) (channels left : List (List ℕ)) → AreLeft v channels [] left → channels ≡ left
left_same v channels left are = ext_get_or [] channels left (sym are.as_many) (λ c h. are.each c ∙ ap (λ (x : List ℕ). x ++ get_or left c []) (taken-nil v c))

-- ---- from the first call to the whole

pub left_nil : (v : Version) (channels : List (List ℕ)) → AreLeft v channels [] channels
left_nil v channels = record { as_many = refl; each = λ c. ap (λ (x : List ℕ). x ++ get_or channels c []) (sym (taken-nil v c)) }

pub left_more : (v : Version) (channels : List (List ℕ)) (call : CallRecord) (calls : List CallRecord) (left : List (List ℕ)) → HasNone v channels → IsCallOf v channels call → AreLeft v (left_after call channels) calls left
    → AreLeft v channels (call ∷ calls) left
left_more v channels call calls left none is are = record {
  as_many = are.as_many ∙ length-left_after call channels;
  each = λ c.
      call_took v channels call none is c ∙ ap (λ (x : List ℕ). took v c call ++ x) (are.each c) ∙ sym (append_assoc (took v c call) (taken v c calls) (get_or left c []))
      ∙ ap (λ (x : List ℕ). x ++ get_or left c []) (sym (taken-cons v c call calls));
}

-- ---- from the log to its channels

-- as many channels, of which nothing is left
abbrev pub emptied : List (List ℕ) → List (List ℕ)
emptied channels = map (λ c. []) channels

emptied_at : (channels : List (List ℕ)) (c : ℕ) → get_or (emptied channels) c [] ≡ []
emptied_at (x ∷ channels) (suc c) = emptied_at channels c
emptied_at channels c = refl

pub none_left : (channels : List (List ℕ)) → are_left (emptied channels) ≡ false
none_left [] = refl
none_left (x ∷ channels) = none_left channels

all_map : {X Y : Type 0} (P : Y → Type 0) (f : X → Y) → ((x : X) → P (f x)) → (xs : List X) → AllByRecursion P (map f xs)
all_map P f h [] = tt
all_map P f h (x ∷ xs) = (h x, all_map P f h xs)

kept_counted : (v : Version) (log : Log) → CanHold v log → AreCounted (kept_channels v log)
kept_counted One log held = tt
kept_counted Two log held = all_map (λ c. length c < 2 ^ 32) (λ c. received c log.records) (λ c. (held c).0) (range_with_len 0 log.inputs)

kept_each : (v : Version) (log : Log) → CanHold v log → (c : ℕ) → get_or (kept_channels v log) c [] ≡ taken v c log.records
kept_each One log held c = refl
kept_each Two log held c =
    elim (cases_lt c log.inputs) [
      | inl below ↦ get_or-map-range_with_len (λ k. received k log.records) 0 log.inputs c c [] below (omega arith)
      | inr past ↦
          get_or_past (kept_channels Two log) c [] (omega (arith, past, length-map-range_with_len (λ k. received k log.records) 0 log.inputs))
          ∙ sym ((held c).1 past)
    ]

kept_left : (v : Version) (log : Log) → CanHold v log → AreLeft v (kept_channels v log) log.records (emptied (kept_channels v log))
kept_left v log held = record {
  as_many = length-map (kept_channels v log) (λ c. []);
  each = λ c.
      kept_each v log held c ∙ sym (append-nil (taken v c log.records)) ∙ ap (λ (x : List ℕ). taken v c log.records ++ x) (sym (emptied_at (kept_channels v log) c));
}

call_below : (r : CallRecord) → IsRecord r → at_of r < 2 ^ 64
call_below (Read at args result bytes) h = omega (arith, h.0)
call_below r h = omega (arith, h.0)

calls_below : (rs : List CallRecord) → AllByRecursion IsRecord rs → AllByRecursion (λ r. at_of r < 2 ^ 64) rs
calls_below [] h = tt
calls_below (r ∷ rs) h = (call_below r h.0, calls_below rs h.1)

end_below : (e : RunEnd) → IsEnd e → end_at e < 2 ^ 64
end_below (Limit at) h = omega (arith, h)
end_below e h = omega (arith, h.0)

calls_written : (v : Version) (log : Log) → IsLog log → CanHold v log → AllByRecursion (λ r. at_of r < step_end v) log.records
calls_written One log is held = held.0
calls_written Two log is held = calls_below log.records is.records

pub end_written : (v : Version) (log : Log) → IsLog log → CanHold v log → end_at log.end < step_end v
end_written One log is held = held.1
end_written Two log is held = end_below log.end is.end

kept_all : (v : Version) (log : Log) (text : List ℕ) → word_at text 44 ≡ log.inputs → length (kept_channels v log) ≡ channel_count v text
kept_all One log text e = refl
kept_all Two log text e = length-map-range_with_len (λ k. received k log.records) 0 log.inputs ∙ sym e

-- bytes whose header is that of a log, and then its channels and calls, are read as these calls
pub text_read_to : (v : Version) (log : Log) (bytes after : List ℕ) → IsLog log → CanHold v log → IsHeaderAgain v bytes log (flat_map channel_text (kept_channels v log) ++ (flat_map (record_text v) log.records ++ after))
    → IsRead v bytes log.records (emptied (kept_channels v log)) after
text_read_to v log bytes after is held again = record {
  channels = kept_channels v log;
  stand = record { header = again.none; version = again.version; counted = kept_counted v log held; text = again.rest };
  are_all = kept_all v log bytes again.inputs;
  are_records = is.records;
  written = calls_written v log is held;
  rise = is.rise;
  taken = kept_left v log held;
}

-- the text of a log is read up to its end
pub text_read : (v : Version) (log : Log) → IsLog log → CanHold v log → IsRead v (log_text v log) log.records (emptied (kept_channels v log)) (end_text v log.end)
text_read v log is held = text_read_to v log (log_text v log) (end_text v log.end) is held (log_again v log is)

-- ---- from the channels to the log

none_at : (left : List (List ℕ)) → are_left left ≡ false → (c : ℕ) → get_or left c [] ≡ []
none_at [] h c = refl
none_at (x ∷ left) h zero = nil_from_length x (omega (arith, ltb-false 0 (length x) (or_parts _ _ h).0))
none_at (x ∷ left) h (suc c) = none_at left (or_parts _ _ h).1 c

all_taken : (v : Version) (channels : List (List ℕ)) (records : List CallRecord) (left : List (List ℕ)) → AreLeft v channels records left → are_left left ≡ false → (c : ℕ) → get_or channels c [] ≡ taken v c records
all_taken v channels records left are none c = are.each c ∙ ap (λ (x : List ℕ). taken v c records ++ x) (none_at left none c) ∙ append-nil (taken v c records)

counted_at : (channels : List (List ℕ)) → AreCounted channels → (c : ℕ) → length (get_or channels c []) < 2 ^ 32
counted_at [] h c = omega arith
counted_at (x ∷ channels) h zero = h.0
counted_at (x ∷ channels) h (suc c) = counted_at channels h.1 c

-- the channels of bytes that are read to their end
pub record AreKept (v : Version) (log : Log) (channels : List (List ℕ)) : Type 0 where
  pub held : CanHold v log
  pub kept : channels ≡ kept_channels v log

pub are_kept : (v : Version) (bytes : List ℕ) (log : Log) (channels left : List (List ℕ)) → AreCounted channels → length channels ≡ channel_count v bytes → word_at bytes 44 ≡ log.inputs → AreLeft v channels log.records left → are_left left ≡ false
    → AllByRecursion (λ r. at_of r < step_end v) log.records → end_at log.end < step_end v → AreKept v log channels
are_kept One bytes log channels left counted all inputs are none calls end = record { held = (calls, end); kept = nil_from_length channels all }
are_kept Two bytes log channels left counted all inputs are none calls end =
    let each = all_taken Two channels log.records left are none in
    let bytes_of = λ (c : ℕ). received c log.records in
    record {
      held = λ c. (subst (λ (x : List ℕ). length x < 2 ^ 32) (each c) (counted_at channels counted c), λ past. sym (each c) ∙ get_or_past channels c [] (omega (arith, all, inputs, past)));
      kept = fill_by_all bytes_of channels log.inputs [] (all ∙ inputs) (λ c below. each c);
    }
