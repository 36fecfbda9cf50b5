-- The record at the front, where it has no fault: the bytes are its text and what is after it.
use Rattle.std.proofs.Common.{◌≡◌, ℕ, zero, suc, ◌+◌, ◌≤◌, ◌<◌, Bool, true, false, ◌||◌, leb, eqb, List, [], ◌∷◌, ◌++◌, length, get_or, take, drop, None, refl, sym, ap, subst, ◌∙◌, append_assoc, arith, inl, inr}
use Rattle.std.specs.List.{flat_map}
use Rattle.std.proofs.lemmas.Bool.{or_cases, or_parts, leb-true, eqb-true, not-false, ltb-false}
use Rattle.std.proofs.lemmas.Int.{of_z-to_z}
use Rattle.std.proofs.lemmas.List.{take-append-drop, drop-drop, length-take, length-drop}
use Rattle.std.specs.Int.{w32}
use Rattle.lists.specs.Fields.{word_at}
use Rattle.log_model.specs.declared.Version.{Version}
use Rattle.log_model.specs.declared.Version.TheVariants.{One, Two}
use Rattle.log_model.specs.declared.CallRecord.TheVariants.{Read, Write, Clock, Other}
use Rattle.log_model.specs.declared.RunEnd.TheVariants.{Exit, Trap, Limit}
use Rattle.log_model.specs.declared.Item.{Item}
use Rattle.log_model.specs.declared.Item.TheVariants.{Call, End}
use Rattle.log_model.specs.Logs.{word32, word64, signed32, step_text, read_text, IsBytes, IsTransfer, IsTrapKind}
use Rattle.log_model.specs.Faults.{long_at, tag_of, step_length, step_of, step_end, fields_of, fields_length, fixed_length, moved, data_length, left_on, is_read_result_wrong, is_write_result_wrong, is_trap_kind_wrong, record_fault}
use Rattle.log_model.specs.Reading.{arguments_of, result_of, data_of, read_bytes, item_of, item_length}
use Rattle.log_model.proofs.Faults.{IsKnown, no_fault}
use Rattle.log_model.proofs.Items.{item_text, item_at, IsForm, IsFront, IsItemOf, IsNext}
use Rattle.log_model.proofs.Words.{IsBytes-drop, IsBytes-take, word_spelt, long_spelt, word_below, long_below, byte_spelt, step_spelt, step_below}
use Rattle.log_model.proofs.Results.{moved_of, fits_of, read_result_of, write_result_of}

-- ---- records of words alone

-- one word more
then_word : (rest : List ℕ) (i : ℕ) (after : List ℕ) → IsBytes rest → i + 4 ≤ length rest → drop (i + 4) rest ≡ after → drop i rest ≡ word32 (word_at rest i) ++ after
then_word rest i after fits h e = word_spelt rest i fits h ∙ ap (λ (x : List ℕ). word32 (word_at rest i) ++ x) e

-- what is known of bytes whose record at the front has no fault and the tag t
record IsSound (v : Version) (least : ℕ) (left : List (List ℕ)) (rest : List ℕ) (t : ℕ) : Type 0 where
  are_bytes : IsBytes rest
  known : IsKnown v least left rest t

-- the fields have so many bytes, and these follow them
record AreFields (v : Version) (rest : List ℕ) (t : ℕ) : Type 0 where
  are_bytes : IsBytes (fields_of v rest)
  whole : fields_length t + data_length v t rest ≤ length (fields_of v rest)
  past : drop (fields_length t) (fields_of v rest) ≡ drop (fixed_length v t) rest

are_fields : (v : Version) (least : ℕ) (left : List (List ℕ)) (rest : List ℕ) (t : ℕ) → IsSound v least left rest t → AreFields v rest t
are_fields v least left rest t s = record {
  are_bytes = IsBytes-drop (1 + step_length v) rest s.are_bytes;
  whole = omega (arith, s.known.whole, length-drop (1 + step_length v) rest);
  past = drop-drop (fields_length t) (1 + step_length v) rest;
}

-- the tag and the step number before the rest of a record
tag_spelt : (v : Version) (least : ℕ) (left : List (List ℕ)) (rest after : List ℕ) (t : ℕ) → IsSound v least left rest t → fields_of v rest ≡ after → rest ≡ t ∷ (step_text v (step_of v rest) ++ after)
tag_spelt v least left rest after t s e =
    let step = step_spelt v rest s.are_bytes (omega (arith, s.known.whole)) in
    byte_spelt rest (omega (arith, s.known.whole))
    ∙ ap (λ (x : List ℕ). tag_of rest ∷ x) (step ∙ ap (λ (x : List ℕ). step_text v (step_of v rest) ++ x) e)
    ∙ ap (λ (k : ℕ). k ∷ (step_text v (step_of v rest) ++ after)) s.known.tag

-- the same, with fields and what follows them
spelt_with : (v : Version) (least : ℕ) (left : List (List ℕ)) (rest fields after : List ℕ) (t : ℕ) → IsSound v least left rest t → fields_of v rest ≡ fields ++ after → rest ≡ t ∷ (step_text v (step_of v rest) ++ fields ++ after)
spelt_with v least left rest fields after t s e =
    tag_spelt v least left rest (fields ++ after) t s e ∙ ap (λ (x : List ℕ). t ∷ x) (sym (append_assoc (step_text v (step_of v rest)) fields after))

-- an item at that step, whose text is at the front
next_of : (v : Version) (least : ℕ) (left : List (List ℕ)) (rest : List ℕ) (t : ℕ) (item : Item) (after : List ℕ) → IsSound v least left rest t → step_of v rest ≡ item_at item → IsForm item → IsItemOf v left item → rest ≡ item_text v item ++ after
    → IsNext v least left rest item after
next_of v least left rest t item after s e form allowed parts = record {
  form = form;
  written = subst (λ (k : ℕ). k < step_end v) e (step_below v rest s.are_bytes);
  order = subst (λ (k : ℕ). least ≤ k) e s.known.order;
  allowed = allowed;
  parts = parts;
}

limit_next : (v : Version) (least : ℕ) (left : List (List ℕ)) (rest : List ℕ) → IsSound v least left rest 7 → IsNext v least left rest (End (Limit (step_of v rest))) (drop (fixed_length v 7) rest)
limit_next v least left rest s =
    let f = are_fields v least left rest 7 s in
    next_of v least left rest 7 _ _ s refl (omega (arith, s.known.below)) s.known.bytes
    (tag_spelt v least left rest _ 7 s f.past)

other_next : (v : Version) (least : ℕ) (left : List (List ℕ)) (rest : List ℕ) → IsSound v least left rest 4 → IsNext v least left rest (Call (Other (step_of v rest) (word_at (fields_of v rest) 0))) (drop (fixed_length v 4) rest)
other_next v least left rest s =
    let fields = fields_of v rest in
    let f = are_fields v least left rest 4 s in
    next_of v least left rest 4 _ _ s refl (s.known.below, word_below fields 0 f.are_bytes) tt
    (spelt_with v least left rest (word32 (word_at fields 0)) _ 4 s (then_word fields 0 _ f.are_bytes (omega (arith, f.whole)) f.past))

exit_next : (v : Version) (least : ℕ) (left : List (List ℕ)) (rest : List ℕ) → IsSound v least left rest 5 → IsNext v least left rest (End (Exit (step_of v rest) (word_at (fields_of v rest) 0))) (drop (fixed_length v 5) rest)
exit_next v least left rest s =
    let fields = fields_of v rest in
    let f = are_fields v least left rest 5 s in
    next_of v least left rest 5 _ _ s refl (s.known.below, word_below fields 0 f.are_bytes) s.known.bytes
    (spelt_with v least left rest (word32 (word_at fields 0)) _ 5 s (then_word fields 0 _ f.are_bytes (omega (arith, f.whole)) f.past))

clock_next : (v : Version) (least : ℕ) (left : List (List ℕ)) (rest : List ℕ) → IsSound v least left rest 3 → IsNext v least left rest (Call (Clock (step_of v rest) (long_at (fields_of v rest) 0))) (drop (fixed_length v 3) rest)
clock_next v least left rest s =
    let fields = fields_of v rest in
    let f = are_fields v least left rest 3 s in
    let spelt = long_spelt fields 0 f.are_bytes (omega (arith, f.whole)) ∙ ap (λ (x : List ℕ). word64 (long_at fields 0) ++ x) f.past in
    next_of v least left rest 3 _ _ s refl (s.known.below, long_below fields 0 f.are_bytes) tt
    (spelt_with v least left rest (word64 (long_at fields 0)) _ 3 s spelt)

trap_kind : (k : ℕ) → is_trap_kind_wrong k ≡ false → IsTrapKind k
trap_kind k e =
    elim (or_cases (leb k 3 || eqb k 5) (eqb k 7) (not-false _ e)) [
      | inl r ↦ elim (or_cases (leb k 3) (eqb k 5) r) [ inl a ↦ inl (leb-true k 3 a) | inr a ↦ inr (inl (eqb-true k 5 a)) ]
      | inr r ↦ inr (inr (eqb-true k 7 r))
    ]

trap_next : (v : Version) (least : ℕ) (left : List (List ℕ)) (rest : List ℕ) → IsSound v least left rest 6
    → IsNext v least left rest (End (Trap (step_of v rest) (word_at (fields_of v rest) 0) (word_at (fields_of v rest) 4))) (drop (fixed_length v 6) rest)
trap_next v least left rest s =
    let fields = fields_of v rest in
    let f = are_fields v least left rest 6 s in
    let kind = word32 (word_at fields 0) in
    let pc = word32 (word_at fields 4) in
    let second : drop 4 fields ≡ pc ++ drop (fixed_length v 6) rest = then_word fields 4 _ f.are_bytes (omega (arith, f.whole)) f.past in
    let spelt : fields ≡ kind ++ pc ++ drop (fixed_length v 6) rest = then_word fields 0 _ f.are_bytes (omega (arith, f.whole)) second in
    let parts : rest ≡ 6 ∷ (step_text v (step_of v rest) ++ (kind ++ pc) ++ drop (fixed_length v 6) rest) = spelt_with v least left rest (kind ++ pc) _ 6 s spelt in
    next_of v least left rest 6 _ _ s refl (omega (arith, s.known.below), trap_kind (word_at fields 0) s.known.outcome, word_below fields 4 f.are_bytes) s.known.bytes
    (parts ∙ ap (λ (x : List ℕ). 6 ∷ (x ++ drop (fixed_length v 6) rest)) (sym (append_assoc (step_text v (step_of v rest)) kind pc)))

-- ---- reads and writes

transferred : (fields bytes : List ℕ) → IsBytes fields → IsBytes bytes → length bytes ≡ moved fields → IsTransfer (arguments_of fields) (result_of fields) bytes
transferred fields bytes fits bytes_fit size = record {
  three = refl;
  words = (word_below fields 0 fits, (word_below fields 4 fits, (word_below fields 8 fits, tt)));
  fits = fits_of (word_at fields 12) (word_below fields 12 fits);
  whole = size ∙ sym (moved_of (word_at fields 12) (word_below fields 12 fits));
  are_bytes = bytes_fit;
}

-- the fields of a read or a write
transfer_spelt : (fields tail : List ℕ) → IsBytes fields → 16 ≤ length fields → drop 16 fields ≡ tail
    → fields ≡ flat_map word32 (arguments_of fields) ++ (signed32 (result_of fields) ++ tail)
transfer_spelt fields tail fits h parts =
    let back : word32 (word_at fields 12) ++ tail ≡ signed32 (result_of fields) ++ tail = ap (λ (k : ℕ). word32 k ++ tail) (sym (of_z-to_z w32 (word_at fields 12) (word_below fields 12 fits))) in
    then_word fields 0 _ fits (omega arith) (then_word fields 4 _ fits (omega arith) (then_word fields 8 _ fits (omega arith) (then_word fields 12 tail fits (omega arith) parts ∙ back)))

regroup : (t : ℕ) (a b c d after : List ℕ) → t ∷ (a ++ (b ++ (c ++ (d ++ after)))) ≡ t ∷ (a ++ b ++ c ++ d ++ after)
regroup t a b c d after = ap (λ (x : List ℕ). t ∷ x) (simp append_assoc)

-- the data and what is after it
data_spelt : (v : Version) (t : ℕ) (rest : List ℕ) → drop (fixed_length v t) rest ≡ data_of v t rest ++ drop (fixed_length v t + data_length v t rest) rest
data_spelt v t rest = sym (take-append-drop (data_length v t rest) (drop (fixed_length v t) rest)) ∙ ap (λ (x : List ℕ). data_of v t rest ++ x) (drop-drop (data_length v t rest) (fixed_length v t) rest)

length-data_of : (v : Version) (t : ℕ) (rest : List ℕ) → fixed_length v t + data_length v t rest ≤ length rest → length (data_of v t rest) ≡ data_length v t rest
length-data_of v t rest whole = omega (arith, length-take (data_length v t rest) (drop (fixed_length v t) rest), length-drop (fixed_length v t) rest)

-- all bytes that channels have left are bytes
abbrev pub AreAllBytes : List (List ℕ) → Type 0
AreAllBytes left = (c : ℕ) → IsBytes (get_or left c [])

-- of a read in either version: its bytes, which follow or are the front of its channel
record IsReadOf (v : Version) (left : List (List ℕ)) (rest after : List ℕ) : Type 0 where
  are_bytes : IsBytes (read_bytes v left rest)
  size : length (read_bytes v left rest) ≡ moved (fields_of v rest)
  front : IsFront v (read_bytes v left rest) (left_on left (fields_of v rest))
  parts : drop (fixed_length v 1) rest ≡ read_text v (read_bytes v left rest) ++ after

and_false : (x : Bool) → (x || false) ≡ false → x ≡ false
and_false true h = absurd cc
and_false false h = refl

read_of : (v : Version) (least : ℕ) (left : List (List ℕ)) (rest : List ℕ) → IsSound v least left rest 1 → AreAllBytes left → IsReadOf v left rest (drop (fixed_length v 1 + data_length v 1 rest) rest)
read_of One least left rest s fits = record {
  are_bytes = IsBytes-take _ _ (IsBytes-drop (fixed_length One 1) rest s.are_bytes);
  size = length-data_of One 1 rest s.known.whole;
  front = tt;
  parts = data_spelt One 1 rest;
}
read_of Two least left rest s fits =
    let fields = fields_of Two rest in
    let channel = left_on left fields in
    let enough : moved fields ≤ length channel = ltb-false (length channel) (moved fields) (and_false _ s.known.bytes) in
    let bytes = take (moved fields) channel in
    let size : length bytes ≡ moved fields = omega (arith, length-take (moved fields) channel) in
    record {
      are_bytes = IsBytes-take _ _ (fits (word_at fields 0));
      size = size;
      front = sym (take-append-drop (moved fields) channel) ∙ ap (λ (n : ℕ). bytes ++ drop n channel) (sym size);
      parts = refl;
    }

read_next : (v : Version) (least : ℕ) (left : List (List ℕ)) (rest : List ℕ) → AreAllBytes left → IsSound v least left rest 1
    → IsNext v least left rest (Call (Read (step_of v rest) (arguments_of (fields_of v rest)) (result_of (fields_of v rest)) (read_bytes v left rest))) (drop (fixed_length v 1 + data_length v 1 rest) rest)
read_next v least left rest fits s =
    let fields = fields_of v rest in
    let f = are_fields v least left rest 1 s in
    let r = read_of v least left rest s fits in
    let wrong = is_read_result_wrong (word_at fields 8) (word_at fields 12) in
    let spelt = transfer_spelt fields _ f.are_bytes (omega (arith, f.whole)) (f.past ∙ r.parts) in
    let result = read_result_of (word_at fields 8) (word_at fields 12) (word_below fields 12 f.are_bytes) (or_parts wrong false (or_parts (wrong || false) false s.known.outcome).0).0 in
    next_of v least left rest 1 _ _ s refl (s.known.below, transferred fields _ f.are_bytes r.are_bytes r.size, result) r.front
    (tag_spelt v least left rest _ 1 s spelt ∙ regroup 1 (step_text v (step_of v rest)) (flat_map word32 (arguments_of fields)) (signed32 (result_of fields)) (read_text v (read_bytes v left rest)) (drop (fixed_length v 1 + data_length v 1 rest) rest))

write_next : (v : Version) (least : ℕ) (left : List (List ℕ)) (rest : List ℕ) → IsSound v least left rest 2
    → IsNext v least left rest (Call (Write (step_of v rest) (arguments_of (fields_of v rest)) (result_of (fields_of v rest)) (data_of v 2 rest))) (drop (fixed_length v 2 + data_length v 2 rest) rest)
write_next v least left rest s =
    let fields = fields_of v rest in
    let f = are_fields v least left rest 2 s in
    let wrong = is_write_result_wrong (word_at fields 8) (word_at fields 12) in
    let are_data : IsBytes (data_of v 2 rest) = IsBytes-take _ _ (IsBytes-drop (fixed_length v 2) rest s.are_bytes) in
    let spelt = transfer_spelt fields _ f.are_bytes (omega (arith, f.whole)) (f.past ∙ data_spelt v 2 rest) in
    let result = write_result_of (word_at fields 8) (word_at fields 12) (word_below fields 12 f.are_bytes) (or_parts wrong false s.known.outcome).0 in
    next_of v least left rest 2 _ _ s refl (s.known.below, transferred fields _ f.are_bytes are_data (length-data_of v 2 rest s.known.whole), result) tt
    (tag_spelt v least left rest _ 2 s spelt ∙ regroup 2 (step_text v (step_of v rest)) (flat_map word32 (arguments_of fields)) (signed32 (result_of fields)) (data_of v 2 rest) (drop (fixed_length v 2 + data_length v 2 rest) rest))

-- ---- each tag

-- a record without data ends with its fields
no_data : (v : Version) (least : ℕ) (left : List (List ℕ)) (rest : List ℕ) (item : Item) (n : ℕ) → IsNext v least left rest item (drop n rest) → IsNext v least left rest item (drop (n + 0) rest)
no_data v least left rest item n next = let same : n ≡ n + 0 = omega arith in subst (λ (k : ℕ). IsNext v least left rest item (drop k rest)) same next

pub item_next : (v : Version) (least : ℕ) (left : List (List ℕ)) (rest : List ℕ) → IsBytes rest → AreAllBytes left → record_fault v least left rest ≡ None
    → IsNext v least left rest (item_of v left rest) (drop (item_length v rest) rest)
item_next v least left rest fits left_fits none =
    by (tag_of rest) known.low known.high record { are_bytes = fits; known = known }
  where
    known : IsKnown v least left rest (tag_of rest)
    known = no_fault v least left rest none

    by : (t : ℕ) → 1 ≤ t → t ≤ 7 → IsSound v least left rest t → IsNext v least left rest (item_of v left rest) (drop (item_length v rest) rest)
    by (suc zero) low high s = rw s.known.tag (read_next v least left rest left_fits s)
    by (suc (suc zero)) low high s = rw s.known.tag (write_next v least left rest s)
    by (suc (suc (suc zero))) low high s = rw s.known.tag (no_data v least left rest _ (fixed_length v 3) (clock_next v least left rest s))
    by (suc (suc (suc (suc zero)))) low high s = rw s.known.tag (no_data v least left rest _ (fixed_length v 4) (other_next v least left rest s))
    by (suc (suc (suc (suc (suc zero))))) low high s = rw s.known.tag (no_data v least left rest _ (fixed_length v 5) (exit_next v least left rest s))
    by (suc (suc (suc (suc (suc (suc zero)))))) low high s = rw s.known.tag (no_data v least left rest _ (fixed_length v 6) (trap_next v least left rest s))
    by (suc (suc (suc (suc (suc (suc (suc zero))))))) low high s = rw s.known.tag (no_data v least left rest _ (fixed_length v 7) (limit_next v least left rest s))
    by t low high s = absurd (omega arith)
