-- The names of ten source bytes, by the name that they share but for the last digit.
use Rattle.std.proofs.Common.{◌≡◌, ◌∙◌, ap, ap₂, sym, refl, arith, ℕ, zero, suc, ◌+◌, ◌-◌, ◌*◌, ◌/◌, ◌%◌, ◌^◌, ◌<◌, ◌≤◌, List, [], ◌∷◌, ◌++◌, length, take, drop, get_or, slice_set, map, append_assoc}
use Rattle.std.specs.Prelude.{codes}
use Rattle.std.specs.Fmt.{decimal}
use Rattle.std.specs.List.{flat_map, range_with_len}
use Rattle.std.proofs.lemmas.Fmt.{decimal_step}
use Rattle.std.proofs.lemmas.List.{map-id, flat_map_more, length-append, length-drop, length_push, take_more_set, take-take, take_at, set_at, drop_more, length-take-le, take-append-drop}
use Rattle.std.proofs.lemmas.List.FromFn.{map-range_with_len_more}
use borrow.Rule.Slice.PartMut.{put_mid, post_of}
use Rattle.flow_model.specs.declared.SourceByte.{SourceByte}
use Rattle.report_model.specs.Text.{source_text}
use Rattle.printed_names.specs.Tens.{bytes_from, ten_bytes, with_digit}
use Rattle.printed_names.proofs.NextDigit.{regroup}

abbrev pub named : ℕ → ℕ → SourceByte
named channel offset = record { channel = channel; offset = offset }

name_with_digit : (channel tens digit : ℕ) → 0 < tens → digit < 10 → 10 * tens + digit < 2 ^ 64
    → source_text (named channel (10 * tens + digit)) ≡ with_digit (source_text (named channel tens)) digit
name_with_digit channel tens digit some one small =
    let o : ℕ = 10 * tens + digit in
    let front : o / 10 ≡ tens = omega arith in
    let last : o % 10 ≡ digit = omega arith in
    ap (λ (t : List ℕ). codes " " ++ (decimal channel ++ codes ":" ++ t))
    (decimal_step o (omega arith) small ∙ ap₂ (λ (t d : ℕ). decimal t ++ (48 + d) ∷ []) front last)
    ∙ regroup channel (decimal tens) ((48 + digit) ∷ [])

names_with_digits : (channel tens digit n : ℕ) → 0 < tens → digit + n ≤ 10 → 10 * tens + 10 < 2 ^ 64
    → flat_map source_text (map (named channel) (range_with_len (10 * tens + digit) n)) ≡ flat_map (with_digit (source_text (named channel tens))) (range_with_len digit n)
names_with_digits channel tens digit zero some few small = refl
names_with_digits channel tens digit (suc n) some few small =
    let next : 10 * tens + digit + 1 ≡ 10 * tens + (digit + 1) = omega arith in
    ap₂ (λ (xs ys : List ℕ). xs ++ ys) (name_with_digit channel tens digit some (omega arith) (omega arith))
    (ap (λ (o : ℕ). flat_map source_text (map (named channel) (range_with_len o n))) next ∙ names_with_digits channel tens (digit + 1) n some (omega arith) small)

-- all ten
pub ten_names : (tens : SourceByte) → 0 < tens.offset → tens.offset < 2 ^ 32
    → flat_map (with_digit (source_text tens)) (range_with_len 0 10) ≡ flat_map source_text (ten_bytes tens.channel tens.offset)
ten_names tens some small =
    let from : 10 * tens.offset ≡ 10 * tens.offset + 0 = omega arith in
    sym (ap (λ (o : ℕ). flat_map source_text (map (named tens.channel) (range_with_len o 10))) from
    ∙ names_with_digits tens.channel tens.offset 0 10 some (omega arith) (omega (arith, small)))

-- ---- one name after another

pub range_more : (n : ℕ) → range_with_len 0 (n + 1) ≡ range_with_len 0 n ++ n ∷ []
range_more n = sym (map-id (range_with_len 0 (n + 1))) ∙ map-range_with_len_more (λ (x : ℕ). x) 0 n n (omega arith) ∙ ap (λ (xs : List ℕ). xs ++ n ∷ []) (map-id (range_with_len 0 n))

-- sixteen bytes were copied
pub length_copied : (bytes wide : List ℕ) (at k n : ℕ) → length bytes ≡ n → at + 16 ≤ n → k ≡ 16 → length wide ≡ 16 → length (put_mid at k bytes wide) ≡ n
length_copied bytes wide at k n long room sixteen width =
    length-append (take at bytes) (wide ++ post_of at k bytes)
    ∙ ap₂ (λ (n m : ℕ). n + m) (length-take-le at bytes (omega (arith, room, long)))
    (length-append wide (post_of at k bytes) ∙ ap₂ (λ (n m : ℕ). n + m) width (length-drop k (drop at bytes) ∙ ap (λ (n : ℕ). n - k) (length-drop at bytes)))
    ∙ omega (arith, room, sixteen, long)

-- and the first of them count
pub one_name_copied : (bytes wide name : List ℕ) (at k : ℕ) → at ≤ length bytes → take (length name) wide ≡ name
    → take (at + length name) (put_mid at k bytes wide) ≡ take at bytes ++ name
one_name_copied bytes wide name at k room begins =
    let n : ℕ = length name in
    let before : List ℕ = take at bytes in
    let behind : List ℕ = drop n wide ++ post_of at k bytes in
    let parts : put_mid at k bytes wide ≡ (before ++ name) ++ behind =
    ap (λ (w : List ℕ). before ++ (w ++ post_of at k bytes)) (sym (take-append-drop n wide) ∙ ap (λ (xs : List ℕ). xs ++ drop n wide) begins)
    ∙ ap (λ (w : List ℕ). before ++ w) (append_assoc name (drop n wide) (post_of at k bytes))
    ∙ sym (append_assoc before name behind) in
    ap (take (at + n)) parts
    ∙ take_at (before ++ name) behind (at + n) (length-append before name ∙ ap (λ (m : ℕ). m + n) (length-take-le at bytes room))

-- behind its blank a name begins
pub unblanked : (padded name : List ℕ) → take (length (codes " " ++ name)) padded ≡ codes " " ++ name → length name ≤ length padded - 1
    → take (length name) (take (length padded - 1) (drop 1 padded)) ≡ name
unblanked padded name begins short =
    let n : ℕ = length (codes " " ++ name) in
    let parts : padded ≡ (codes " " ++ name) ++ drop n padded = sym (take-append-drop n padded) ∙ ap (λ (xs : List ℕ). xs ++ drop n padded) begins in
    take-take (length name) (length padded - 1) (drop 1 padded) short
    ∙ ap (λ (xs : List ℕ). take (length name) (drop 1 xs)) parts
    ∙ take_at name (drop n padded) (length name) refl

-- the digit behind a name's front is another
pub last_set : (bytes front : List ℕ) (old new n : ℕ) → take n bytes ≡ front ++ old ∷ [] → n ≤ length bytes → take n (slice_set bytes (n - 1) new) ≡ front ++ new ∷ []
last_set bytes front old new n was inside =
    let long : length (take n bytes) ≡ n = length-take-le n bytes inside in
    let some : n ≡ length front + 1 = sym long ∙ ap length was ∙ length_push front old in
    let i : ℕ = n - 1 in
    let next : i + 1 ≡ n = omega (arith, some) in
    let same : i ≡ length front = omega (arith, some) in
    ap (λ (m : ℕ). take m (slice_set bytes i new)) (sym next)
    ∙ take_more_set bytes i new (omega (arith, some, inside))
    ∙ ap (λ (xs : List ℕ). xs ++ new ∷ []) (sym (take-take i n bytes (omega arith)) ∙ ap (take i) was ∙ take_at front (old ∷ []) i (sym same))

-- a text, the names of some source bytes, and that of the next one
pub name_more : (text : List ℕ) (channel from count next : ℕ) → from + count ≡ next
    → (text ++ flat_map source_text (bytes_from channel from count)) ++ source_text (named channel next) ≡ text ++ flat_map source_text (bytes_from channel from (count + 1))
name_more text channel from count next is =
    flat_map_more source_text text (bytes_from channel from count) (named channel next)
    ∙ ap (λ (bytes : List SourceByte). text ++ flat_map source_text bytes) (sym (map-range_with_len_more (named channel) from count next is))

-- a stem was copied with what stands behind it, and then a digit was written behind the stem
pub one_more_name : (bytes wide stem text : List ℕ) (at k digit : ℕ) → at + 16 ≤ length bytes → k ≡ 16 → length wide ≡ 16 → length stem < 16 → take (length stem) wide ≡ stem
    → take at bytes ≡ text ++ flat_map (with_digit stem) (range_with_len 0 digit)
    → take (at + (length stem + 1)) (slice_set (put_mid at k bytes wide) (at + length stem) (48 + digit)) ≡ text ++ flat_map (with_digit stem) (range_with_len 0 (digit + 1))
one_more_name bytes wide stem text at k digit room sixteen width short begins done =
    let n : ℕ = length stem in
    let before : List ℕ = take at bytes in
    let rest : List ℕ = post_of at k bytes in
    let behind : List ℕ = drop (n + 1) wide in
    let old : ℕ = get_or wide n 0 in
    let front : List ℕ = before ++ stem in
    let new : List ℕ = front ++ (48 + digit) ∷ [] in
    let parts : wide ≡ stem ++ old ∷ behind =
    sym (take-append-drop n wide) ∙ ap₂ (λ (xs ys : List ℕ). xs ++ ys) begins (drop_more wide n 0 (omega (arith, width, short))) in
    let copied : put_mid at k bytes wide ≡ front ++ old ∷ (behind ++ rest) =
    ap (λ (w : List ℕ). before ++ (w ++ rest)) parts
    ∙ ap (λ (w : List ℕ). before ++ w) (append_assoc stem (old ∷ behind) rest)
    ∙ sym (append_assoc before stem (old ∷ (behind ++ rest))) in
    let long : length before ≡ at = length-take-le at bytes (omega (arith, room)) in
    let place : length front ≡ at + n = length-append before stem ∙ ap (λ (m : ℕ). m + n) long in
    let written : slice_set (put_mid at k bytes wide) (at + n) (48 + digit) ≡ new ++ (behind ++ rest) =
    ap (λ (bs : List ℕ). slice_set bs (at + n) (48 + digit)) copied
    ∙ set_at front old (behind ++ rest) (48 + digit) (at + n) place
    ∙ sym (append_assoc front ((48 + digit) ∷ []) (behind ++ rest)) in
    let grown : length new ≡ at + (n + 1) = length_push front (48 + digit) ∙ ap (λ (m : ℕ). m + 1) place ∙ omega arith in
    ap (take (at + (n + 1))) written
    ∙ take_at new (behind ++ rest) (at + (n + 1)) grown
    ∙ append_assoc before stem ((48 + digit) ∷ [])
    ∙ ap (λ (bs : List ℕ). bs ++ with_digit stem digit) done
    ∙ flat_map_more (with_digit stem) text (range_with_len 0 digit) digit
    ∙ ap (λ (digits : List ℕ). text ++ flat_map (with_digit stem) digits) (sym (range_more digit))
