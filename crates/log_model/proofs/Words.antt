-- Bytes, and the numbers of four and of eight bytes within them. Crates above cite these lemmas.
use Rattle.std.proofs.Common.{◌≡◌, ℕ, zero, suc, ◌+◌, ◌^◌, ◌<◌, ◌≤◌, List, [], ◌∷◌, ◌++◌, length, get_or, take, drop, refl, sym, ap, ◌∙◌, arith}
use Rattle.std.proofs.lemmas.List.{take-append-drop, drop-drop, drop_more, length-take, length-drop}
use Rattle.std.proofs.lemmas.Nat.{le_bytes_4, le_bytes_8, from_le_bytes-to_le_bytes_4, from_le_bytes-to_le_bytes_8}
use Rattle.lists.specs.Fields.{word_at}
use Rattle.lists.proofs.Numbers.{get_or-below}
use Rattle.log_model.specs.declared.Version.{Version}
use Rattle.log_model.specs.declared.Version.TheVariants.{One, Two}
use Rattle.log_model.specs.Logs.{word32, word64, step_text, IsBytes}
use Rattle.log_model.specs.Faults.{long_at, step_length, step_of, fields_of, step_end}

pub byte_below : (bytes : List ℕ) → IsBytes bytes → (i : ℕ) → get_or bytes i 0 < 256
byte_below bytes h = get_or-below 256 bytes (omega arith) h

pub IsBytes-each : (bytes : List ℕ) → ((i : ℕ) → get_or bytes i 0 < 256) → IsBytes bytes
IsBytes-each [] h = tt
IsBytes-each (b ∷ bytes) h = (h 0, IsBytes-each bytes (λ i. h (suc i)))

pub IsBytes-drop : (n : ℕ) (bytes : List ℕ) → IsBytes bytes → IsBytes (drop n bytes)
IsBytes-drop zero bytes h = h
IsBytes-drop (suc n) [] h = tt
IsBytes-drop (suc n) (b ∷ bytes) h = IsBytes-drop n bytes h.1

pub IsBytes-take : (n : ℕ) (bytes : List ℕ) → IsBytes bytes → IsBytes (take n bytes)
IsBytes-take zero bytes h = tt
IsBytes-take (suc n) [] h = tt
IsBytes-take (suc n) (b ∷ bytes) h = (h.0, IsBytes-take n bytes h.1)

taken : (n i : ℕ) (bytes : List ℕ) → i + n ≤ length bytes → length (take n (drop i bytes)) ≡ n
taken n i bytes h = omega (arith, length-take n (drop i bytes), length-drop i bytes)

split : (n i : ℕ) (bytes text : List ℕ) → text ≡ take n (drop i bytes) → drop i bytes ≡ text ++ drop (i + n) bytes
split n i bytes text e = sym (take-append-drop n (drop i bytes)) ∙ ap (λ (x : List ℕ). x ++ drop n (drop i bytes)) (sym e) ∙ ap (λ (x : List ℕ). text ++ x) (drop-drop n i bytes)

pub word_spelt : (bytes : List ℕ) (i : ℕ) → IsBytes bytes → i + 4 ≤ length bytes → drop i bytes ≡ word32 (word_at bytes i) ++ drop (i + 4) bytes
word_spelt bytes i fits h =
    let four = take 4 (drop i bytes) in
    split 4 i bytes (word32 (word_at bytes i)) (le_bytes_4 four (word_at bytes i) (taken 4 i bytes h) (byte_below four (IsBytes-take 4 (drop i bytes) (IsBytes-drop i bytes fits))) refl)

pub long_spelt : (bytes : List ℕ) (i : ℕ) → IsBytes bytes → i + 8 ≤ length bytes → drop i bytes ≡ word64 (long_at bytes i) ++ drop (i + 8) bytes
long_spelt bytes i fits h =
    let eight = take 8 (drop i bytes) in
    split 8 i bytes (word64 (long_at bytes i)) (le_bytes_8 eight (long_at bytes i) (taken 8 i bytes h) (byte_below eight (IsBytes-take 8 (drop i bytes) (IsBytes-drop i bytes fits))) refl)

pub word_below : (bytes : List ℕ) (i : ℕ) → IsBytes bytes → word_at bytes i < 2 ^ 32
word_below bytes i fits =
    let h = byte_below _ (IsBytes-take 4 (drop i bytes) (IsBytes-drop i bytes fits)) in
    omega (arith, h 0, h 1, h 2, h 3)

pub long_below : (bytes : List ℕ) (i : ℕ) → IsBytes bytes → long_at bytes i < 2 ^ 64
long_below bytes i fits =
    let h = byte_below _ (IsBytes-take 8 (drop i bytes) (IsBytes-drop i bytes fits)) in
    omega (arith, h 0, h 1, h 2, h 3, h 4, h 5, h 6, h 7)

pub byte_spelt : (bytes : List ℕ) → 0 < length bytes → bytes ≡ get_or bytes 0 0 ∷ drop 1 bytes
byte_spelt bytes h = drop_more bytes 0 0 h

-- ---- step numbers, in four or in eight bytes

pub step_again : (v : Version) (t at : ℕ) (after : List ℕ) → at < step_end v → step_of v (t ∷ (step_text v at ++ after)) ≡ at
step_again One t at after h = from_le_bytes-to_le_bytes_4 at h
step_again Two t at after h = from_le_bytes-to_le_bytes_8 at h

pub fields_again : (v : Version) (t at : ℕ) (after : List ℕ) → fields_of v (t ∷ (step_text v at ++ after)) ≡ after
fields_again One t at after = refl
fields_again Two t at after = refl

pub length-step_text : (v : Version) (at : ℕ) → length (step_text v at) ≡ step_length v
length-step_text One at = refl
length-step_text Two at = refl

pub step_spelt : (v : Version) (bytes : List ℕ) → IsBytes bytes → 1 + step_length v ≤ length bytes → drop 1 bytes ≡ step_text v (step_of v bytes) ++ fields_of v bytes
step_spelt One bytes fits h = word_spelt bytes 1 fits h
step_spelt Two bytes fits h = long_spelt bytes 1 fits h

pub step_below : (v : Version) (bytes : List ℕ) → IsBytes bytes → step_of v bytes < step_end v
step_below One bytes fits = word_below bytes 1 fits
step_below Two bytes fits = long_below bytes 1 fits
