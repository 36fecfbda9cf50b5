-- Results as numbers of 32 bits, and as signed numbers.
use Rattle.std.proofs.Common.{◌≡◌, ℕ, ◌-◌, ◌^◌, ◌<◌, ◌≤◌, ◌⊎◌, true, false, ◌&&◌, ◌||◌, eqb, ltb, leb, ℤ, pos, negsuc, ◌≤ℤ◌, ◌<ℤ◌, refl, ap, ◌∙◌, arith, inl, inr}
use Rattle.std.specs.Prelude.{nat_lt, if◌then◌else◌}
use Rattle.std.specs.Int.{w32, cast_signed, cast_unsigned}
use Rattle.std.proofs.lemmas.Bool.{cases_lt, ltb-true, lt-ltb, le-ltb, eq-eqb, le-leb, leb-true, eqb-true, or_cases, or_left, or_right, and_from, and_parts, not-false, not_from_true}
use Rattle.std.proofs.lemmas.Int.{ints}
use Rattle.log_model.specs.Logs.{IsRefusal, IsTrapKind, moved_length}
use Rattle.log_model.specs.Faults.{is_refusal, is_read_result_wrong, is_write_result_wrong, is_trap_kind_wrong}

-- ---- from the word to the signed number

pub refusal_of : (w : ℕ) → is_refusal w ≡ true → IsRefusal (cast_signed w32 w)
refusal_of w h =
    elim (or_cases (eqb w (2 ^ 32 - 9)) (eqb w (2 ^ 32 - 14)) h) [
      | inl e ↦ inl (ap (cast_signed w32) (eqb-true w (2 ^ 32 - 9) e))
      | inr e ↦ inr (ap (cast_signed w32) (eqb-true w (2 ^ 32 - 14) e))
    ]

pub moved_of : (w : ℕ) → w < 2 ^ 32 → moved_length (cast_signed w32 w) ≡ (if nat_lt w (2 ^ 31) then w else 0)
moved_of w h =
    elim (cases_lt w (2 ^ 31)) [
      | inl lt ↦ rw (lt-ltb w (2 ^ 31) lt) refl
      | inr le ↦ rw (le-ltb w (2 ^ 31) le) refl
    ]

pub fits_of : (w : ℕ) → w < 2 ^ 32 → cast_signed w32 w <ℤ pos (2 ^ 31)
fits_of w h = omega (arith, ints)

-- a result that isn't refused is that number
pub natural_of : (w : ℕ) → w < 2 ^ 31 → cast_signed w32 w ≡ pos w
natural_of w h = omega (arith, ints)

pub read_result_of : (requested w : ℕ) → w < 2 ^ 32 → is_read_result_wrong requested w ≡ false → IsRefusal (cast_signed w32 w) ⊎ ((pos 0 ≤ℤ cast_signed w32 w) × (cast_signed w32 w ≤ℤ pos requested))
read_result_of requested w h e =
    elim (or_cases (is_refusal w) (leb w requested && ltb w (2 ^ 31)) (not-false _ e)) [
      | inl r ↦ inl (refusal_of w r)
      | inr r ↦
          let p = and_parts (leb w requested) (ltb w (2 ^ 31)) r in
          let below = ltb-true w (2 ^ 31) p.1 in
          let most = leb-true w requested p.0 in
          inr (omega (arith, ints), omega (arith, ints))
    ]

pub write_result_of : (requested w : ℕ) → w < 2 ^ 32 → is_write_result_wrong requested w ≡ false → IsRefusal (cast_signed w32 w) ⊎ (cast_signed w32 w ≡ pos requested)
write_result_of requested w h e =
    elim (or_cases (is_refusal w) (eqb w requested && ltb w (2 ^ 31)) (not-false _ e)) [
      | inl r ↦ inl (refusal_of w r)
      | inr r ↦
          let p = and_parts (eqb w requested) (ltb w (2 ^ 31)) r in
          inr (natural_of w (ltb-true w (2 ^ 31) p.1) ∙ ap pos (eqb-true w requested p.0))
    ]

-- ---- from the signed number to the word

-- a refusal, or a number of bytes
abbrev pub IsOutcome : ℤ → Type 0
IsOutcome z = IsRefusal z ⊎ (pos 0 ≤ℤ z)

pub word_of_below : (z : ℤ) → z <ℤ pos (2 ^ 31) → cast_unsigned w32 z < 2 ^ 32
word_of_below (pos n) h = omega (arith, ints)
word_of_below (negsuc n) h = omega (arith, ints)

pub word_of_moved : (z : ℤ) → z <ℤ pos (2 ^ 31) → IsOutcome z → (if nat_lt (cast_unsigned w32 z) (2 ^ 31) then cast_unsigned w32 z else 0) ≡ moved_length z
word_of_moved z h (inl (inl e)) = rw e refl
word_of_moved z h (inl (inr e)) = rw e refl
word_of_moved (pos n) h (inr p) = let below : n < 2 ^ 31 = omega (arith, ints) in rw (lt-ltb n (2 ^ 31) below) refl
word_of_moved (negsuc n) h (inr p) = absurd (omega (arith, ints))

pub cast_again : (z : ℤ) → z <ℤ pos (2 ^ 31) → IsOutcome z → cast_signed w32 (cast_unsigned w32 z) ≡ z
cast_again z h (inl (inl e)) = rw e refl
cast_again z h (inl (inr e)) = rw e refl
cast_again (pos n) h (inr p) = omega (arith, ints)
cast_again (negsuc n) h (inr p) = absurd (omega (arith, ints))

pub read_is_right : (requested : ℕ) (z : ℤ) → z <ℤ pos (2 ^ 31) → IsRefusal z ⊎ ((pos 0 ≤ℤ z) × (z ≤ℤ pos requested)) → is_read_result_wrong requested (cast_unsigned w32 z) ≡ false
read_is_right requested z h (inl (inl e)) = rw e refl
read_is_right requested z h (inl (inr e)) = rw e refl
read_is_right requested (pos n) h (inr p) =
    let most : n ≤ requested = omega (arith, ints, p.1) in
    let below : n < 2 ^ 31 = omega (arith, ints) in
    not_from_true _ (or_right (is_refusal n) (leb n requested && ltb n (2 ^ 31)) (and_from _ _ (le-leb n requested most) (lt-ltb n (2 ^ 31) below)))
read_is_right requested (negsuc n) h (inr p) = absurd (omega (arith, ints, p.0))

pub write_is_right : (requested : ℕ) (z : ℤ) → z <ℤ pos (2 ^ 31) → IsRefusal z ⊎ (z ≡ pos requested) → is_write_result_wrong requested (cast_unsigned w32 z) ≡ false
write_is_right requested z h (inl (inl e)) = rw e refl
write_is_right requested z h (inl (inr e)) = rw e refl
write_is_right requested (pos n) h (inr p) =
    let same : n ≡ requested = omega (arith, ints, p) in
    let below : n < 2 ^ 31 = omega (arith, ints) in
    not_from_true _ (or_right (is_refusal n) (eqb n requested && ltb n (2 ^ 31)) (and_from _ _ (eq-eqb n requested same) (lt-ltb n (2 ^ 31) below)))
write_is_right requested (negsuc n) h (inr p) = absurd (omega (arith, ints, p))

pub kind_is_right : (k : ℕ) → IsTrapKind k → is_trap_kind_wrong k ≡ false
kind_is_right k (inl h) = not_from_true _ (or_left (leb k 3 || eqb k 5) (eqb k 7) (or_left (leb k 3) (eqb k 5) (le-leb k 3 h)))
kind_is_right k (inr (inl e)) = rw e refl
kind_is_right k (inr (inr e)) = rw e refl
