-- Decimal digits, one by one.
use Rattle.std.proofs.Common.{◌≡◌, ℕ, ◌+◌, ◌*◌, ◌-◌, ◌^◌, ◌<◌, ◌≤◌, ◌⊎◌, inl, inr, List, [], ◌∷◌, length, get_or, drop, refl, ap, sym, ◌∙◌, arith, true}
use Rattle.std.specs.Prelude.{min}
use Rattle.std.specs.Char.{digit_value, is_ascii_digit}
use Rattle.std.specs.Str.Parse.{digits_value_after}
use Rattle.std.proofs.lemmas.Bool.{cases_lt}
use Rattle.std.proofs.lemmas.Bool.Decides.{nat_tests}
use Rattle.std.proofs.lemmas.List.{at_drop_more}

-- the most that a number counts as
abbrev pub most : ℕ
most = 2 ^ 64 - 1

-- the number that digits write when they follow those of n
abbrev pub within : List ℕ → ℕ → ℕ
within digits n = min (digits_value_after 10 n digits) most

-- more digits make no number less
value-le : (n : ℕ) (digits : List ℕ) → n ≤ digits_value_after 10 n digits
value-le n [] = omega arith
value-le n (digit ∷ digits) = omega (arith, value-le (n * 10 + digit_value digit) digits)

-- a number that counts as the most does so with more digits too
capped : (n : ℕ) (digits : List ℕ) → within digits (min n most) ≡ within digits n
capped n digits = by (cases_lt most n) where
  by : (most < n) ⊎ (n ≤ most) → within digits (min n most) ≡ within digits n
  by (inl above) =
      let e : min n most ≡ most = omega arith in
      rw e (omega (arith, value-le most digits, value-le n digits))
  by (inr fits) = let e : min n most ≡ n = omega arith in rw e refl

digit : (low : ℕ) → is_ascii_digit low ≡ true → digit_value low ≡ low - 48
digit low is = grind (arith, nat_tests)

-- a number with one digit more
abbrev pub with_digit : ℕ → ℕ → ℕ
with_digit n low = min (min (n * 10) most + (low - 48)) most

-- the digit at a place is read
pub digit_read : (digits : List ℕ) (i n : ℕ) → i < length digits → is_ascii_digit (get_or digits i 0) ≡ true
    → within (drop (i + 1) digits) (with_digit n (get_or digits i 0)) ≡ within (drop i digits) n
digit_read digits i n inside is =
    let low = get_or digits i 0 in
    let value = digit low is in
    let same : with_digit n low ≡ min (n * 10 + digit_value low) most = omega (arith, value) in
    ap (within (drop (i + 1) digits)) same ∙ capped (n * 10 + digit_value low) (drop (i + 1) digits)
    ∙ sym (at_drop_more (λ (ds : List ℕ). within ds n) digits i 0 inside)
