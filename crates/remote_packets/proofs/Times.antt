-- Decimal digits as a text in hexadecimal, one by one.
use Rattle.std.proofs.Common.{◌≡◌, ℕ, ◌+◌, ◌*◌, ◌-◌, ◌^◌, ◌<◌, ◌≤◌, ◌⊎◌, inl, inr, List, [], ◌∷◌, length, get_or, take, drop, refl, ap, sym, ◌∙◌, arith, Bool, true, false}
use Rattle.std.specs.Prelude.{◌==◌, ◌&&◌, min, Option, Some, None, option_map}
use Rattle.std.specs.Char.{digit_value, is_ascii_digit}
use Rattle.std.specs.Str.Parse.{digits_value_after}
use Rattle.std.proofs.lemmas.Bool.{cases_lt}
use Rattle.std.proofs.lemmas.Bool.Decides.{nat_tests}
use Rattle.std.proofs.Math.Seq.{take-length}
use Rattle.remote_packets.specs.Numbers.{decimal_digits, time_after}

-- more digits make no number less
value-le : (n : ℕ) (digits : List ℕ) → n ≤ digits_value_after 10 n digits
value-le n [] = omega arith
value-le n (digit ∷ digits) = omega (arith, value-le (n * 10 + digit_value digit) digits)

-- the number with more digits, which counts as the most at most
abbrev within : ℕ → List ℕ → ℕ → ℕ
within most digits n = min (digits_value_after 10 n digits) most

-- a number that counts as the most does so with more digits too
capped : (most n : ℕ) (digits : List ℕ) → within most digits (min n most) ≡ within most digits n
capped most n digits = by (cases_lt most n) where
  by : (most < n) ⊎ (n ≤ most) → within most digits (min n most) ≡ within most digits n
  by (inl above) =
      let e : min n most ≡ most = omega arith in
      rw e (omega (arith, value-le most digits, value-le n digits))
  by (inr fits) = let e : min n most ≡ n = omega arith in rw e refl

digit : (low : ℕ) → is_ascii_digit low ≡ true → digit_value low ≡ low - 48
digit low is = grind (arith, nat_tests)

-- a number with one digit more
abbrev pub with_digit : ℕ → ℕ → ℕ
with_digit n low = min (min (n * 10) (2 ^ 64 - 1) + (low - 48)) (2 ^ 64 - 1)

next : (n low : ℕ) (digits : Option (List ℕ)) → is_ascii_digit low ≡ true
    → time_after n (option_map (λ more. low ∷ more) digits) ≡ time_after (with_digit n low) digits
next n low None is = refl
next n low (Some digits) is =
    let value = digit low is in
    let most : ℕ = 2 ^ 64 - 1 in
    let same : with_digit n low ≡ min (n * 10 + digit_value low) most = omega (arith, value) in
    ap Some (sym (ap (within most digits) same ∙ capped most (n * 10 + digit_value low) digits))

-- what is behind the first two bytes
abbrev pub behind : List ℕ → List ℕ
behind rest = take (length rest - 2) (drop 2 rest)

pub digit_read : (rest : List ℕ) (n : ℕ) → 2 ≤ length rest → get_or rest 0 0 ≡ 0x33
    → is_ascii_digit (get_or rest 1 0) ≡ true
    → time_after (with_digit n (get_or rest 1 0)) (decimal_digits (behind rest)) ≡ time_after n (decimal_digits rest)
digit_read [] n long three is = absurd (omega arith)
digit_read (high ∷ []) n long three is = absurd (omega arith)
digit_read (high ∷ low ∷ more) n long three is =
    let e : length (high ∷ low ∷ more) - 2 ≡ length more = omega arith in
    let first : (high == 0x33) ≡ true = grind (arith, nat_tests) in
    rw (e, take-length more, first, is) (sym (next n low (decimal_digits more) is))

pub all_read : (rest : List ℕ) (n : ℕ) → n < 2 ^ 64 → length rest ≡ 0 → time_after n (decimal_digits rest) ≡ Some n
all_read [] n small none = let e : min n (2 ^ 64 - 1) ≡ n = omega arith in ap Some e
all_read (high ∷ rest) n small none = absurd (omega arith)
