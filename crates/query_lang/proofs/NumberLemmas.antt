-- Numbers in words, read digit by digit.
use Rattle.std.proofs.Common.{◌≡◌, ℕ, ◌+◌, ◌*◌, ◌<◌, ◌≤◌, List, [], ◌∷◌, length, drop, get_or, refl, arith, Bool, true, false, cond, nat_lt, nat_le}
use Rattle.std.specs.Prelude.{Some, None, Option, ◌&&◌}
use Rattle.std.specs.Char.{digit_value}
use Rattle.std.specs.Str.{all_ascii_digits}
use Rattle.std.specs.Str.Parse.{digits_value, digits_value_after}
use Rattle.std.proofs.lemmas.List.{at_drop_more}
use Rattle.std.proofs.lemmas.Bool.Decides.{nat_tests}
use Rattle.query_lang.specs.Parts.{is_written_within}

-- more digits make no number less
value-le : (n : ℕ) (ds : List ℕ) → n ≤ digits_value_after 10 n ds
value-le n [] = omega arith
value-le n (d ∷ ds) = omega (arith, value-le (n * 10 + digit_value d) ds)

pub too_large : (word : List ℕ) (i v most : ℕ) → i < length word → digits_value_after 10 v (drop i word) ≡ digits_value 10 word → most < v * 10 + digit_value (get_or word i 0)
    → most < digits_value 10 word
too_large word i v most h same large =
    let step : digits_value_after 10 v (drop i word) ≡ digits_value_after 10 (v * 10 + digit_value (get_or word i 0)) (drop (i + 1) word) = at_drop_more (digits_value_after 10 v) word i 0 h in
    omega (arith, step, value-le (v * 10 + digit_value (get_or word i 0)) (drop (i + 1) word))

abbrev number : ℕ → ℕ → List ℕ → Option ℕ
number digits most word = cond (is_written_within digits most word) (Some (digits_value 10 word)) None

pub no_number : (digits most : ℕ) (word : List ℕ) → most < digits_value 10 word → number digits most word ≡ None
no_number digits most word h = by (nat_lt 0 (length word) && nat_le (length word) digits && all_ascii_digits word) (nat_le (digits_value 10 word) most) test where
  test : nat_le (digits_value 10 word) most ≡ false
  test = grind (arith, nat_tests)

  by : (a b : Bool) → b ≡ false → cond (a && b) (Some (digits_value 10 word)) None ≡ None
  by true b e = rw e refl
  by false b e = refl
