-- Texts in hexadecimal.
use Rattle.std.proofs.Common.{◌≡◌, ℕ, ◌%◌, ◌⊎◌, inl, inr, List, length, refl, sym, Bool, true, false}
use Rattle.std.specs.Prelude.{Result, Ok, Err, is_ok}
use Rattle.std.specs.List.{list_all}
use Rattle.std.proofs.lemmas.Bool.{cases_Bool, both_ways, false_from_ne_true}
use Rattle.std.proofs.lemmas.List.Sums.{AllPass-from_list_all, list_all-from_AllPass}
use Rattle.hex.specs.Hex.{decode_of, is_hex_digit}
use Rattle.hex.specs.declared.error.FromHexError.{FromHexError}
use Rattle.hex.proofs.HexLemmas.{decode_of-ok, decode_of-digits}

value : (read : Result (List ℕ) FromHexError) → is_ok read ≡ true → (bytes : List ℕ) × (read ≡ Ok bytes)
value (Ok bytes) is = (bytes, refl)
value (Err fault) is = cc is

-- an even number of bytes is a text in hexadecimal where each is a digit
pub even_hex : (digits : List ℕ) → length digits % 2 ≡ 0 → list_all is_hex_digit digits ≡ is_ok (decode_of digits)
even_hex digits even = by (cases_Bool (list_all is_hex_digit digits)) where
  each : is_ok (decode_of digits) ≡ true → list_all is_hex_digit digits ≡ true
  each is =
      let read = value (decode_of digits) is in
      list_all-from_AllPass is_hex_digit digits (decode_of-ok digits read.0 read.1).1

  by : (list_all is_hex_digit digits ≡ true) ⊎ (list_all is_hex_digit digits ≡ false)
      → list_all is_hex_digit digits ≡ is_ok (decode_of digits)
  by (inl all) =
      let read = decode_of-digits digits even (AllPass-from_list_all is_hex_digit digits all) in
      rw (all, read.1) refl
  by (inr other) =
      let lacks : is_ok (decode_of digits) ≡ true → ⊥ = λ is. both_ways (list_all is_hex_digit digits) other (each is) in
      rw (other, false_from_ne_true (is_ok (decode_of digits)) lacks) refl
