-- Numbers and texts in packets (GDB Remote Serial Protocol, GDB manual, appendix E "Remote Protocol", "Overview").
use Rattle.std.specs.Prelude.{ℕ, ◌^◌, ◌-◌, ◌==◌, nat_lt, nat_le, min, Bool, ◌&&◌, if◌then◌else◌, List, [], ◌∷◌, length, take, Option, Some, None, option_map, is_ok}
use Rattle.std.specs.List.{list_all, before_first, after_first}
use Rattle.std.specs.Char.{is_ascii_digit, is_digit}
use Rattle.std.specs.Str.{bytes_eq}
use Rattle.std.specs.Str.Parse.{digits_value, digits_value_after}
use Rattle.hex.specs.Hex.{decode_of}

-- the bytes begin with these
abbrev pub begins : List ℕ → List ℕ → Bool
begins front bytes = bytes_eq (take (length front) bytes) front

-- a hexadecimal digit, in either case
abbrev pub is_hex_digit : ℕ → Bool
is_hex_digit byte = is_digit byte 16

-- a number: one to eight hexadecimal digits
abbrev pub number : List ℕ → Option ℕ
number digits =
    if nat_lt 0 (length digits) && nat_le (length digits) 8 && list_all is_hex_digit digits
    then Some (digits_value 16 digits) else None

abbrev pub both : Option ℕ → Option ℕ → Option (ℕ × ℕ)
both (Some first) (Some second) = Some (first, second)
both (Some first) None = None
both None second = None

abbrev pub is_comma : ℕ → Bool
is_comma byte = byte == 0x2c

-- two numbers, with a comma between them
abbrev pub pair : List ℕ → Option (ℕ × ℕ)
pair text = both (number (before_first is_comma text)) (number (after_first is_comma text))

-- a text in hexadecimal: two digits, in either case, for each byte
abbrev pub is_hex_text : List ℕ → Bool
is_hex_text digits = is_ok (decode_of digits)

-- ---- times

-- the decimal digits that a text in hexadecimal has, where it has no other bytes: each of them is written `3` and
-- itself, as the bytes of `0` to `9` are 0x30 to 0x39
abbrev pub decimal_digits : List ℕ → Option (List ℕ)
decimal_digits [] = Some []
decimal_digits (high ∷ []) = None
decimal_digits (high ∷ low ∷ more) =
    if high == 0x33 && is_ascii_digit low then option_map (λ digits. low ∷ digits) (decimal_digits more) else None

-- the number that decimal digits write when they follow those of n. Past 2^64 - 1 it counts as that
abbrev pub time_after : ℕ → Option (List ℕ) → Option ℕ
time_after n (Some digits) = Some (min (digits_value_after 10 n digits) (2 ^ 64 - 1))
time_after n None = None

-- a time: decimal digits, any number of them but none, as a text in hexadecimal
abbrev pub time : List ℕ → Option ℕ
time text = if length text == 0 then None else time_after 0 (decimal_digits text)
