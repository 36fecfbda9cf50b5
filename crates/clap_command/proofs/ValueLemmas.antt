-- The values of an argument, as `clap` gives them.
use Rattle.std.proofs.Common.{◌≡◌, ◌<◌, ◌^◌, ap, sym, refl, arith, ℕ, List, [], ◌∷◌, map, Option, Some, None, Result, Ok, Err, unwrap_or, option_map, IfSome}
use Rattle.std.specs.List.{All}
use Rattle.std.proofs.lemmas.List.Elements.{All-nil, All-cons, All-head, All-tail}
use Rattle.std.specs.Str.Parse.{ParsesUnsigned, digits_value, without_leading_plus}
use Rattle.clap.specs.Words.{IsUnsignedIn, ReadsOne, Text, first_value, rows_of}
use Rattle.clap.specs.declared.parser.matches.Found.{Found}
use Rattle.clap.proofs.WalkLemmas.{first_value-rows}
use Rattle.clap_command.specs.Values.{value_of, number_in}

pub first_value-is_value : (id : Text) (f : Found) → value_of id (rows_of f) ≡ unwrap_or (first_value f id) []
first_value-is_value id f = ap (λ o. unwrap_or o []) (sym (first_value-rows f id))

-- a numeral of a type of so many bits, which may not be given, is read as its number
pub optional_number_read : (bits most : ℕ) → most < 2 ^ bits → (E : Type 0) (G : Text → Result ℕ E → Type 0) (numeral : Option Text) (read : Option ℕ)
    → IfSome numeral (IsUnsignedIn 0 most)
    → (numeral ≡ None → read ≡ None)
    → ((t : Text) → numeral ≡ Some t → ReadsOne G t read)
    → ((t : Text) (x : Result ℕ E) → G t x → ParsesUnsigned bits 10 t x)
    → read ≡ option_map number_in numeral
optional_number_read bits most small E G None read is none reads parses = none refl
optional_number_read bits most small E G (Some t) (Some n) is none reads parses = ap Some (parses t (Ok n) (reads t refl)).1
optional_number_read bits most small E G (Some t) None is none reads parses =
    let failed = reads t refl in absurd (parses t (Err failed.0) failed.1 (is.0, omega (arith, small, is.3)))

-- the same of one that is given
pub number_read : (bits most : ℕ) → most < 2 ^ bits → (E : Type 0) (G : Text → Result ℕ E → Type 0) (numeral : Option Text) (read : Option ℕ)
    → IsUnsignedIn 0 most (unwrap_or numeral [])
    → ((t : Text) → numeral ≡ Some t → ReadsOne G t read)
    → ((t : Text) (x : Result ℕ E) → G t x → ParsesUnsigned bits 10 t x)
    → unwrap_or read 0 ≡ digits_value 10 (without_leading_plus (unwrap_or numeral []))
number_read bits most small E G None read is reads parses = absurd (omega (arith, is.0.0))
number_read bits most small E G (Some t) read is reads parses = ap (λ n. unwrap_or n 0) (optional_number_read bits most small E G (Some t) read is (λ e. cc) reads parses)

-- what holds of the values holds of the elements that have them
pub All-from_map : {X Y : Type 0} (P : X → Type 0) (f : Y → X) (ys : List Y) → All P (map f ys) → All (λ y. P (f y)) ys
All-from_map P f [] h = All-nil (λ y. P (f y))
All-from_map P f (y ∷ ys) h = All-cons (λ y. P (f y)) y ys (All-head P (f y) (map f ys) h) (All-from_map P f ys (All-tail P (f y) (map f ys) h))
