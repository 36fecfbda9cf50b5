-- The values of a subcommand's arguments, by the rows that `clap` gives of words.
use Rattle.std.specs.Prelude.{ℕ, List, [], map, Option, option_map, unwrap_or}
use Rattle.std.specs.Str.Parse.{digits_value, without_leading_plus}
use Rattle.clap.specs.Words.{Row, Text, all_of, first_of, one_of}

-- the value of an argument. One that is required has a value
abbrev pub value_of : Text → List Row → Text
value_of id rows = unwrap_or (first_of id rows) []

-- the values of an argument, in their order
abbrev pub values_of : Text → List Row → List Text
values_of id rows = unwrap_or (all_of id rows) []

-- the value of an argument that is a number, as `clap` hands it to the reader of numbers
abbrev pub numeral_of : Text → List Row → Text
numeral_of id rows = unwrap_or (one_of id rows) []

-- the number that `clap`'s range of unsigned numbers reads
abbrev pub number_in : Text → ℕ
number_in numeral = digits_value 10 (without_leading_plus numeral)

abbrev pub number_of : Text → List Row → ℕ
number_of id rows = number_in (numeral_of id rows)

-- the number of an option, where it was given
abbrev pub optional_number_of : Text → List Row → Option ℕ
optional_number_of id rows = option_map number_in (one_of id rows)

-- the numbers of an argument that is a list of them, in their order
abbrev pub numbers_of : Text → List Row → List ℕ
numbers_of id rows = map number_in (values_of id rows)
