-- What the code rests on where it reads a number. No meaning of words rests on it.
use Rattle.std.specs.Prelude.{List, IfSome}
use Rattle.std.specs.List.{All}
use Rattle.clap.specs.Words.{IsUnsignedIn, Row, Text, one_of}
use Rattle.clap_command.specs.Values.{numeral_of, values_of}

-- the value of an argument is a numeral of a `u32`
abbrev pub IsNumber : Text → List Row → Type 0
IsNumber id rows = IsUnsignedIn 0 4294967295 (numeral_of id rows)

-- the value of an argument is a numeral of a `u64`
abbrev pub IsLongNumber : Text → List Row → Type 0
IsLongNumber id rows = IsUnsignedIn 0 18446744073709551615 (numeral_of id rows)

-- the value of an option, where it was given, is a numeral of a `u64`
abbrev pub IsOptionalNumber : Text → List Row → Type 0
IsOptionalNumber id rows = IfSome (one_of id rows) (IsUnsignedIn 0 18446744073709551615)

-- the values of an argument are numerals of a `u64`
abbrev pub AreLongNumbers : Text → List Row → Type 0
AreLongNumbers id rows = All (IsUnsignedIn 0 18446744073709551615) (values_of id rows)
