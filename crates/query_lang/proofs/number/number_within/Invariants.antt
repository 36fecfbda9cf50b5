use Rattle.std.proofs.Common.{◌≡◌, ◌≤◌, drop}
use Rattle.std.specs.Str.{all_ascii_digits}
use Rattle.std.specs.Str.Parse.{digits_value, digits_value_after}
use Rattle.query_lang.proofs.number.number_within.Given as goal

-- what is left has the value and the digits of the whole
abbrev pub invariant-loop-byte : goal.invariant-loop-byte
invariant-loop-byte l = record {
  same : digits_value_after 10 l.value (drop l.byte-index l.word) ≡ digits_value 10 l.word;
  digits : all_ascii_digits (drop l.byte-index l.word) ≡ all_ascii_digits l.word;
  fits : l.value ≤ l.most;
}
