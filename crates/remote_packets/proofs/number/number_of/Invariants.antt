use Rattle.std.proofs.Common.{◌≡◌, ◌<◌, ◌^◌, drop}
use Rattle.std.specs.List.{list_all}
use Rattle.std.specs.Str.Parse.{digits_value, digits_value_after}
use Rattle.remote_packets.specs.Numbers.{is_hex_digit}
use Rattle.remote_packets.proofs.number.number_of.Given as goal

-- what is left has the value and the digits of the whole
abbrev pub invariant-loop-digit : goal.invariant-loop-digit
invariant-loop-digit l = record {
  same : digits_value_after 16 l.value (drop l.digit-index l.digits) ≡ digits_value 16 l.digits;
  digits : list_all is_hex_digit (drop l.digit-index l.digits) ≡ list_all is_hex_digit l.digits;
  fits : l.value < 16 ^ l.digit-index;
}
