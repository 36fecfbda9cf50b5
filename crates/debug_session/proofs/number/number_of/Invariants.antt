use Rattle.std.proofs.Common.{◌≡◌, ◌<◌, ◌^◌, drop}
use Rattle.std.specs.List.{list_all}
use Rattle.std.specs.Char.{is_ascii_digit}
use Rattle.debug_session.proofs.Numbers.{within}
use Rattle.debug_session.proofs.number.number_of.Given as goal

-- what is left has the value and the digits of the whole
abbrev pub invariant-loop-digit : goal.invariant-loop-digit
invariant-loop-digit l = record {
  same : within (drop l.digit-index l.digits) l.value ≡ within l.digits 0;
  digits : list_all is_ascii_digit (drop l.digit-index l.digits) ≡ list_all is_ascii_digit l.digits;
  fits : l.value < 2 ^ 64;
}
