use Rattle.std.proofs.Common.{◌≡◌, ◌+◌, ◌*◌, ◌≤◌, ◌++◌, length, take}
use Rattle.std.specs.List.{flat_map, range_with_len}
use Rattle.report_model.specs.Text.{source_text}
use Rattle.printed_names.specs.Tens.{with_digit}
use Rattle.printed_names.proofs.row_text.append_with_digits.Given as goal

-- the names with the digits so far
abbrev pub invariant-loop-digit : goal.invariant-loop-digit
invariant-loop-digit l = record {
  long : length l.bytes ≡ 1024;
  few : l.end ≤ l.filled + 16 * l.digit;
  names : take l.end l.bytes ≡ take l.filled l.fn.bytes ++ flat_map (with_digit (source_text l.stem)) (range_with_len 0 l.digit);
}
