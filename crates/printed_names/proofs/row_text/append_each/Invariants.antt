use Rattle.std.proofs.Common.{◌≡◌, ◌+◌, ◌-◌, ◌*◌, ◌≤◌, ◌++◌, take}
use Rattle.std.specs.List.{flat_map}
use Rattle.report_model.specs.Text.{source_text}
use Rattle.printed_names.specs.Tens.{bytes_from}
use Rattle.printed_names.proofs.row_text.append_each.Given as goal

-- the names so far
abbrev pub invariant-loop-offset : goal.invariant-loop-offset
invariant-loop-offset l = record {
  low : l.from ≤ l.offset;
  high : l.offset ≤ l.past;
  few : l.end ≤ l.filled + 15 * (l.offset - l.from);
  names : take l.end l.bytes ≡ take l.filled l.fn.bytes ++ flat_map source_text (bytes_from l.channel l.from (l.offset - l.from));
}
