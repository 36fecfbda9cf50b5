use Rattle.std.proofs.Common.{◌≡◌, ◌-◌, true, map}
use Rattle.std.specs.List.{list_any, range_with_len}
use Rattle.report_model.specs.Query.{has_sink}
use Rattle.run_beginning.specs.Need.{output_byte, output_bytes}
use Rattle.run_beginning.proofs.calls.chooses_some.Given as goal

-- none of the bytes so far is chosen
abbrev pub invariant-loop-i : goal.invariant-loop-i
invariant-loop-i l =
    list_any (has_sink l.query) (output_bytes true l.channel l.from l.count)
    ≡ list_any (has_sink l.query) (map (output_byte l.channel l.from) (range_with_len l.i (l.count - l.i)))
