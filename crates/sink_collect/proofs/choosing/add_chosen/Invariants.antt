use Rattle.std.proofs.Common.{◌≡◌, ◌++◌}
use Rattle.std.specs.List.{filter}
use Rattle.report_model.specs.Query.{has_source}
use Rattle.source_ranges.specs.Ranges.{bytes_of}
use Rattle.source_ranges.proofs.Kept.{range}
use Rattle.sink_collect.proofs.choosing.add_chosen.Given as goal

-- those that were chosen, and those of the offsets that are left
abbrev pub invariant-loop-offset : goal.invariant-loop-offset
invariant-loop-offset l =
    l.chosen ++ filter (has_source l.query) (bytes_of (range l.range.channel l.offset l.range.past))
    ≡ l.fn.chosen ++ filter (has_source l.query) (bytes_of l.range)
