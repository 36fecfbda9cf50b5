use Rattle.std.proofs.Common.{◌≡◌, take}
use Rattle.std.specs.List.{filter, flat_map}
use Rattle.report_model.specs.Query.{has_source}
use Rattle.source_ranges.specs.Ranges.{bytes_of}
use Rattle.sink_collect.proofs.choosing.chosen_sources.Given as goal

abbrev pub invariant-loop-range : goal.invariant-loop-range
invariant-loop-range l = l.chosen ≡ filter (has_source l.query) (flat_map bytes_of (take l.range-index l.range-items))
