use Rattle.std.proofs.Common.{take}
use Rattle.std.specs.List.{flat_map}
use Rattle.report_model.specs.Text.{source_text}
use Rattle.source_ranges.specs.Ranges.{bytes_of}
use Rattle.sink_collect.specs.Waiting.{waiting}
use Rattle.sink_collect.proofs.writing.add_ranges.Given as goal

abbrev pub invariant-loop-range : goal.invariant-loop-range
invariant-loop-range g l = (waiting g.P.Pieces.putting).whole (l.initial.place, l.initial.text) (flat_map source_text (flat_map bytes_of (take l.range-index l.ranges))) (l.place, l.text)
