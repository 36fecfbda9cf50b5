use Rattle.std.proofs.Common.{take}
use Rattle.std.specs.List.{flat_map}
use Rattle.report_model.specs.Influence.{sink_text}
use Rattle.sink_collect.proofs.writing.put_sinks.Given as goal

abbrev pub invariant-loop-sink : goal.invariant-loop-sink
invariant-loop-sink g l = g.P.Pieces.putting.whole l.initial.place (flat_map sink_text (take l.sink-index l.sinks)) l.place
