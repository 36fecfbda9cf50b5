use Rattle.std.proofs.Common.{take}
use Rattle.std.specs.List.{flat_map}
use Rattle.sink_collect.proofs.Putting.{lines_of}
use Rattle.sink_collect.proofs.writing.put_reaches.Given as goal

abbrev pub invariant-loop-reach : goal.invariant-loop-reach
invariant-loop-reach g l = g.P.Pieces.putting.whole l.initial.place (flat_map lines_of (take l.reach-index l.reaches)) l.place
