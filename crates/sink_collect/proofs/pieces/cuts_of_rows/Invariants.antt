use Rattle.std.proofs.Common.{◌≡◌, take}
use Rattle.std.specs.List.{flat_map}
use Rattle.sink_collect.specs.Places.{cuts_of}
use Rattle.sink_collect.proofs.pieces.cuts_of_rows.Given as goal

abbrev pub invariant-loop-row : goal.invariant-loop-row
invariant-loop-row l = l.cuts.items ≡ flat_map cuts_of (take l.row-index l.rows)
