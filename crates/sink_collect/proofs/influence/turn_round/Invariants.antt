use Rattle.std.proofs.Common.{◌≡◌, take}
use Rattle.sink_collect.specs.Reaching.{stretches}
use Rattle.sink_collect.proofs.influence.turn_round.Given as goal

abbrev pub invariant-loop-row : goal.invariant-loop-row
invariant-loop-row l = l.reaches.items ≡ stretches (take l.row-index l.row-items) l.pieces.items
