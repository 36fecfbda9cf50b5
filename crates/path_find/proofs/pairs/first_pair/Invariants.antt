use Rattle.std.proofs.Common.{◌≡◌, drop}
use Rattle.path_find.specs.FirstPair.{first_pair}
use Rattle.path_find.proofs.pairs.first_pair.Given as goal

abbrev pub invariant-loop-row : goal.invariant-loop-row
invariant-loop-row l = first_pair (drop l.row-index l.rows) ≡ first_pair l.rows
