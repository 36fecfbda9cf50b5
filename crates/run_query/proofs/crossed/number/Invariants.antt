use Rattle.std.proofs.Common.{◌≡◌, ◌+◌, ◌<◌, ◌^◌, ◌++◌, length}
use Rattle.std.specs.Vec.Iter.{into_iter_items}
use Rattle.run_query.specs.Crossings.{numbered}
use Rattle.run_query.proofs.crossed.number.Given as goal

-- those that have a number, and the others numbered from the next one on
abbrev pub invariant-loop-asked : goal.invariant-loop-asked
invariant-loop-asked l = record {
  all : l.crossed.items ++ numbered (l.cut + 1) (into_iter_items l.asked-iterator) ≡ numbered 1 l.fn.crossings.items;
  few : l.cut + length (into_iter_items l.asked-iterator) < 2 ^ 32;
}
