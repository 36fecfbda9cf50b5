use Rattle.std.proofs.Common.{◌≡◌, ◌++◌, length}
use Rattle.std.specs.List.{flat_map}
use Rattle.std.specs.List.Sorted.{IsPermutation}
use Rattle.std.specs.Vec.Iter.{into_iter_items}
use Rattle.sink_collect.proofs.streams.distribute.Given as goal

-- those of the streams, and those that are left
abbrev pub invariant-loop-set : goal.invariant-loop-set
invariant-loop-set l = record {
  streams : length l.streams.items ≡ 257;
  same : IsPermutation (flat_map (λ stream. stream.items) l.fn.streams.items ++ l.fn.sets.items)
      (flat_map (λ stream. stream.items) l.streams.items ++ into_iter_items l.set-iterator);
}
