use Rattle.std.proofs.Common.{◌≡◌, ◌++◌, length}
use Rattle.std.specs.List.{flat_map}
use Rattle.std.specs.List.Sorted.{IsPermutation}
use Rattle.std.specs.Vec.Iter.{into_iter_items}
use Rattle.sink_collect.proofs.streams.by_stream.Given as goal

-- those of the streams, and those of the parts that are left
abbrev pub invariant-loop-part : goal.invariant-loop-part
invariant-loop-part l = record {
  streams : length l.streams.items ≡ 257;
  same : IsPermutation l.fn.sets
      (flat_map (λ stream. stream.items) l.streams.items ++ flat_map (λ part. part.items) (into_iter_items l.part-iterator));
}
