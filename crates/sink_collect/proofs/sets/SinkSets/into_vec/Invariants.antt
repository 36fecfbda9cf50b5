use Rattle.std.proofs.Common.{◌≡◌, ◌++◌}
use Rattle.std.specs.List.{flat_map}
use Rattle.std.specs.Vec.Iter.{into_iter_items}
use Rattle.sink_collect.proofs.sets.SinkSets.into_vec.Given as goal

-- the sets that are moved together, and those of the parts that are left
abbrev pub invariant-loop-part : goal.invariant-loop-part
invariant-loop-part l = l.all.items ++ flat_map (λ part. part.items) (into_iter_items l.part-iterator) ≡ l.fn.self
