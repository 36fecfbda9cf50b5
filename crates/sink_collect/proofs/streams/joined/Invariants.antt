use Rattle.std.proofs.Common.{◌≡◌, ◌++◌}
use Rattle.std.specs.List.{flat_map}
use Rattle.std.specs.Vec.Iter.{into_iter_items}
use Rattle.sink_collect.proofs.streams.joined.Given as goal

-- the sets so far, and those of the other streams
abbrev pub invariant-loop-stream : goal.invariant-loop-stream
invariant-loop-stream l =
    flat_map (λ stream. stream.items) l.fn.streams.items
    ≡ l.all.items ++ flat_map (λ stream. stream.items) (into_iter_items l.stream-iterator)
