use Rattle.std.proofs.Common.{◌≡◌, [], length}
use Rattle.std.specs.List.{flat_map}
use Rattle.sink_collect.proofs.streams.rooms_of.Given as goal

abbrev pub invariant-loop-stream : goal.invariant-loop-stream
invariant-loop-stream l = record {
  streams : length l.rooms.items ≡ l.stream;
  empty : flat_map (λ stream. stream.items) l.rooms.items ≡ [];
}
