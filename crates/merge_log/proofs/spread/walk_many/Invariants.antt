use Rattle.std.proofs.Common.{◌≡◌, ◌+◌, ◌<◌, ◌≤◌, ℕ, length, slice_index}
use Rattle.merge_log.specs.Masks.{HasBit, IsClearFrom, IsCover, found_at}
use Rattle.merge_log.proofs.spread.walk_many.Given as goal

-- no node from `past` on is left, and each root's leaves are found or under nodes that are left for it
abbrev pub invariant-loop-node : goal.invariant-loop-node
invariant-loop-node l = record {
  below : l.past ≤ length l.log + 1;
  room : length l.log < length l.masks.masks.items;
  clear : IsClearFrom l.masks.masks.items l.past;
  sets : length l.found.items ≡ length l.roots;
  covers : (r : ℕ) → r < length l.roots → IsCover l.log (slice_index l.roots r) (HasBit l.masks.masks.items r) (found_at l.found.items r);
}

abbrev pub decreases-loop-node : goal.decreases-loop-node
decreases-loop-node l = l.past
