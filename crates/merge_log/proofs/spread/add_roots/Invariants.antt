use Rattle.std.proofs.Common.{◌≡◌, ◌+◌, ◌<◌, ◌≤◌, ℕ, length, slice_index}
use Rattle.merge_log.specs.Masks.{HasBit, IsClearFrom}
use Rattle.merge_log.proofs.spread.add_roots.Given as goal

-- the roots so far have their bits, and no other bit is set
abbrev pub invariant-loop-root : goal.invariant-loop-root
invariant-loop-root l = record {
  room : length l.masks.masks.items ≡ length l.fn.masks.masks.items;
  past : l.past ≤ length l.log + 1;
  above : IsClearFrom l.masks.masks.items l.past;
  only : (r m : ℕ) → HasBit l.masks.masks.items r m → (r < l.root) × (m ≡ slice_index l.roots r);
  all : (r : ℕ) → r < l.root → HasBit l.masks.masks.items r (slice_index l.roots r);
}
