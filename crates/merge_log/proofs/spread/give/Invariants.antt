use Rattle.std.proofs.Common.{◌≡◌, ◌<◌, ◌≤◌, ℕ, length}
use Rattle.std.specs.Int.{bit_at}
use Rattle.merge_log.specs.Masks.{found_at, with_leaves}
use Rattle.merge_log.proofs.spread.give.Given as goal

-- the roots so far have it where their bit is set, and the others are as they were
abbrev pub invariant-loop-root : goal.invariant-loop-root
invariant-loop-root l = record {
  sets : length l.found.items ≡ length l.fn.found.items;
  given : (r : ℕ) → r < l.root → found_at l.found.items r ≡ with_leaves (bit_at l.mask r) l.leaves (found_at l.fn.found.items r);
  rest : (r : ℕ) → l.root ≤ r → found_at l.found.items r ≡ found_at l.fn.found.items r;
}
