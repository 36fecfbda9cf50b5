use Rattle.std.proofs.Common.{◌≡◌, ℕ, length}
use Rattle.taint_shadow.specs.Memory.{items_at}
use Rattle.taint_shadow.proofs.memory.grow.Given as goal

abbrev pub invariant-loop : goal.invariant-loop
invariant-loop g l = record {
  size : length l.tables.items ≡ l.counter;
  same : (i : ℕ) → items_at l.tables.items i ≡ items_at l.fn.tables.items i;
}
