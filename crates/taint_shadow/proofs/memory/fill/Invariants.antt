use Rattle.std.proofs.Common.{◌≡◌, ◌/◌, ℕ, length}
use Rattle.taint_shadow.specs.Memory.{cell_or}
use Rattle.taint_shadow.proofs.memory.fill.Given as goal

abbrev pub invariant-loop-cell : goal.invariant-loop-cell
invariant-loop-cell l = record {
  size : length l.cells.items ≡ l.cell;
  same : (q : ℕ) → q / 64 ≡ l.first / 64 → cell_or l.cells.items q ≡ cell_or l.initial.cells.items q;
}
