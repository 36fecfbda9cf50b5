use Rattle.std.proofs.Common.{◌≡◌, ◌≤◌, ℕ, length}
use Rattle.merge_log.specs.Log.{no_terms}
use Rattle.merge_log.specs.Masks.{found_at}
use Rattle.merge_log.proofs.spread.empty_sets.Given as goal

abbrev pub invariant-loop : goal.invariant-loop
invariant-loop l = record {
  within : l.counter ≤ l.count;
  sets : length l.found.items ≡ l.counter;
  empty : (r : ℕ) → found_at l.found.items r ≡ no_terms;
}
