use Rattle.std.proofs.Common.{◌≡◌, ℕ, length, slice_index_or}
use Rattle.path_find.specs.declared.nodes.Label.TheVariants.{Nothing}
use Rattle.path_find.proofs.carriers.Carriers.new.Given as goal

abbrev pub invariant-loop : goal.invariant-loop
invariant-loop l = record {
  size : length l.registers.items ≡ l.counter;
  empty : (k : ℕ) → slice_index_or l.registers.items k Nothing ≡ Nothing;
}
