use Rattle.std.proofs.Common.{◌≡◌, ◌<◌, ℕ, length, slice_index_or}
use Rattle.flow_model.specs.declared.Loc.TheVariants.{Reg}
use Rattle.taint_shadow.specs.Labels.{start_label}
use Rattle.taint_shadow.specs.Lanes.{lane_at, clean}
use Rattle.taint_shadow.proofs.places.Places.new.Given as goal

abbrev pub invariant-loop-number : goal.invariant-loop-number
invariant-loop-number l = record {
  size : length l.registers.items ≡ l.number;
  begun : (r : ℕ) → r < length l.registers.items → (i : ℕ) → i < 4 → lane_at (slice_index_or l.registers.items r clean) i ≡ start_label (Reg r i);
}
