use Rattle.std.proofs.Common.{◌≡◌, ◌<◌, ℕ, List, length, map, slice_index_or}
use Rattle.std.specs.Prelude.{Some, slice_get}
use Rattle.flow_model.specs.declared.Loc.{Loc}
use Rattle.path_find.specs.declared.nodes.Label.TheVariants.{Nothing}
use Rattle.path_find.specs.Carriers.{kept, first_label}
use Rattle.path_find.proofs.following.first_labels.Given as goal

abbrev pub invariant-loop-i : goal.invariant-loop-i
invariant-loop-i l = record {
  size : length l.labels ≡ 8;
  first : (j : ℕ) (ls : List Loc) → j < l.i → slice_get (map (λ t. t.origins) l.flow) j ≡ Some ls → slice_index_or l.labels j Nothing ≡ first_label (kept l.carriers) ls;
}
