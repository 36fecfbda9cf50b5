-- What a table holds for locations.
use Rattle.std.specs.Prelude.{◌≡◌, ℕ, ◌+◌, List, get_or, slice_get, Some}
use Rattle.flow_model.specs.declared.Loc.{Loc}
use Rattle.epoch_summary.specs.declared.place_table.PlaceTable.{PlaceTable}
use Rattle.epoch_summary.specs.Slots.{FitsLoc, number_of, slot_of}

-- the value of a number
abbrev pub held_at : PlaceTable → ℕ → ℕ
held_at t n = get_or t.slots.items (slot_of t.blocks.keys n) 0

-- a location of the list has its place, counted from 1, as value, and no other location has a value
pub record ArePlaced (locations : List Loc) (t : PlaceTable) : Type 0 where
  pub held : (p : ℕ) (l : Loc) → slice_get locations p ≡ Some l → held_at t (number_of l) ≡ p + 1
  pub stands : (p : ℕ) (l : Loc) → FitsLoc l → held_at t (number_of l) ≡ p + 1 → slice_get locations p ≡ Some l
