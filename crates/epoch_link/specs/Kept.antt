-- What the steps of an end leave as it was.
use Rattle.std.specs.Prelude.{◌≡◌}
use Rattle.epoch_link.specs.declared.ring_link.end.End.{End}

module _ {T : Type 0} where
  -- its link, capacity and count of refusals
  abbrev pub IsSameEnd : End T → End T → Type 0
  IsSameEnd old new = (new.seat.table_id ≡ old.seat.table_id) × (new.capacity ≡ old.capacity) × (new.refusals ≡ old.refusals)

  -- its count and slot
  abbrev pub IsSamePlace : End T → End T → Type 0
  IsSamePlace old new = (new.count ≡ old.count) × (new.slot ≡ old.slot)
