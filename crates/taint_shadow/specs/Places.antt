-- What locations are labelled with.
use Rattle.std.specs.Prelude.{◌≡◌, ℕ, ◌==◌, if◌then◌else◌, slice_index_or}
use Rattle.flow_model.specs.declared.Loc.{Loc}
use Rattle.flow_model.specs.declared.Loc.TheVariants.{Reg, Mem}
use Rattle.flow_model.specs.Ranges.{IsLocation}
use Rattle.taint_shadow.specs.declared.labels.Label.{Label}
use Rattle.taint_shadow.specs.declared.lanes.Lanes.{Lanes}
use Rattle.taint_shadow.specs.declared.places.Places.{Places}
use Rattle.taint_shadow.specs.Labels.{nothing_label}
use Rattle.taint_shadow.specs.Lanes.{lane_at, clean}
use Rattle.taint_shadow.specs.Memory.{in_memory, with_bytes}

-- the label of a location
abbrev pub kept : Places → Loc → Label
kept p (Reg r i) = lane_at (slice_index_or p.registers.items r clean) i
kept p (Mem a) = in_memory p.memory.items a

-- each location has the label that f gives for it
pub record AreKept (p : Places) (f : Loc → Label) : Type 0 where
  pub at : (l : Loc) → IsLocation l → kept p l ≡ f l

-- the labels of a register's lanes as origins: x0 has none
abbrev pub origin_lane : Places → ℕ → ℕ → Label
origin_lane p r i = if r == 0 then nothing_label else kept p (Reg r i)

-- the same, as lanes
abbrev pub origin_lanes : Places → ℕ → Lanes
origin_lanes p r = record { first = origin_lane p r 0; second = origin_lane p r 1; third = origin_lane p r 2; fourth = origin_lane p r 3 }

-- the labels of locations, with these for the lanes of a register: x0 keeps its own
abbrev pub with_lanes : ℕ → Lanes → (Loc → Label) → Loc → Label
with_lanes d x f (Reg r i) = if d == 0 then f (Reg r i) else if d == r then lane_at x i else f (Reg r i)
with_lanes d x f (Mem a) = f (Mem a)

-- the labels of locations, with those of lanes for the n bytes from a place on, round the end of memory
abbrev pub with_word : ℕ → ℕ → Lanes → (Loc → Label) → Loc → Label
with_word place n x f (Reg r i) = f (Reg r i)
with_word place n x f (Mem a) = with_bytes place n x (λ q. f (Mem q)) a
