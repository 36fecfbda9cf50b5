-- The short lists of locations as lists.
use Rattle.std.specs.Prelude.{ℕ, List, [], ◌∷◌}
use Rattle.flow_model.specs.declared.Loc.{Loc}
use Rattle.flow_model.specs.declared.Loc.TheVariants.{Reg}
use Rattle.flow_rule.specs.declared.locations.Locations.{Locations}
use Rattle.flow_rule.specs.declared.locations.Locations.TheVariants.{Empty, One, Two, Four, Five, Eight}

abbrev pub locs_of : Locations → List Loc
locs_of Empty = []
locs_of (One locs) = locs
locs_of (Two locs) = locs
locs_of (Four locs) = locs
locs_of (Five locs) = locs
locs_of (Eight locs) = locs

-- the lanes of a register that isn't x0
abbrev pub four_lanes : ℕ → List Loc
four_lanes r = Reg r 0 ∷ Reg r 1 ∷ Reg r 2 ∷ Reg r 3 ∷ []
