-- A step's flow as a table of targets.
use Rattle.std.specs.Prelude.{ℕ, ◌+◌, ◌-◌, ◌==◌, nat_lt, if◌then◌else◌, List, [], map, slice_get}
use Rattle.std.specs.List.{range_with_len}
use Rattle.std.specs.Option.{option_map_or}
use Rattle.flow_model.specs.declared.Loc.{Loc}
use Rattle.flow_model.specs.declared.Loc.TheVariants.{Reg, Mem}
use Rattle.isa.specs.Machine.{wrap}
use Rattle.flow_model.specs.Flow.{Target}
use Rattle.flow_rule.specs.declared.flows.Targets.{Targets}
use Rattle.flow_rule.specs.declared.flows.Targets.TheVariants.{Register, TwoRegisters, Memory}
use Rattle.flow_rule.specs.declared.flows.Origins.{Origins}
use Rattle.flow_rule.specs.declared.flows.Origins.TheVariants.{Same, First, Each}
use Rattle.flow_rule.specs.Locations.{locs_of}

abbrev pub count_of : Targets → ℕ
count_of (Register number) = 4
count_of (TwoRegisters first second) = 8
count_of (Memory address count) = count

abbrev pub target_at : Targets → ℕ → Loc
target_at (Register number) i = Reg number i
target_at (TwoRegisters first second) i = if nat_lt i 4 then Reg first i else Reg second (i - 4)
target_at (Memory address count) i = Mem (wrap (address + i))

abbrev pub origins_at : Origins → ℕ → List Loc
origins_at (Same locs) i = locs_of locs
origins_at (First locs) i = if i == 0 then locs_of locs else []
origins_at (Each lanes) i = option_map_or locs_of (slice_get lanes i) []

-- for how many targets there are origins
abbrev pub room_of : Origins → ℕ
room_of (Same locs) = 8
room_of (First locs) = 8
room_of (Each lanes) = 4

abbrev pub table_of : Targets → Origins → List Target
table_of targets origins =
    map (λ i. record { loc = target_at targets i; origins = origins_at origins i }) (range_with_len 0 (count_of targets))

-- the origins of the four lanes of a register, or of the bytes of a word
abbrev pub by_lane : (ℕ → List Loc) → List (List Loc)
by_lane origins = map origins (range_with_len 0 4)
