-- What the rule keep makes of operations with an immediate: worked values of the flow table.
use Rattle.std.specs.Prelude.{◌≡◌, ℕ, List, [], ◌∷◌, map, pos, negsuc}
use Rattle.std.proofs.Common.{refl}
use Rattle.isa.specs.declared.Instr.{Instr}
use Rattle.isa.specs.declared.Instr.TheVariants.{Xori, Ori, Andi, Slli, Srli, Srai}
use Rattle.flow_model.specs.declared.Loc.{Loc}
use Rattle.flow_model.specs.declared.Loc.TheVariants.{Reg}
use Rattle.flow_model.specs.declared.Rule.{Rule}
use Rattle.flow_model.specs.declared.Rule.TheVariants.{Copy, Keep, Compute}
use Rattle.flow_model.specs.Flow.{flow}

-- a rule, an instruction, and the origins of each of its targets
abbrev Row : Type 0
Row = Rule × Instr × List (List Loc)

abbrev AreOrigins : List Row → Type 0
AreOrigins rows = map (λ row. map (λ t. t.origins) (flow row.0 row.1 0)) rows ≡ map (λ row. row.2) rows

-- lane i of x6
abbrev one : ℕ → List Loc
one i = Reg 6 i ∷ []

-- each lane as it was, and none
abbrev all_lanes : List (List Loc)
all_lanes = one 0 ∷ one 1 ∷ one 2 ∷ one 3 ∷ []

abbrev no_lanes : List (List Loc)
no_lanes = [] ∷ [] ∷ [] ∷ [] ∷ []

-- ---- an immediate of 0x000000ff, 0xffffff00, 0xfffff80f, 0xffffffff, 0

of_immediates : AreOrigins (
    (Keep, Andi 5 6 (pos 255), one 0 ∷ [] ∷ [] ∷ [] ∷ []) ∷
    (Keep, Andi 5 6 (negsuc 255), [] ∷ one 1 ∷ one 2 ∷ one 3 ∷ []) ∷
    (Keep, Andi 5 6 (negsuc 2032), [] ∷ [] ∷ one 2 ∷ one 3 ∷ []) ∷
    (Keep, Andi 5 6 (negsuc 0), all_lanes) ∷
    (Keep, Andi 5 6 (pos 0), no_lanes) ∷
    (Keep, Ori 5 6 (pos 32), [] ∷ one 1 ∷ one 2 ∷ one 3 ∷ []) ∷
    (Keep, Ori 5 6 (pos 0), all_lanes) ∷
    (Keep, Xori 5 6 (pos 0), all_lanes) ∷
    -- NOT keeps no lane
    (Keep, Xori 5 6 (negsuc 0), no_lanes) ∷ [])
of_immediates = refl

-- ---- shifts

of_shifts : AreOrigins (
    (Keep, Slli 5 6 8, [] ∷ one 0 ∷ one 1 ∷ one 2 ∷ []) ∷
    (Keep, Slli 5 6 24, [] ∷ [] ∷ [] ∷ one 0 ∷ []) ∷
    (Keep, Srli 5 6 16, one 2 ∷ one 3 ∷ [] ∷ [] ∷ []) ∷
    -- the lanes that the sign fills come from none
    (Keep, Srai 5 6 24, one 3 ∷ [] ∷ [] ∷ [] ∷ []) ∷
    (Keep, Srai 5 6 0, all_lanes) ∷
    (Keep, Slli 5 6 5, no_lanes) ∷ [])
of_shifts = refl

-- ---- x0 has no lanes, and copy keeps none

of_others : AreOrigins (
    (Keep, Andi 5 0 (pos 255), no_lanes) ∷
    (Copy, Andi 5 6 (pos 255), no_lanes) ∷
    (Compute, Andi 5 6 (pos 255), all_lanes) ∷ [])
of_others = refl
