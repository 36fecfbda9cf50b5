-- The targets of an instruction's flow, by its shape.
use Rattle.std.specs.Prelude.{ℕ, ℤ, pos, ◌==◌, ◌<◌, ◌≤◌, Bool, true, false, if◌then◌else◌, List, []}
use Rattle.std.specs.Ordering.{int_eq}
use Rattle.flow_model.specs.declared.Loc.{Loc}
use Rattle.flow_model.specs.declared.Rule.{Rule}
use Rattle.flow_model.specs.declared.Rule.TheVariants.{Copy, Keep, Compute, Index}
use Rattle.flow_model.specs.Flow.{Target, lane, to_register, to_memory, nothing, in_first_lane, each_lane, all_lanes, shifted_lanes, with_base, loaded_byte, sign_extended_byte}
use Rattle.flow_rule.specs.declared.shape.Shape.{Shape}
use Rattle.flow_rule.specs.declared.shape.Shape.TheVariants.{Nothing, Clear, Move, Shuffled, Mixed, Load, Store}
use Rattle.flow_rule.specs.declared.shuffle.Shuffle.{Shuffle}
use Rattle.flow_rule.specs.Shuffles.{shuffled_lanes, AreLanes}
use Rattle.flow_rule.specs.declared.shape.Mixing.{Mixing}
use Rattle.flow_rule.specs.declared.shape.Mixing.TheVariants.{EachLane, AllLanes, ShiftedLanes, FirstLane}

-- lane i of a load: the lanes above the bytes are empty, or filled with the sign of the highest one. The base counts as under
-- the rule index; x0 has no lanes
abbrev pub loaded_lane : Bool → ℕ → ℕ → ℕ → ℕ → List Loc
loaded_lane true base place size i = sign_extended_byte Index base place size i
loaded_lane false base place size i = loaded_byte Index base place size i

-- lane i of two registers that flow together
abbrev pub mixed_lanes : Mixing → ℕ → ℕ → ℕ → List Loc
mixed_lanes EachLane a b i = each_lane a b i
mixed_lanes AllLanes a b i = all_lanes a b i
mixed_lanes ShiftedLanes a b i = shifted_lanes a b i
mixed_lanes FirstLane a b i = in_first_lane (all_lanes a b 0) i

abbrev pub targets_of : Shape → List Target
targets_of Nothing = []
targets_of (Clear d) = to_register d nothing
targets_of (Move d r) = to_register d (lane r)
targets_of (Shuffled shuffle d r) = to_register d (shuffled_lanes shuffle r)
targets_of (Mixed mixing d a b) = to_register d (mixed_lanes mixing a b)
targets_of (Load d base place size fills) = to_register d (loaded_lane fills base place size)
targets_of (Store r base place size) = to_memory place size (λ i. with_base Index base (lane r i))

-- a load or a store moves 1 to 4 bytes, and a shuffle chooses among four lanes
abbrev pub HasSizes : Shape → Type 0
HasSizes Nothing = Unit {0}
HasSizes (Clear d) = Unit {0}
HasSizes (Move d r) = Unit {0}
HasSizes (Shuffled shuffle d r) = AreLanes shuffle
HasSizes (Mixed mixing d a b) = Unit {0}
HasSizes (Load d base place size fills) = (1 ≤ size) × (size ≤ 4)
HasSizes (Store r base place size) = (1 ≤ size) × (size ≤ 4)

-- all of its registers are below 32
abbrev pub HasRegisters : Shape → Type 0
HasRegisters Nothing = Unit {0}
HasRegisters (Clear d) = d < 32
HasRegisters (Move d r) = (d < 32) × (r < 32)
HasRegisters (Shuffled shuffle d r) = (d < 32) × (r < 32)
HasRegisters (Mixed mixing d a b) = (d < 32) × (a < 32) × (b < 32)
HasRegisters (Load d base place size fills) = (d < 32) × (base < 32)
HasRegisters (Store r base place size) = (r < 32) × (base < 32)

-- ---- what the rule makes of a shape

-- what is computed does not flow under the rules copy and keep
abbrev pub computed_shape : Rule → ℕ → Shape → Shape
computed_shape Copy d shape = Clear d
computed_shape Keep d shape = Clear d
computed_shape Compute d shape = shape
computed_shape Index d shape = shape

-- what is kept whole flows under the rule keep, and all that is computed under the two others
abbrev pub kept_or_computed_shape : Rule → ℕ → ℕ → Shuffle → Shape → Shape
kept_or_computed_shape Copy d r kept shape = Clear d
kept_or_computed_shape Keep d r kept shape = Shuffled kept d r
kept_or_computed_shape Compute d r kept shape = shape
kept_or_computed_shape Index d r kept shape = shape

-- a load that extends the sign computes the lanes above
abbrev pub fills_by : Rule → Bool
fills_by Copy = false
fills_by Keep = false
fills_by Compute = true
fills_by Index = true

-- the base counts under the rule index alone
abbrev pub base_of : Rule → ℕ → ℕ
base_of Copy a = 0
base_of Keep a = 0
base_of Compute a = 0
base_of Index a = a

-- a move where a source is x0, or where the immediate that is added is 0
abbrev pub moved_shape_or : ℕ → ℕ → ℕ → Shape → Shape
moved_shape_or d a b otherwise = if a == 0 then Move d b else if b == 0 then Move d a else otherwise

abbrev pub added_shape : Rule → ℕ → ℕ → ℤ → Shape
added_shape rule d a imm = if int_eq imm (pos 0) then Move d a else computed_shape rule d (Mixed AllLanes d a 0)
