-- Where the compute table lists more than what determines a lane.
use Rattle.std.specs.Prelude.{◌≡◌, ℕ, ℤ, ◌+◌, ◌-◌, ◌<◌, List, ◌++◌}
use Rattle.std.specs.List.{flat_map, range_with_len}
use Rattle.isa.specs.declared.Instr.{Instr}
use Rattle.isa.specs.declared.Instr.TheVariants.{Addi, Add, Sub, Sll, Srl, Sra, Mul, Divu}
use Rattle.isa.specs.declared.Effect.{Effect}
use Rattle.isa.specs.declared.Effect.TheVariants.{SetRegister}
use Rattle.isa.specs.Machine.{State, effect_of}
use Rattle.flow_model.specs.declared.Loc.{Loc}
use Rattle.flow_model.specs.Flow.{lane, lanes}
use Rattle.record_model.specs.States.{IsSound}
use Rattle.answer_meaning.specs.Content.{lane_of, AgreeAt}

-- the lanes of a register up to lane i, and from lane i on
abbrev pub lanes_up_to : ℕ → ℕ → List Loc
lanes_up_to r i = flat_map (lane r) (range_with_len 0 (i + 1))

abbrev pub lanes_from : ℕ → ℕ → List Loc
lanes_from r i = flat_map (lane r) (range_with_len i (4 - i))

-- the locations that lane i of the register that the instruction sets comes from: a sum, a product and a shift to the left
-- have nothing from lanes above, a shift to the right and an unsigned quotient nothing from lanes below
pub data IsEnough : Instr → ℕ → List Loc → Type 0 where
  OfSum : (d a b i : ℕ) → IsEnough (Add d a b) i (lanes_up_to a i ++ lanes_up_to b i)
  OfDifference : (d a b i : ℕ) → IsEnough (Sub d a b) i (lanes_up_to a i ++ lanes_up_to b i)
  OfProduct : (d a b i : ℕ) → IsEnough (Mul d a b) i (lanes_up_to a i ++ lanes_up_to b i)
  OfImmediate : (d a : ℕ) (imm : ℤ) (i : ℕ) → IsEnough (Addi d a imm) i (lanes_up_to a i)
  OfLeftShift : (d a b i : ℕ) → IsEnough (Sll d a b) i (lanes_up_to a i ++ lane b 0)
  OfRightShift : (d a b i : ℕ) → IsEnough (Srl d a b) i (lanes_from a i ++ lane b 0)
  OfSignedShift : (d a b i : ℕ) → IsEnough (Sra d a b) i (lanes_from a i ++ lane b 0)
  OfQuotient : (d a b i : ℕ) → IsEnough (Divu d a b) i (lanes_from a i ++ lanes b)

-- the value that an instruction puts into its register
abbrev pub value_set : Effect → ℕ
value_set (SetRegister d v) = v
value_set other = 0

-- two states that agree there give the lane one content
abbrev pub FewerDetermine : Type 0
FewerDetermine = (s t : State) (instr : Instr) (i : ℕ) (ls : List Loc) → IsSound s → IsSound t → i < 4
    → IsEnough instr i ls → AgreeAt s t ls → lane_of (value_set (effect_of s instr)) i ≡ lane_of (value_set (effect_of t instr)) i
