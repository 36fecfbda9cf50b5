-- The flow table: the targets of one step, and from which locations each gets its content. A location that is no target
-- keeps its content, and a target without origins becomes empty.
use Rattle.std.specs.Prelude.{ℕ, ℤ, ◌+◌, ◌-◌, ◌/◌, ◌%◌, ◌^◌, ◌==◌, nat_lt, nat_le, Bool, false, ◌&&◌, if◌then◌else◌, List, [], ◌∷◌, ◌++◌, map, slice_index, pos, Option, Some, None}
use Rattle.std.specs.Int.{w32, to_le_bytes}
use Rattle.std.specs.List.{range_with_len}
use Rattle.std.specs.Ordering.{int_eq}
use Rattle.isa.specs.declared.Instr.{Instr}
use Rattle.isa.specs.declared.Instr.TheVariants.{Lui, Auipc, Jal, Jalr, Beq, Bne, Blt, Bge, Bltu, Bgeu, Lb, Lh, Lw, Lbu, Lhu, Sb, Sh, Sw, Addi, Slti, Sltiu, Xori, Ori, Andi, Slli, Srli, Srai, Add, Sub, Sll, Slt, Sltu, Xor, Srl, Sra, Or, And, Mul, Mulh, Mulhsu, Mulhu, Div, Divu, Rem, Remu, Fence, Ecall, Ebreak}
use Rattle.isa.specs.declared.CallKind.{CallKind}
use Rattle.isa.specs.declared.CallKind.TheVariants as kind
use Rattle.isa.specs.Machine.{wrap, as_word}
use Rattle.flow_model.specs.declared.Loc.{Loc}
use Rattle.flow_model.specs.declared.Loc.TheVariants.{Reg, Mem}
use Rattle.flow_model.specs.declared.Rule.{Rule}
use Rattle.flow_model.specs.declared.Rule.TheVariants.{Copy, Keep, Compute, Index}
use Rattle.flow_model.specs.declared.StepSeen.{StepSeen}
use Rattle.flow_model.specs.declared.CallSeen.{CallSeen}
use Rattle.lists.specs.Sets.{union}
use Rattle.flow_model.specs.Orders.{loc_cmp}

-- a target, with the locations whose content flows into it
pub record Target : Type 0 where
  pub loc : Loc
  pub origins : List Loc

-- x0 has no lanes, neither as a target nor as an origin
abbrev pub lane : ℕ → ℕ → List Loc
lane r i = if r == 0 then [] else Reg r i ∷ []

abbrev pub lanes : ℕ → List Loc
lanes r = if r == 0 then [] else Reg r 0 ∷ Reg r 1 ∷ Reg r 2 ∷ Reg r 3 ∷ []

-- the four lanes of a register, each with its origins
abbrev pub to_register : ℕ → (ℕ → List Loc) → List Target
to_register r origins =
    if r == 0 then [] else map (λ i. record { loc = Reg r i; origins = origins i }) (range_with_len 0 4)

-- n bytes of memory from an address on, each with its origins
abbrev pub to_memory : ℕ → ℕ → (ℕ → List Loc) → List Target
to_memory address n origins = map (λ i. record { loc = Mem (wrap (address + i)); origins = origins i }) (range_with_len 0 n)

abbrev pub nothing : ℕ → List Loc
nothing i = []

-- what is computed flows under the rules compute and index
abbrev pub computed : Rule → (ℕ → List Loc) → ℕ → List Loc
computed Copy origins i = []
computed Keep origins i = []
computed Compute origins i = origins i
computed Index origins i = origins i

-- what an operation keeps whole flows under the rule keep, and all that it is computed from under compute and index
abbrev pub kept_or_computed : Rule → (ℕ → List Loc) → (ℕ → List Loc) → ℕ → List Loc
kept_or_computed Copy kept origins i = []
kept_or_computed Keep kept origins i = kept i
kept_or_computed Compute kept origins i = origins i
kept_or_computed Index kept origins i = origins i

-- under the rule index what goes to or comes from memory also comes from the register that holds the base address
abbrev pub with_base : Rule → ℕ → List Loc → List Loc
with_base Copy a origins = origins
with_base Keep a origins = origins
with_base Compute a origins = origins
with_base Index a origins = union loc_cmp (lanes a) origins

-- the first lane alone has these origins
abbrev pub in_first_lane : List Loc → ℕ → List Loc
in_first_lane origins i = if i == 0 then origins else []

-- byte i of those from an address on
abbrev pub byte_of : ℕ → ℕ → List Loc
byte_of address i = Mem (wrap (address + i)) ∷ []

-- lane i of a load of n bytes, by base register a, is byte i; the lanes above are empty
abbrev pub loaded_byte : Rule → ℕ → ℕ → ℕ → ℕ → List Loc
loaded_byte rule a address n i = if nat_lt i n then with_base rule a (byte_of address i) else []

-- a load that extends the sign computes the lanes above from the highest byte
abbrev pub sign_extended_byte : Rule → ℕ → ℕ → ℕ → ℕ → List Loc
sign_extended_byte rule a address n i = with_base rule a (byte_of address (if nat_lt i n then i else n - 1))

abbrev pub signed_load : Rule → ℕ → ℕ → ℕ → ℕ → List Loc
signed_load Copy a address n i = loaded_byte Copy a address n i
signed_load Keep a address n i = loaded_byte Keep a address n i
signed_load Compute a address n i = sign_extended_byte Compute a address n i
signed_load Index a address n i = sign_extended_byte Index a address n i

-- with x0 as a source the instruction is a move of the other source
abbrev pub moved_or : ℕ → ℕ → (ℕ → List Loc) → ℕ → List Loc
moved_or a b otherwise i = if a == 0 then lane b i else if b == 0 then lane a i else otherwise i

-- lane i of both sources; all lanes of both; all lanes of one and lane 0 of the other
abbrev pub each_lane : ℕ → ℕ → ℕ → List Loc
each_lane a b i = union loc_cmp (lane a i) (lane b i)

abbrev pub all_lanes : ℕ → ℕ → ℕ → List Loc
all_lanes a b i = union loc_cmp (lanes a) (lanes b)

abbrev pub shifted_lanes : ℕ → ℕ → ℕ → List Loc
shifted_lanes a b i = union loc_cmp (lanes a) (lane b 0)

-- byte i of an immediate, sign-extended to a word
abbrev pub immediate_byte : ℤ → ℕ → ℕ
immediate_byte imm i = slice_index (to_le_bytes w32 (as_word imm)) i

-- the lanes where the immediate has this byte: by 255 ANDI leaves a lane as it is, by 0 ORI and XORI do
abbrev pub unchanged_lanes : ℕ → ℤ → ℕ → ℕ → List Loc
unchanged_lanes byte imm a i = if immediate_byte imm i == byte then lane a i else []

-- a shift by k bits moves lanes whole where k is a multiple of 8: to lane i comes the one k / 8 below, and to the right
-- the one k / 8 above. Where there is none come zeros, or the sign
abbrev pub left_lanes : ℕ → ℕ → ℕ → List Loc
left_lanes k a i = if (k % 8 == 0) && nat_le (k / 8) i then lane a (i - k / 8) else []

abbrev pub right_lanes : ℕ → ℕ → ℕ → List Loc
right_lanes k a i = if (k % 8 == 0) && nat_lt (i + k / 8) 4 then lane a (i + k / 8) else []

-- the targets of an instruction whose effective address is `place`
abbrev pub flow : Rule → Instr → ℕ → List Target
flow rule (Lw d a imm) place = to_register d (loaded_byte rule a place 4)
flow rule (Lh d a imm) place = to_register d (signed_load rule a place 2)
flow rule (Lhu d a imm) place = to_register d (loaded_byte rule a place 2)
flow rule (Lb d a imm) place = to_register d (signed_load rule a place 1)
flow rule (Lbu d a imm) place = to_register d (loaded_byte rule a place 1)
flow rule (Sb a b imm) place = to_memory place 1 (λ i. with_base rule a (lane b i))
flow rule (Sh a b imm) place = to_memory place 2 (λ i. with_base rule a (lane b i))
flow rule (Sw a b imm) place = to_memory place 4 (λ i. with_base rule a (lane b i))
flow rule (Addi d a imm) place = to_register d (if int_eq imm (pos 0) then lane a else computed rule (λ i. lanes a))
flow rule (Add d a b) place = to_register d (moved_or a b (computed rule (all_lanes a b)))
flow rule (Or d a b) place = to_register d (moved_or a b (computed rule (each_lane a b)))
flow rule (Xor d a b) place = to_register d (moved_or a b (computed rule (each_lane a b)))
flow rule (And d a b) place = to_register d (computed rule (each_lane a b))
flow rule (Andi d a imm) place = to_register d (kept_or_computed rule (unchanged_lanes 255 imm a) (lane a))
flow rule (Ori d a imm) place = to_register d (kept_or_computed rule (unchanged_lanes 0 imm a) (lane a))
flow rule (Xori d a imm) place = to_register d (kept_or_computed rule (unchanged_lanes 0 imm a) (lane a))
flow rule (Sub d a b) place = to_register d (computed rule (all_lanes a b))
flow rule (Mul d a b) place = to_register d (computed rule (all_lanes a b))
flow rule (Mulh d a b) place = to_register d (computed rule (all_lanes a b))
flow rule (Mulhsu d a b) place = to_register d (computed rule (all_lanes a b))
flow rule (Mulhu d a b) place = to_register d (computed rule (all_lanes a b))
flow rule (Div d a b) place = to_register d (computed rule (all_lanes a b))
flow rule (Divu d a b) place = to_register d (computed rule (all_lanes a b))
flow rule (Rem d a b) place = to_register d (computed rule (all_lanes a b))
flow rule (Remu d a b) place = to_register d (computed rule (all_lanes a b))
flow rule (Slli d a k) place = to_register d (kept_or_computed rule (left_lanes k a) (λ i. lanes a))
flow rule (Srli d a k) place = to_register d (kept_or_computed rule (right_lanes k a) (λ i. lanes a))
flow rule (Srai d a k) place = to_register d (kept_or_computed rule (right_lanes k a) (λ i. lanes a))
flow rule (Sll d a b) place = to_register d (computed rule (shifted_lanes a b))
flow rule (Srl d a b) place = to_register d (computed rule (shifted_lanes a b))
flow rule (Sra d a b) place = to_register d (computed rule (shifted_lanes a b))
flow rule (Slt d a b) place = to_register d (computed rule (in_first_lane (all_lanes a b 0)))
flow rule (Sltu d a b) place = to_register d (computed rule (in_first_lane (all_lanes a b 0)))
flow rule (Slti d a imm) place = to_register d (computed rule (in_first_lane (lanes a)))
flow rule (Sltiu d a imm) place = to_register d (computed rule (in_first_lane (lanes a)))
flow rule (Lui d imm) place = to_register d nothing
flow rule (Auipc d imm) place = to_register d nothing
flow rule (Jal d imm) place = to_register d nothing
flow rule (Jalr d a imm) place = to_register d nothing
flow rule (Beq a b imm) place = []
flow rule (Bne a b imm) place = []
flow rule (Blt a b imm) place = []
flow rule (Bge a b imm) place = []
flow rule (Bltu a b imm) place = []
flow rule (Bgeu a b imm) place = []
flow rule (Fence kept) place = []
flow rule Ecall place = []
flow rule Ebreak place = []

-- the registers that a call empties: its result is no source's. The clock's goes to x10 and x11
abbrev pub cleared : CallKind → List Target
cleared kind.Read = to_register 10 nothing
cleared kind.Write = to_register 10 nothing
cleared kind.Other = to_register 10 nothing
cleared kind.Clock = to_register 10 nothing ++ to_register 11 nothing
cleared kind.Exit = []

-- ---- the flow of a step

abbrev pub loc_eq : Loc → Loc → Bool
loc_eq (Reg r i) (Reg q j) = (r == q) && (i == j)
loc_eq (Reg r i) (Mem p) = false
loc_eq (Mem p) (Reg r i) = false
loc_eq (Mem p) (Mem q) = p == q

-- the origins of a location by a table of targets: its own content where it is none of them
abbrev pub origins_by : List Target → Loc → List Loc
origins_by [] l = l ∷ []
origins_by (t ∷ ts) l = if loc_eq t.loc l then t.origins else origins_by ts l

-- how far a place lies past an address, round the end of memory
abbrev pub distance : ℕ → ℕ → ℕ
distance address p = wrap (p + (2 ^ 32 - address))

-- a call puts a byte that it read there
abbrev pub is_received_by : CallKind → CallSeen → ℕ → Bool
is_received_by kind.Read call p = nat_lt (distance call.place p) call.length
is_received_by kind.Write call p = false
is_received_by kind.Clock call p = false
is_received_by kind.Other call p = false
is_received_by kind.Exit call p = false

abbrev pub is_received : CallSeen → Loc → Bool
is_received call (Reg r i) = false
is_received call (Mem p) = is_received_by call.kind call p

abbrev pub from_call : CallSeen → Loc → List Loc
from_call call l = if is_received call l then [] else origins_by (cleared call.kind) l

abbrev pub from_instruction_or : Rule → StepSeen → Option CallSeen → Loc → List Loc
from_instruction_or rule step None l = origins_by (flow rule step.instr step.place) l
from_instruction_or rule step (Some call) l = from_call call l

-- the locations whose content before the step flows into l: l itself where it is no target, none at a byte that a
-- read received
abbrev pub from : Rule → StepSeen → Loc → List Loc
from rule step l = from_instruction_or rule step step.call l
