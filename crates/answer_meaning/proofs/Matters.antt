-- The flow table against values. Each origin of the compute table can matter, but for those that docs/MEANING.md tells: two
-- states differ there alone, and the target's contents after the instruction differ. And what matters is listed.
use Rattle.std.proofs.Common.{◌≡◌, ℕ, ◌+◌, ◌-◌, ◌*◌, ◌^◌, Bool, true, false, not, ◌||◌, ◌&&◌, List, [], ◌∷◌, ◌++◌, map, ℤ, refl, pos, negsuc, replicate}
use Rattle.std.specs.Prelude.{◌==◌, nat_lt, nat_le, slice_set}
use Rattle.std.specs.List.{filter, flat_map, list_all, list_any, range_with_len}
use Rattle.std.specs.Int.{w32, to_le_bytes}
use Rattle.isa.specs.declared.Instr.{Instr}
use Rattle.isa.specs.declared.Instr.TheVariants.{Lb, Lh, Lw, Lbu, Lhu, Sb, Sh, Sw, Addi, Slti, Sltiu, Xori, Ori, Andi, Slli, Srli, Srai, Add, Sub, Sll, Slt, Sltu, Xor, Srl, Sra, Or, And, Mul, Mulh, Mulhsu, Mulhu, Div, Divu, Rem, Remu}
use Rattle.isa.specs.Machine.{State, Outcome, Retired, Called, Trapped, reg, execute, effect_of, place_of}
use Rattle.flow_model.specs.declared.Loc.{Loc}
use Rattle.flow_model.specs.declared.Loc.TheVariants.{Reg, Mem}
use Rattle.flow_model.specs.declared.Rule.{Rule}
use Rattle.flow_model.specs.declared.Rule.TheVariants.{Copy, Keep, Compute, Index}
use Rattle.flow_model.specs.Flow.{Target, flow, origins_by, loc_eq}
use Rattle.answer_meaning.specs.Content.{content, lane_of}

-- ---- two states that differ at one location

-- x1 and x2 have these words, and so has memory from 0 on; the other registers are 0
abbrev state_of : ℕ → ℕ → State
state_of v w = record { pc = 0; registers = 0 ∷ v ∷ w ∷ replicate 29 0; base = 0; memory = to_le_bytes w32 v ++ to_le_bytes w32 w }

-- the state with another byte at a location
abbrev with_byte : State → Loc → ℕ → State
with_byte s (Reg r i) b = record s { registers = slice_set s.registers r (reg s r - lane_of (reg s r) i * 256 ^ i + b * 256 ^ i) }
with_byte s (Mem p) b = record s { memory = slice_set s.memory (p - s.base) b }

-- where both retire, they leave other contents
abbrev leave_others : Loc → Outcome → Outcome → Bool
leave_others target (Retired s) (Retired t) = not (content s target == content t target)
leave_others target (Retired s) (Called call) = false
leave_others target (Retired s) (Trapped kind) = false
leave_others target (Called call) o = false
leave_others target (Trapped kind) o = false

-- the target's content after the instruction is another where the origin has this byte
abbrev differs : Instr → Loc → Loc → State → ℕ → Bool
differs i target origin s b = let t = with_byte s origin b in leave_others target (execute s (effect_of s i)) (execute t (effect_of t i))

abbrev tried : List State
tried =
    state_of 0x00000000 0x00000000 ∷ state_of 0x01010101 0x01010101 ∷ state_of 0x01010101 0xff000000 ∷
    state_of 0x80000000 0x80000000 ∷ state_of 0xffffffff 0x00000014 ∷ state_of 0x0000000c 0x00ffffff ∷ []

-- some state differs from one with 0, 1 or 255 there
abbrev matters : Instr → Loc → Loc → Bool
matters i target origin = list_any (λ s. list_any (differs i target origin s) (0 ∷ 1 ∷ 255 ∷ [])) tried

-- ---- the table

abbrev table : Rule → Instr → List Target
table rule i = flow rule i (place_of (state_of 0 0) i)

-- each target with each of its origins
abbrev listed : Instr → List (Loc × Loc)
listed i = flat_map (λ t. map (λ o. (t.loc, o)) t.origins) (table Compute i)

-- those for which no states were found
abbrev idle : Instr → List (Loc × Loc)
idle i = filter (λ p. not (matters i p.0 p.1)) (listed i)

abbrev lane_number : Loc → ℕ
lane_number (Reg r i) = i
lane_number (Mem p) = 0

abbrev is_of : ℕ → Loc → Bool
is_of q (Reg r i) = r == q
is_of q (Mem p) = false

-- those of which a test is true
abbrev such : (Loc → Loc → Bool) → Instr → List (Loc × Loc)
such test i = filter (λ p. test p.0 p.1) (listed i)

-- ---- what was found

-- of these each origin matters
abbrev loads : List Instr
loads = Lb 3 5 (pos 0) ∷ Lh 3 5 (pos 0) ∷ Lw 3 5 (pos 0) ∷ Lbu 3 5 (pos 0) ∷ Lhu 3 5 (pos 0) ∷ []

abbrev stores : List Instr
stores = Sb 5 1 (pos 0) ∷ Sh 5 1 (pos 0) ∷ Sw 5 1 (pos 0) ∷ []

abbrev tight : List Instr
tight =
    Addi 3 1 (pos 0) ∷ Add 3 1 0 ∷ Add 3 0 2 ∷ Or 3 1 0 ∷ Or 3 0 2 ∷ Xor 3 1 0 ∷ Xor 3 0 2 ∷
    Or 3 1 2 ∷ Xor 3 1 2 ∷ And 3 1 2 ∷ Slt 3 1 2 ∷ Sltu 3 1 2 ∷ Slt 3 0 2 ∷ Sltu 3 0 2 ∷
    Mulh 3 1 2 ∷ Mulhsu 3 1 2 ∷ Mulhu 3 1 2 ∷ Div 3 1 2 ∷ Rem 3 1 2 ∷ Remu 3 1 2 ∷ Div 3 0 2 ∷ Divu 3 0 2 ∷
    And 3 1 1 ∷ Or 3 1 1 ∷ Mulh 3 1 1 ∷ Div 3 1 1 ∷ Divu 3 1 1 ∷
    Xori 3 1 (pos 255) ∷ Andi 3 1 (negsuc 0) ∷ Ori 3 1 (pos 0) ∷ Slti 3 1 (pos 1) ∷ Sltiu 3 1 (pos 1) ∷ []

all_matter : flat_map idle (loads ++ stores ++ tight) ≡ []
all_matter = refl

-- a sum, a product and a shift to the left have no content from lanes above
abbrev from_below : List Instr
from_below = Addi 3 1 (pos 1) ∷ Addi 3 1 (negsuc 0) ∷ Add 3 1 2 ∷ Sub 3 1 2 ∷ Sub 3 0 2 ∷ Mul 3 1 2 ∷ Sll 3 1 2 ∷ []

none_above : map idle from_below ≡ map (such (λ target origin. nat_lt (lane_number target) (lane_number origin))) from_below
none_above = refl

-- a shift to the right and an unsigned quotient have none from lanes below
abbrev from_above : List Instr
from_above = Srl 3 1 2 ∷ Sra 3 1 2 ∷ Divu 3 1 2 ∷ []

none_below : map idle from_above ≡ map (such (λ target origin. is_of 1 origin && nat_lt (lane_number origin) (lane_number target))) from_above
none_below = refl

-- with x0 some are moves
abbrev moves : List Instr
moves = Sub 3 1 0 ∷ Sll 3 1 0 ∷ Srl 3 1 0 ∷ Sra 3 1 0 ∷ Rem 3 1 0 ∷ Remu 3 1 0 ∷ []

none_elsewhere : map idle moves ≡ map (such (λ target origin. not (lane_number target == lane_number origin))) moves
none_elsewhere = refl

-- and some have one result whatever the other operand is; so have some whose operands are one register
abbrev constants : List Instr
constants =
    And 3 1 0 ∷ And 3 0 2 ∷ Sltu 3 1 0 ∷ Sltiu 3 1 (pos 0) ∷ Andi 3 1 (pos 0) ∷ Ori 3 1 (negsuc 0) ∷ Sll 3 0 2 ∷ Srl 3 0 2 ∷ Sra 3 0 2 ∷
    Mul 3 1 0 ∷ Mul 3 0 2 ∷ Mulh 3 1 0 ∷ Mulh 3 0 2 ∷ Mulhsu 3 1 0 ∷ Mulhsu 3 0 2 ∷ Mulhu 3 1 0 ∷ Mulhu 3 0 2 ∷
    Div 3 1 0 ∷ Divu 3 1 0 ∷ Rem 3 0 2 ∷ Remu 3 0 2 ∷
    Sub 3 1 1 ∷ Xor 3 1 1 ∷ Slt 3 1 1 ∷ Sltu 3 1 1 ∷ Rem 3 1 1 ∷ Remu 3 1 1 ∷ []

none_at_all : map idle constants ≡ map listed constants
none_at_all = refl

-- a signed comparison with 0 looks at the sign
abbrev signs : List Instr
signs = Slt 3 1 0 ∷ Slti 3 1 (pos 0) ∷ []

sign_alone : map idle signs ≡ map (such (λ target origin. nat_lt (lane_number origin) 3)) signs
sign_alone = refl

-- a comparison with a multiple of 256 doesn't look at the lowest lane
abbrev coarse : List Instr
coarse = Slti 3 1 (pos 256) ∷ Slti 3 1 (negsuc 255) ∷ Sltiu 3 1 (pos 256) ∷ Sltiu 3 1 (negsuc 255) ∷ []

lowest_unseen : map idle coarse ≡ map (such (λ target origin. lane_number origin == 0)) coarse
lowest_unseen = refl

-- ANDI keeps no lane where the immediate's is 0, ORI none where it is 255
neutral_lanes : (idle (Andi 3 1 (pos 255)) ≡ (Reg 3 1, Reg 1 1) ∷ (Reg 3 2, Reg 1 2) ∷ (Reg 3 3, Reg 1 3) ∷ [])
    × (idle (Andi 3 1 (negsuc 255)) ≡ (Reg 3 0, Reg 1 0) ∷ [])
    × (idle (Ori 3 1 (pos 255)) ≡ (Reg 3 0, Reg 1 0) ∷ [])
    × (idle (Ori 3 1 (negsuc 255)) ≡ (Reg 3 1, Reg 1 1) ∷ (Reg 3 2, Reg 1 2) ∷ (Reg 3 3, Reg 1 3) ∷ [])
neutral_lanes = (refl, refl, refl, refl)

-- no carry comes from lane 0 where the immediate's is 0
no_carry : idle (Addi 3 1 (pos 256)) ≡ filter (λ p. nat_lt (lane_number p.0) (lane_number p.1) || (nat_lt 0 (lane_number p.0) && (lane_number p.1 == 0))) (listed (Addi 3 1 (pos 256)))
no_carry = refl

-- a register that is doubled is shifted by one bit
doubled : idle (Add 3 1 1) ≡ filter (λ p. nat_lt (lane_number p.0) (lane_number p.1) || nat_lt (lane_number p.1 + 1) (lane_number p.0)) (listed (Add 3 1 1))
doubled = refl

-- ---- shifts by an immediate: an origin matters where a bit of it comes into the target

-- bits from a up to a + 8, and bits from b up to b + 8, have some in common
abbrev overlap : ℕ → ℕ → Bool
overlap a b = nat_lt a (b + 8) && nat_lt b (a + 8)

abbrev to_left : ℕ → Loc → Loc → Bool
to_left k target origin = overlap (8 * lane_number target) (8 * lane_number origin + k)

abbrev to_right : ℕ → Loc → Loc → Bool
to_right k target origin = overlap (8 * lane_number target + k) (8 * lane_number origin)

-- the sign fills what is free
abbrev to_right_signed : ℕ → Loc → Loc → Bool
to_right_signed k target origin = to_right k target origin || (nat_lt 2 (lane_number origin) && nat_le 24 (8 * lane_number target + k))

shifts_by_bits : (map (λ k. idle (Slli 3 1 k)) (range_with_len 0 32) ≡ map (λ k. such (λ t o. not (to_left k t o)) (Slli 3 1 k)) (range_with_len 0 32))
    × (map (λ k. idle (Srli 3 1 k)) (range_with_len 0 32) ≡ map (λ k. such (λ t o. not (to_right k t o)) (Srli 3 1 k)) (range_with_len 0 32))
    × (map (λ k. idle (Srai 3 1 k)) (range_with_len 0 32) ≡ map (λ k. such (λ t o. not (to_right_signed k t o)) (Srai 3 1 k)) (range_with_len 0 32))
shifts_by_bits = (refl, refl, refl)

-- ---- what matters is listed

abbrev pairs : List Loc → List Loc → List (Loc × Loc)
pairs ls ms = flat_map (λ l. map (λ m. (l, m)) ms) ls

abbrev lanes_of : ℕ → List Loc
lanes_of r = map (λ i. Reg r i) (range_with_len 0 4)

abbrev bytes_of_memory : List Loc
bytes_of_memory = map (λ p. Mem p) (range_with_len 0 8)

abbrev is_listed : Rule → Instr → Loc → Loc → Bool
is_listed rule i target origin = list_any (loc_eq origin) (origins_by (table rule i) target)

-- of these targets and locations those of which the location matters, and isn't listed
abbrev unlisted : Rule → List Loc → List Loc → Instr → List (Loc × Loc)
unlisted rule targets from i = filter (λ p. matters i p.0 p.1) (filter (λ p. not (is_listed rule i p.0 p.1)) (pairs targets from))

abbrev operations : List Instr
operations =
    Addi 3 1 (pos 0) ∷ Addi 3 1 (pos 1) ∷ Slti 3 1 (pos 1) ∷ Sltiu 3 1 (pos 1) ∷ Xori 3 1 (pos 255) ∷ Ori 3 1 (pos 255) ∷ Andi 3 1 (pos 255) ∷
    Slli 3 1 9 ∷ Srli 3 1 9 ∷ Srai 3 1 9 ∷ Add 3 1 2 ∷ Add 3 1 0 ∷ Sub 3 1 2 ∷ Sll 3 1 2 ∷ Slt 3 1 2 ∷ Sltu 3 1 2 ∷ Xor 3 1 2 ∷ Xor 3 0 2 ∷
    Srl 3 1 2 ∷ Sra 3 1 2 ∷ Or 3 1 2 ∷ Or 3 1 0 ∷ And 3 1 2 ∷ Mul 3 1 2 ∷ Mulh 3 1 2 ∷ Mulhsu 3 1 2 ∷ Mulhu 3 1 2 ∷ Div 3 1 2 ∷ Divu 3 1 2 ∷ Rem 3 1 2 ∷ Remu 3 1 2 ∷ []

none_unlisted : (flat_map (unlisted Compute (lanes_of 3) (lanes_of 1 ++ lanes_of 2)) operations ≡ [])
    × (flat_map (unlisted Compute (lanes_of 3) bytes_of_memory) loads ≡ [])
    × (flat_map (unlisted Compute bytes_of_memory (lanes_of 1)) stores ≡ [])
none_unlisted = (refl, refl, refl)

-- under index the base of a load too
no_base_unlisted : flat_map (unlisted Index (lanes_of 3) (lanes_of 5)) loads ≡ []
no_base_unlisted = refl

-- ---- what flows by copy, and by keep, is the byte

abbrev leaves : Loc → ℕ → Outcome → Bool
leaves target v (Retired s) = content s target == v
leaves target v (Called call) = true
leaves target v (Trapped kind) = true

abbrev is_moved : Instr → Target → Bool
is_moved i t = list_all (λ o. list_all (λ s. leaves t.loc (content s o) (execute s (effect_of s i))) tried) t.origins

copies_move : list_all (λ i. list_all (is_moved i) (table Copy i)) (loads ++ stores ++ operations) ≡ true
copies_move = refl

-- bitwise operations with an immediate, and shifts by one
abbrev masks : List ℤ
masks = pos 0 ∷ pos 255 ∷ pos 256 ∷ pos 2047 ∷ negsuc 0 ∷ negsuc 15 ∷ negsuc 255 ∷ negsuc 2047 ∷ []

abbrev keeping : List Instr
keeping =
    flat_map (λ m. Andi 3 1 m ∷ Ori 3 1 m ∷ Xori 3 1 m ∷ []) masks ++ flat_map (λ k. Slli 3 1 k ∷ Srli 3 1 k ∷ Srai 3 1 k ∷ []) (range_with_len 0 32)

keeps_move : list_all (λ i. list_all (is_moved i) (table Keep i)) (loads ++ stores ++ operations ++ keeping) ≡ true
keeps_move = refl

-- what comes from none by keep is in none of the lanes, in one of these states at least: no move is left out
abbrev is_somewhere : Instr → Target → Bool
is_somewhere i t = list_any (λ o. is_moved i (record { loc = t.loc; origins = o ∷ [] })) (lanes_of 1)

abbrev is_empty : List Loc → Bool
is_empty [] = true
is_empty (l ∷ ls) = false

no_move_is_missed : list_any (λ i. list_any (λ t. is_empty t.origins && is_somewhere i t) (table Keep i)) keeping ≡ false
no_move_is_missed = refl
