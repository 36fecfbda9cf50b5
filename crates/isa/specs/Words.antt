-- The instruction that a 32-bit word stands for ("RV32I Base Integer Instruction Set", "'M' Extension for Integer
-- Multiplication and Division", and the tables of "RV32/64G Instruction Set Listings").
use Rattle.std.specs.Prelude.{ℕ, ◌+◌, ◌-◌, ◌*◌, ◌/◌, ◌%◌, ◌^◌, ◌==◌, nat_lt, if◌then◌else◌, List, [], ◌∷◌, ℤ, pos, negsuc, Option, Some, None}
use Rattle.std.specs.Option.{option_and_then, option_map}
use Rattle.isa.specs.declared.Instr.{Instr}
use Rattle.isa.specs.declared.Instr.TheVariants.{Lui, Auipc, Jal, Jalr, Beq, Bne, Blt, Bge, Bltu, Bgeu, Lb, Lh, Lw, Lbu, Lhu, Sb, Sh, Sw, Addi, Slti, Sltiu, Xori, Ori, Andi, Slli, Srli, Srai, Add, Sub, Sll, Slt, Sltu, Xor, Srl, Sra, Or, And, Mul, Mulh, Mulhsu, Mulhu, Div, Divu, Rem, Remu, Fence, Ecall, Ebreak}

-- the n bits of w from bit low up
abbrev pub field : ℕ → ℕ → ℕ → ℕ
field w low n = w / 2 ^ low % 2 ^ n

-- a number of n bits as a signed one: its highest bit is the sign
abbrev pub signed : ℕ → ℕ → ℤ
signed n v = if nat_lt v (2 ^ (n - 1)) then pos v else negsuc (2 ^ n - 1 - v)

abbrev pub opcode : ℕ → ℕ
opcode w = field w 0 7

abbrev pub rd : ℕ → ℕ
rd w = field w 7 5

abbrev pub funct3 : ℕ → ℕ
funct3 w = field w 12 3

abbrev pub rs1 : ℕ → ℕ
rs1 w = field w 15 5

abbrev pub rs2 : ℕ → ℕ
rs2 w = field w 20 5

abbrev pub funct7 : ℕ → ℕ
funct7 w = field w 25 7

-- "Immediate Encoding Variants": the immediates of the five forms, sign-extended
abbrev pub imm_i : ℕ → ℤ
imm_i w = signed 12 (field w 20 12)

abbrev pub imm_s : ℕ → ℤ
imm_s w = signed 12 (field w 25 7 * 2 ^ 5 + field w 7 5)

abbrev pub imm_b : ℕ → ℤ
imm_b w = signed 13 (field w 31 1 * 2 ^ 12 + field w 7 1 * 2 ^ 11 + field w 25 6 * 2 ^ 5 + field w 8 4 * 2)

abbrev pub imm_u : ℕ → ℤ
imm_u w = signed 32 (field w 12 20 * 2 ^ 12)

abbrev pub imm_j : ℕ → ℤ
imm_j w = signed 21 (field w 31 1 * 2 ^ 20 + field w 12 8 * 2 ^ 12 + field w 20 1 * 2 ^ 11 + field w 21 10 * 2)

-- what a table has at a number: the first entry of that number
abbrev pub entry : {X : Type 0} → List (ℕ × X) → ℕ → Option X
entry [] k = None
entry (row ∷ rows) k = if row.0 == k then Some row.1 else entry rows k

-- "Conditional Branches", "Load and Store Instructions" and "Integer Register-Immediate Instructions", by funct3
abbrev pub branches : List (ℕ × (ℕ → Instr))
branches =
    (0, λ w. Beq (rs1 w) (rs2 w) (imm_b w)) ∷ (1, λ w. Bne (rs1 w) (rs2 w) (imm_b w)) ∷
    (4, λ w. Blt (rs1 w) (rs2 w) (imm_b w)) ∷ (5, λ w. Bge (rs1 w) (rs2 w) (imm_b w)) ∷
    (6, λ w. Bltu (rs1 w) (rs2 w) (imm_b w)) ∷ (7, λ w. Bgeu (rs1 w) (rs2 w) (imm_b w)) ∷ []

abbrev pub loads : List (ℕ × (ℕ → Instr))
loads =
    (0, λ w. Lb (rd w) (rs1 w) (imm_i w)) ∷ (1, λ w. Lh (rd w) (rs1 w) (imm_i w)) ∷
    (2, λ w. Lw (rd w) (rs1 w) (imm_i w)) ∷ (4, λ w. Lbu (rd w) (rs1 w) (imm_i w)) ∷
    (5, λ w. Lhu (rd w) (rs1 w) (imm_i w)) ∷ []

abbrev pub stores : List (ℕ × (ℕ → Instr))
stores =
    (0, λ w. Sb (rs1 w) (rs2 w) (imm_s w)) ∷ (1, λ w. Sh (rs1 w) (rs2 w) (imm_s w)) ∷
    (2, λ w. Sw (rs1 w) (rs2 w) (imm_s w)) ∷ []

abbrev pub immediates : List (ℕ × (ℕ → Instr))
immediates =
    (0, λ w. Addi (rd w) (rs1 w) (imm_i w)) ∷ (2, λ w. Slti (rd w) (rs1 w) (imm_i w)) ∷
    (3, λ w. Sltiu (rd w) (rs1 w) (imm_i w)) ∷ (4, λ w. Xori (rd w) (rs1 w) (imm_i w)) ∷
    (6, λ w. Ori (rd w) (rs1 w) (imm_i w)) ∷ (7, λ w. Andi (rd w) (rs1 w) (imm_i w)) ∷ []

-- shifts by an immediate, "Integer Register-Register Operations", and "Multiplication Operations" and "Division
-- Operations", by funct7 * 8 + funct3: 256 stands for a funct7 of 0100000, 8 for one of 0000001
abbrev pub shifts : List (ℕ × (ℕ → Instr))
shifts =
    (1, λ w. Slli (rd w) (rs1 w) (rs2 w)) ∷ (5, λ w. Srli (rd w) (rs1 w) (rs2 w)) ∷
    (256 + 5, λ w. Srai (rd w) (rs1 w) (rs2 w)) ∷ []

abbrev pub operations : List (ℕ × (ℕ → Instr))
operations =
    (0, λ w. Add (rd w) (rs1 w) (rs2 w)) ∷ (256, λ w. Sub (rd w) (rs1 w) (rs2 w)) ∷
    (1, λ w. Sll (rd w) (rs1 w) (rs2 w)) ∷ (2, λ w. Slt (rd w) (rs1 w) (rs2 w)) ∷
    (3, λ w. Sltu (rd w) (rs1 w) (rs2 w)) ∷ (4, λ w. Xor (rd w) (rs1 w) (rs2 w)) ∷
    (5, λ w. Srl (rd w) (rs1 w) (rs2 w)) ∷ (256 + 5, λ w. Sra (rd w) (rs1 w) (rs2 w)) ∷
    (6, λ w. Or (rd w) (rs1 w) (rs2 w)) ∷ (7, λ w. And (rd w) (rs1 w) (rs2 w)) ∷
    (8 + 0, λ w. Mul (rd w) (rs1 w) (rs2 w)) ∷ (8 + 1, λ w. Mulh (rd w) (rs1 w) (rs2 w)) ∷
    (8 + 2, λ w. Mulhsu (rd w) (rs1 w) (rs2 w)) ∷ (8 + 3, λ w. Mulhu (rd w) (rs1 w) (rs2 w)) ∷
    (8 + 4, λ w. Div (rd w) (rs1 w) (rs2 w)) ∷ (8 + 5, λ w. Divu (rd w) (rs1 w) (rs2 w)) ∷
    (8 + 6, λ w. Rem (rd w) (rs1 w) (rs2 w)) ∷ (8 + 7, λ w. Remu (rd w) (rs1 w) (rs2 w)) ∷ []

abbrev pub jumps : List (ℕ × (ℕ → Instr))
jumps = (0, λ w. Jalr (rd w) (rs1 w) (imm_i w)) ∷ []

-- "Memory Ordering Instructions": a fence keeps bits 31..15 above bits 11..7
abbrev pub fences : List (ℕ × (ℕ → Instr))
fences = (0, λ w. Fence (field w 15 17 * 2 ^ 5 + field w 7 5)) ∷ []

-- "Environment Call and Breakpoints": the whole word decides
abbrev pub systems : List (ℕ × (ℕ → Instr))
systems = (0x00000073, λ w. Ecall) ∷ (0x00100073, λ w. Ebreak) ∷ []

abbrev pub looked_up : List (ℕ × (ℕ → Instr)) → ℕ → ℕ → Option Instr
looked_up table k w = option_map (λ make. make w) (entry table k)

abbrev pub funct7_funct3 : ℕ → ℕ
funct7_funct3 w = funct7 w * 8 + funct3 w

-- an operation on an immediate: a shift (funct3 001 or 101) has a funct7
abbrev pub immediate : ℕ → Option Instr
immediate w = if funct3 w % 4 == 1 then looked_up shifts (funct7_funct3 w) w else looked_up immediates (funct3 w) w

-- "RV32 base opcode map": by opcode
abbrev pub opcodes : List (ℕ × (ℕ → Option Instr))
opcodes =
    (0b0110111, λ w. Some (Lui (rd w) (imm_u w))) ∷
    (0b0010111, λ w. Some (Auipc (rd w) (imm_u w))) ∷
    (0b1101111, λ w. Some (Jal (rd w) (imm_j w))) ∷
    (0b1100111, λ w. looked_up jumps (funct3 w) w) ∷
    (0b1100011, λ w. looked_up branches (funct3 w) w) ∷
    (0b0000011, λ w. looked_up loads (funct3 w) w) ∷
    (0b0100011, λ w. looked_up stores (funct3 w) w) ∷
    (0b0010011, λ w. immediate w) ∷
    (0b0110011, λ w. looked_up operations (funct7_funct3 w) w) ∷
    (0b0001111, λ w. looked_up fences (funct3 w) w) ∷
    (0b1110011, λ w. looked_up systems w w) ∷ []

-- the instruction of a word; none where the word is illegal
abbrev pub instruction_of : ℕ → Option Instr
instruction_of w = option_and_then (λ row. row w) (entry opcodes (opcode w))
