-- The word of an instruction, and which instructions have one ("Base Instruction Formats" and "Immediate
-- Encoding Variants").
use Rattle.std.specs.Prelude.{◌≡◌, ℕ, ◌+◌, ◌-◌, ◌*◌, ◌%◌, ◌^◌, ◌<◌, ℤ, pos, ◌≤ℤ◌, ◌<ℤ◌, neg_ℤ}
use Rattle.std.specs.Int.{w32, cast_unsigned}
use Rattle.isa.specs.Words.{field}
use Rattle.isa.specs.declared.Instr.{Instr}
use Rattle.isa.specs.declared.Instr.TheVariants.{Lui, Auipc, Jal, Jalr, Beq, Bne, Blt, Bge, Bltu, Bgeu, Lb, Lh, Lw, Lbu, Lhu, Sb, Sh, Sw, Addi, Slti, Sltiu, Xori, Ori, Andi, Slli, Srli, Srai, Add, Sub, Sll, Slt, Sltu, Xor, Srl, Sra, Or, And, Mul, Mulh, Mulhsu, Mulhu, Div, Divu, Rem, Remu, Fence, Ecall, Ebreak}

-- the low n bits of an immediate
abbrev pub low : ℕ → ℤ → ℕ
low n imm = cast_unsigned w32 imm % 2 ^ n

-- a word from its fields
abbrev pub fields : ℕ → ℕ → ℕ → ℕ → ℕ → ℕ → ℕ
fields op d f3 s1 s2 f7 = op + d * 2 ^ 7 + f3 * 2 ^ 12 + s1 * 2 ^ 15 + s2 * 2 ^ 20 + f7 * 2 ^ 25

abbrev pub i_form : ℕ → ℕ → ℕ → ℕ → ℤ → ℕ
i_form op f3 d s1 imm = fields op d f3 s1 0 0 + low 12 imm * 2 ^ 20

abbrev pub s_form : ℕ → ℕ → ℕ → ℤ → ℕ
s_form f3 s1 s2 imm = fields 0b0100011 (field (low 12 imm) 0 5) f3 s1 s2 (field (low 12 imm) 5 7)

abbrev pub b_form : ℕ → ℕ → ℕ → ℤ → ℕ
b_form f3 s1 s2 imm = let v = low 13 imm in
    fields 0b1100011 (field v 1 4 * 2 + field v 11 1) f3 s1 s2 (field v 12 1 * 2 ^ 6 + field v 5 6)

abbrev pub u_form : ℕ → ℕ → ℤ → ℕ
u_form op d imm = op + d * 2 ^ 7 + field (low 32 imm) 12 20 * 2 ^ 12

abbrev pub j_form : ℕ → ℤ → ℕ
j_form d imm = let v = low 21 imm in
    0b1101111 + d * 2 ^ 7 + field v 12 8 * 2 ^ 12 + field v 11 1 * 2 ^ 20 + field v 1 10 * 2 ^ 21 + field v 20 1 * 2 ^ 31

abbrev pub r_form : ℕ → ℕ → ℕ → ℕ → ℕ → ℕ
r_form k d s1 s2 f7 = fields 0b0110011 d k s1 s2 f7

-- the word of an instruction
abbrev pub encoding : Instr → ℕ
encoding (Lui d imm) = u_form 0b0110111 d imm
encoding (Auipc d imm) = u_form 0b0010111 d imm
encoding (Jal d imm) = j_form d imm
encoding (Jalr d s1 imm) = i_form 0b1100111 0 d s1 imm
encoding (Beq s1 s2 imm) = b_form 0 s1 s2 imm
encoding (Bne s1 s2 imm) = b_form 1 s1 s2 imm
encoding (Blt s1 s2 imm) = b_form 4 s1 s2 imm
encoding (Bge s1 s2 imm) = b_form 5 s1 s2 imm
encoding (Bltu s1 s2 imm) = b_form 6 s1 s2 imm
encoding (Bgeu s1 s2 imm) = b_form 7 s1 s2 imm
encoding (Lb d s1 imm) = i_form 0b0000011 0 d s1 imm
encoding (Lh d s1 imm) = i_form 0b0000011 1 d s1 imm
encoding (Lw d s1 imm) = i_form 0b0000011 2 d s1 imm
encoding (Lbu d s1 imm) = i_form 0b0000011 4 d s1 imm
encoding (Lhu d s1 imm) = i_form 0b0000011 5 d s1 imm
encoding (Sb s1 s2 imm) = s_form 0 s1 s2 imm
encoding (Sh s1 s2 imm) = s_form 1 s1 s2 imm
encoding (Sw s1 s2 imm) = s_form 2 s1 s2 imm
encoding (Addi d s1 imm) = i_form 0b0010011 0 d s1 imm
encoding (Slti d s1 imm) = i_form 0b0010011 2 d s1 imm
encoding (Sltiu d s1 imm) = i_form 0b0010011 3 d s1 imm
encoding (Xori d s1 imm) = i_form 0b0010011 4 d s1 imm
encoding (Ori d s1 imm) = i_form 0b0010011 6 d s1 imm
encoding (Andi d s1 imm) = i_form 0b0010011 7 d s1 imm
encoding (Slli d s1 amount) = fields 0b0010011 d 1 s1 amount 0
encoding (Srli d s1 amount) = fields 0b0010011 d 5 s1 amount 0
encoding (Srai d s1 amount) = fields 0b0010011 d 5 s1 amount 0b0100000
encoding (Add d s1 s2) = r_form 0 d s1 s2 0
encoding (Sub d s1 s2) = r_form 0 d s1 s2 0b0100000
encoding (Sll d s1 s2) = r_form 1 d s1 s2 0
encoding (Slt d s1 s2) = r_form 2 d s1 s2 0
encoding (Sltu d s1 s2) = r_form 3 d s1 s2 0
encoding (Xor d s1 s2) = r_form 4 d s1 s2 0
encoding (Srl d s1 s2) = r_form 5 d s1 s2 0
encoding (Sra d s1 s2) = r_form 5 d s1 s2 0b0100000
encoding (Or d s1 s2) = r_form 6 d s1 s2 0
encoding (And d s1 s2) = r_form 7 d s1 s2 0
encoding (Mul d s1 s2) = r_form 0 d s1 s2 1
encoding (Mulh d s1 s2) = r_form 1 d s1 s2 1
encoding (Mulhsu d s1 s2) = r_form 2 d s1 s2 1
encoding (Mulhu d s1 s2) = r_form 3 d s1 s2 1
encoding (Div d s1 s2) = r_form 4 d s1 s2 1
encoding (Divu d s1 s2) = r_form 5 d s1 s2 1
encoding (Rem d s1 s2) = r_form 6 d s1 s2 1
encoding (Remu d s1 s2) = r_form 7 d s1 s2 1
encoding (Fence kept) = 0b0001111 + field kept 0 5 * 2 ^ 7 + field kept 5 17 * 2 ^ 15
encoding Ecall = 0x00000073
encoding Ebreak = 0x00100073

-- a register's number; a signed immediate of n bits that is a multiple of m
abbrev pub IsRegister : ℕ → Type 0
IsRegister r = r < 32

pub record IsImmediate (n m : ℕ) (imm : ℤ) : Type 0 where
  pub above : neg_ℤ (pos (2 ^ (n - 1))) ≤ℤ imm
  pub below : imm <ℤ pos (2 ^ (n - 1))
  pub multiple : low 32 imm % m ≡ 0

-- registers and immediates that have room in the word
abbrev pub FitsBranch : ℕ → ℕ → ℤ → Type 0
FitsBranch a b imm = IsRegister a × IsRegister b × IsImmediate 13 2 imm

abbrev pub FitsSmallImmediate : ℕ → ℕ → ℤ → Type 0
FitsSmallImmediate a b imm = IsRegister a × IsRegister b × IsImmediate 12 1 imm

abbrev pub FitsThree : ℕ → ℕ → ℕ → Type 0
FitsThree a b c = IsRegister a × IsRegister b × IsRegister c

abbrev pub Fits : Instr → Type 0
Fits (Lui d imm) = IsRegister d × IsImmediate 32 (2 ^ 12) imm
Fits (Auipc d imm) = IsRegister d × IsImmediate 32 (2 ^ 12) imm
Fits (Jal d imm) = IsRegister d × IsImmediate 21 2 imm
Fits (Jalr d s1 imm) = FitsSmallImmediate d s1 imm
Fits (Beq s1 s2 imm) = FitsBranch s1 s2 imm
Fits (Bne s1 s2 imm) = FitsBranch s1 s2 imm
Fits (Blt s1 s2 imm) = FitsBranch s1 s2 imm
Fits (Bge s1 s2 imm) = FitsBranch s1 s2 imm
Fits (Bltu s1 s2 imm) = FitsBranch s1 s2 imm
Fits (Bgeu s1 s2 imm) = FitsBranch s1 s2 imm
Fits (Lb d s1 imm) = FitsSmallImmediate d s1 imm
Fits (Lh d s1 imm) = FitsSmallImmediate d s1 imm
Fits (Lw d s1 imm) = FitsSmallImmediate d s1 imm
Fits (Lbu d s1 imm) = FitsSmallImmediate d s1 imm
Fits (Lhu d s1 imm) = FitsSmallImmediate d s1 imm
Fits (Sb s1 s2 imm) = FitsSmallImmediate s1 s2 imm
Fits (Sh s1 s2 imm) = FitsSmallImmediate s1 s2 imm
Fits (Sw s1 s2 imm) = FitsSmallImmediate s1 s2 imm
Fits (Addi d s1 imm) = FitsSmallImmediate d s1 imm
Fits (Slti d s1 imm) = FitsSmallImmediate d s1 imm
Fits (Sltiu d s1 imm) = FitsSmallImmediate d s1 imm
Fits (Xori d s1 imm) = FitsSmallImmediate d s1 imm
Fits (Ori d s1 imm) = FitsSmallImmediate d s1 imm
Fits (Andi d s1 imm) = FitsSmallImmediate d s1 imm
Fits (Slli d s1 amount) = FitsThree d s1 amount
Fits (Srli d s1 amount) = FitsThree d s1 amount
Fits (Srai d s1 amount) = FitsThree d s1 amount
Fits (Add d s1 s2) = FitsThree d s1 s2
Fits (Sub d s1 s2) = FitsThree d s1 s2
Fits (Sll d s1 s2) = FitsThree d s1 s2
Fits (Slt d s1 s2) = FitsThree d s1 s2
Fits (Sltu d s1 s2) = FitsThree d s1 s2
Fits (Xor d s1 s2) = FitsThree d s1 s2
Fits (Srl d s1 s2) = FitsThree d s1 s2
Fits (Sra d s1 s2) = FitsThree d s1 s2
Fits (Or d s1 s2) = FitsThree d s1 s2
Fits (And d s1 s2) = FitsThree d s1 s2
Fits (Mul d s1 s2) = FitsThree d s1 s2
Fits (Mulh d s1 s2) = FitsThree d s1 s2
Fits (Mulhsu d s1 s2) = FitsThree d s1 s2
Fits (Mulhu d s1 s2) = FitsThree d s1 s2
Fits (Div d s1 s2) = FitsThree d s1 s2
Fits (Divu d s1 s2) = FitsThree d s1 s2
Fits (Rem d s1 s2) = FitsThree d s1 s2
Fits (Remu d s1 s2) = FitsThree d s1 s2
Fits (Fence kept) = kept < 2 ^ 22
Fits Ecall = Unit {0}
Fits Ebreak = Unit {0}
