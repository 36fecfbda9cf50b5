-- The registers that an instruction moves values between, as a word with a bit for each.
use Rattle.std.specs.Prelude.{ℕ, ◌^◌, ◌==◌, if◌then◌else◌, bit_or}
use Rattle.isa.specs.declared.Instr.{Instr}
use Rattle.isa.specs.declared.Instr.TheVariants.{Lui, Auipc, Jal, Jalr, Beq, Bne, Blt, Bge, Bltu, Bgeu, Lb, Lh, Lw, Lbu, Lhu, Sb, Sh, Sw, Addi, Slti, Sltiu, Xori, Ori, Andi, Slli, Srli, Srai, Add, Sub, Sll, Slt, Sltu, Xor, Srl, Sra, Or, And, Mul, Mulh, Mulhsu, Mulhu, Div, Divu, Rem, Remu, Fence, Ecall, Ebreak}

-- the bit of a register; x0 has none
abbrev pub register_bit : ℕ → ℕ
register_bit r = if r == 0 then 0 else 2 ^ r

-- the bits of two, or of three, registers
abbrev pub two_bits : ℕ → ℕ → ℕ
two_bits d a = bit_or (register_bit d) (register_bit a)

abbrev pub three_bits : ℕ → ℕ → ℕ → ℕ
three_bits d a b = bit_or (register_bit d) (bit_or (register_bit a) (register_bit b))

-- of the register that an instruction sets and of those from which it computes what it sets. A load or a store has none, since
-- its flow is that between memory and a register
abbrev pub registers_of : Instr → ℕ
registers_of (Lui d imm) = register_bit d
registers_of (Auipc d imm) = register_bit d
registers_of (Jal d imm) = register_bit d
registers_of (Jalr d a imm) = register_bit d
registers_of (Beq a b imm) = 0
registers_of (Bne a b imm) = 0
registers_of (Blt a b imm) = 0
registers_of (Bge a b imm) = 0
registers_of (Bltu a b imm) = 0
registers_of (Bgeu a b imm) = 0
registers_of (Lb d a imm) = 0
registers_of (Lh d a imm) = 0
registers_of (Lw d a imm) = 0
registers_of (Lbu d a imm) = 0
registers_of (Lhu d a imm) = 0
registers_of (Sb a b imm) = 0
registers_of (Sh a b imm) = 0
registers_of (Sw a b imm) = 0
registers_of (Addi d a imm) = two_bits d a
registers_of (Slti d a imm) = two_bits d a
registers_of (Sltiu d a imm) = two_bits d a
registers_of (Xori d a imm) = two_bits d a
registers_of (Ori d a imm) = two_bits d a
registers_of (Andi d a imm) = two_bits d a
registers_of (Slli d a k) = two_bits d a
registers_of (Srli d a k) = two_bits d a
registers_of (Srai d a k) = two_bits d a
registers_of (Add d a b) = three_bits d a b
registers_of (Sub d a b) = three_bits d a b
registers_of (Sll d a b) = three_bits d a b
registers_of (Slt d a b) = three_bits d a b
registers_of (Sltu d a b) = three_bits d a b
registers_of (Xor d a b) = three_bits d a b
registers_of (Srl d a b) = three_bits d a b
registers_of (Sra d a b) = three_bits d a b
registers_of (Or d a b) = three_bits d a b
registers_of (And d a b) = three_bits d a b
registers_of (Mul d a b) = three_bits d a b
registers_of (Mulh d a b) = three_bits d a b
registers_of (Mulhsu d a b) = three_bits d a b
registers_of (Mulhu d a b) = three_bits d a b
registers_of (Div d a b) = three_bits d a b
registers_of (Divu d a b) = three_bits d a b
registers_of (Rem d a b) = three_bits d a b
registers_of (Remu d a b) = three_bits d a b
registers_of (Fence kept) = 0
registers_of Ecall = 0
registers_of Ebreak = 0
