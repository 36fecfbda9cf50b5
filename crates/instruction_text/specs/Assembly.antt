-- The text of an instruction: a line of the assembler, with registers by number ("RISC-V Assembly Programmer's Manual").
use Rattle.std.specs.Prelude.{ℕ, suc, ◌/◌, ◌^◌, ℤ, pos, negsuc, List, [], ◌++◌, codes}
use Rattle.std.specs.Int.{w32, cast_unsigned}
use Rattle.std.specs.Fmt.{decimal, signed_decimal}
use Rattle.isa.specs.declared.Instr.{Instr}
use Rattle.isa.specs.declared.Instr.TheVariants.{Lui, Auipc, Jal, Jalr, Beq, Bne, Blt, Bge, Bltu, Bgeu, Lb, Lh, Lw, Lbu, Lhu, Sb, Sh, Sw, Addi, Slti, Sltiu, Xori, Ori, Andi, Slli, Srli, Srai, Add, Sub, Sll, Slt, Sltu, Xor, Srl, Sra, Or, And, Mul, Mulh, Mulhsu, Mulhu, Div, Divu, Rem, Remu, Fence, Ecall, Ebreak}
use Rattle.instruction_text.specs.declared.Operands.{Operands}
use Rattle.instruction_text.specs.declared.Operands.TheVariants.{Nothing, Registers, Immediate, Amount, Address, Branch, Upper, Jump}

-- the mnemonic
abbrev pub mnemonic_of : Instr → List ℕ
mnemonic_of (Lui d imm) = codes "lui"
mnemonic_of (Auipc d imm) = codes "auipc"
mnemonic_of (Jal d imm) = codes "jal"
mnemonic_of (Jalr d a imm) = codes "jalr"
mnemonic_of (Beq a b imm) = codes "beq"
mnemonic_of (Bne a b imm) = codes "bne"
mnemonic_of (Blt a b imm) = codes "blt"
mnemonic_of (Bge a b imm) = codes "bge"
mnemonic_of (Bltu a b imm) = codes "bltu"
mnemonic_of (Bgeu a b imm) = codes "bgeu"
mnemonic_of (Lb d a imm) = codes "lb"
mnemonic_of (Lh d a imm) = codes "lh"
mnemonic_of (Lw d a imm) = codes "lw"
mnemonic_of (Lbu d a imm) = codes "lbu"
mnemonic_of (Lhu d a imm) = codes "lhu"
mnemonic_of (Sb a b imm) = codes "sb"
mnemonic_of (Sh a b imm) = codes "sh"
mnemonic_of (Sw a b imm) = codes "sw"
mnemonic_of (Addi d a imm) = codes "addi"
mnemonic_of (Slti d a imm) = codes "slti"
mnemonic_of (Sltiu d a imm) = codes "sltiu"
mnemonic_of (Xori d a imm) = codes "xori"
mnemonic_of (Ori d a imm) = codes "ori"
mnemonic_of (Andi d a imm) = codes "andi"
mnemonic_of (Slli d a k) = codes "slli"
mnemonic_of (Srli d a k) = codes "srli"
mnemonic_of (Srai d a k) = codes "srai"
mnemonic_of (Add d a b) = codes "add"
mnemonic_of (Sub d a b) = codes "sub"
mnemonic_of (Sll d a b) = codes "sll"
mnemonic_of (Slt d a b) = codes "slt"
mnemonic_of (Sltu d a b) = codes "sltu"
mnemonic_of (Xor d a b) = codes "xor"
mnemonic_of (Srl d a b) = codes "srl"
mnemonic_of (Sra d a b) = codes "sra"
mnemonic_of (Or d a b) = codes "or"
mnemonic_of (And d a b) = codes "and"
mnemonic_of (Mul d a b) = codes "mul"
mnemonic_of (Mulh d a b) = codes "mulh"
mnemonic_of (Mulhsu d a b) = codes "mulhsu"
mnemonic_of (Mulhu d a b) = codes "mulhu"
mnemonic_of (Div d a b) = codes "div"
mnemonic_of (Divu d a b) = codes "divu"
mnemonic_of (Rem d a b) = codes "rem"
mnemonic_of (Remu d a b) = codes "remu"
mnemonic_of (Fence kept) = codes "fence"
mnemonic_of Ecall = codes "ecall"
mnemonic_of Ebreak = codes "ebreak"

-- the operands, by how they are written
abbrev pub operands_of : Instr → Operands
operands_of (Lui d imm) = Upper d imm
operands_of (Auipc d imm) = Upper d imm
operands_of (Jal d imm) = Jump d imm
operands_of (Jalr d a imm) = Address d a imm
operands_of (Beq a b imm) = Branch a b imm
operands_of (Bne a b imm) = Branch a b imm
operands_of (Blt a b imm) = Branch a b imm
operands_of (Bge a b imm) = Branch a b imm
operands_of (Bltu a b imm) = Branch a b imm
operands_of (Bgeu a b imm) = Branch a b imm
operands_of (Lb d a imm) = Address d a imm
operands_of (Lh d a imm) = Address d a imm
operands_of (Lw d a imm) = Address d a imm
operands_of (Lbu d a imm) = Address d a imm
operands_of (Lhu d a imm) = Address d a imm
operands_of (Sb a b imm) = Address b a imm
operands_of (Sh a b imm) = Address b a imm
operands_of (Sw a b imm) = Address b a imm
operands_of (Addi d a imm) = Immediate d a imm
operands_of (Slti d a imm) = Immediate d a imm
operands_of (Sltiu d a imm) = Immediate d a imm
operands_of (Xori d a imm) = Immediate d a imm
operands_of (Ori d a imm) = Immediate d a imm
operands_of (Andi d a imm) = Immediate d a imm
operands_of (Slli d a k) = Amount d a k
operands_of (Srli d a k) = Amount d a k
operands_of (Srai d a k) = Amount d a k
operands_of (Add d a b) = Registers d a b
operands_of (Sub d a b) = Registers d a b
operands_of (Sll d a b) = Registers d a b
operands_of (Slt d a b) = Registers d a b
operands_of (Sltu d a b) = Registers d a b
operands_of (Xor d a b) = Registers d a b
operands_of (Srl d a b) = Registers d a b
operands_of (Sra d a b) = Registers d a b
operands_of (Or d a b) = Registers d a b
operands_of (And d a b) = Registers d a b
operands_of (Mul d a b) = Registers d a b
operands_of (Mulh d a b) = Registers d a b
operands_of (Mulhsu d a b) = Registers d a b
operands_of (Mulhu d a b) = Registers d a b
operands_of (Div d a b) = Registers d a b
operands_of (Divu d a b) = Registers d a b
operands_of (Rem d a b) = Registers d a b
operands_of (Remu d a b) = Registers d a b
operands_of (Fence kept) = Nothing
operands_of Ecall = Nothing
operands_of Ebreak = Nothing

abbrev pub register_text : ℕ → List ℕ
register_text r = codes "x" ++ decimal r

-- a place in the code, by its distance from the instruction
abbrev pub distance_text : ℤ → List ℕ
distance_text (pos n) = codes ".+" ++ decimal n
distance_text (negsuc n) = codes ".-" ++ decimal (suc n)

-- the operands, after a blank. Of LUI and AUIPC the upper 20 bits stand
abbrev pub operands_text : Operands → List ℕ
operands_text Nothing = []
operands_text (Registers d a b) = codes " " ++ register_text d ++ codes ", " ++ register_text a ++ codes ", " ++ register_text b
operands_text (Immediate d a imm) = codes " " ++ register_text d ++ codes ", " ++ register_text a ++ codes ", " ++ signed_decimal imm
operands_text (Amount d a k) = codes " " ++ register_text d ++ codes ", " ++ register_text a ++ codes ", " ++ decimal k
operands_text (Address r a imm) = codes " " ++ register_text r ++ codes ", " ++ signed_decimal imm ++ codes "(" ++ register_text a ++ codes ")"
operands_text (Branch a b imm) = codes " " ++ register_text a ++ codes ", " ++ register_text b ++ codes ", " ++ distance_text imm
operands_text (Upper d imm) = codes " " ++ register_text d ++ codes ", " ++ decimal (cast_unsigned w32 imm / 2 ^ 12)
operands_text (Jump d imm) = codes " " ++ register_text d ++ codes ", " ++ distance_text imm

-- the mnemonic, and the operands
abbrev pub instruction_text : Instr → List ℕ
instruction_text i = mnemonic_of i ++ operands_text (operands_of i)
