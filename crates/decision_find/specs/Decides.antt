-- What decides where an instruction goes: the locations besides its own bytes on which it hangs what the next step does.
use Rattle.std.specs.Prelude.{ℕ, List, [], ◌++◌}
use Rattle.isa.specs.declared.Instr.{Instr}
use Rattle.isa.specs.declared.Instr.TheVariants.{Lui, Auipc, Jal, Jalr, Beq, Bne, Blt, Bge, Bltu, Bgeu, Lb, Lh, Lw, Lbu, Lhu, Sb, Sh, Sw, Addi, Slti, Sltiu, Xori, Ori, Andi, Slli, Srli, Srai, Add, Sub, Sll, Slt, Sltu, Xor, Srl, Sra, Or, And, Mul, Mulh, Mulhsu, Mulhu, Div, Divu, Rem, Remu, Fence, Ecall, Ebreak}
use Rattle.isa.specs.declared.CallKind.{CallKind}
use Rattle.isa.specs.declared.CallKind.TheVariants as kind
use Rattle.flow_model.specs.declared.Loc.{Loc}
use Rattle.flow_model.specs.declared.Rule.{Rule}
use Rattle.flow_model.specs.declared.Rule.TheVariants.{Copy, Keep, Compute, Index}
use Rattle.flow_model.specs.Flow.{lanes, all_lanes}

-- the rule by which the origins of decisions are those of all that they were computed from: a rule by which less flows
-- would leave out what decides
abbrev pub deciding_rule : Rule → Rule
deciding_rule Copy = Compute
deciding_rule Keep = Compute
deciding_rule Compute = Compute
deciding_rule Index = Index

-- the base of a load. Under the rule index what is loaded comes from the base too, so the address need not be the same
abbrev pub base_of_load : Rule → ℕ → List Loc
base_of_load Copy a = lanes a
base_of_load Keep a = lanes a
base_of_load Compute a = lanes a
base_of_load Index a = []

-- the registers besides x17 that a call uses: the three arguments, or the exit's code
abbrev pub used : CallKind → List Loc
used kind.Read = lanes 10 ++ lanes 11 ++ lanes 12
used kind.Write = lanes 10 ++ lanes 11 ++ lanes 12
used kind.Clock = []
used kind.Other = []
used kind.Exit = lanes 10

-- what a call of this kind asks: which call it is, and the registers that it uses
abbrev pub asked : CallKind → List Loc
asked kind = used kind ++ lanes 17

-- the operands of a branch, the target of a jump by a register, the base of a load or a store, and what a call asks, if it
-- is of this kind
abbrev pub decides : Rule → CallKind → Instr → List Loc
decides rule kind (Jalr d a imm) = lanes a
decides rule kind (Beq a b imm) = all_lanes a b 0
decides rule kind (Bne a b imm) = all_lanes a b 0
decides rule kind (Blt a b imm) = all_lanes a b 0
decides rule kind (Bge a b imm) = all_lanes a b 0
decides rule kind (Bltu a b imm) = all_lanes a b 0
decides rule kind (Bgeu a b imm) = all_lanes a b 0
decides rule kind (Lb d a imm) = base_of_load rule a
decides rule kind (Lh d a imm) = base_of_load rule a
decides rule kind (Lw d a imm) = base_of_load rule a
decides rule kind (Lbu d a imm) = base_of_load rule a
decides rule kind (Lhu d a imm) = base_of_load rule a
decides rule kind (Sb a b imm) = lanes a
decides rule kind (Sh a b imm) = lanes a
decides rule kind (Sw a b imm) = lanes a
decides rule kind Ecall = asked kind
decides rule kind (Lui d imm) = []
decides rule kind (Auipc d imm) = []
decides rule kind (Jal d imm) = []
decides rule kind (Addi d a imm) = []
decides rule kind (Slti d a imm) = []
decides rule kind (Sltiu d a imm) = []
decides rule kind (Xori d a imm) = []
decides rule kind (Ori d a imm) = []
decides rule kind (Andi d a imm) = []
decides rule kind (Slli d a k) = []
decides rule kind (Srli d a k) = []
decides rule kind (Srai d a k) = []
decides rule kind (Add d a b) = []
decides rule kind (Sub d a b) = []
decides rule kind (Sll d a b) = []
decides rule kind (Slt d a b) = []
decides rule kind (Sltu d a b) = []
decides rule kind (Xor d a b) = []
decides rule kind (Srl d a b) = []
decides rule kind (Sra d a b) = []
decides rule kind (Or d a b) = []
decides rule kind (And d a b) = []
decides rule kind (Mul d a b) = []
decides rule kind (Mulh d a b) = []
decides rule kind (Mulhsu d a b) = []
decides rule kind (Mulhu d a b) = []
decides rule kind (Div d a b) = []
decides rule kind (Divu d a b) = []
decides rule kind (Rem d a b) = []
decides rule kind (Remu d a b) = []
decides rule kind (Fence kept) = []
decides rule kind Ebreak = []
