-- The operands of an instruction, by the format that has to have room for them ("Base Instruction Formats").
use Rattle.std.specs.Prelude.{◌<◌, ◌^◌}
use Rattle.isa.specs.Encodings.{IsRegister, IsImmediate, FitsBranch, FitsSmallImmediate, FitsThree}
use Rattle.isa.specs.declared.fitting.Operands.{Operands}
use Rattle.isa.specs.declared.fitting.Operands.TheVariants.{Upper, Jump, Branch, SmallImmediate, Three, Kept, Nothing}

-- operands that have room in the word
abbrev pub FitsOperands : Operands → Type 0
FitsOperands (Upper d imm) = IsRegister d × IsImmediate 32 (2 ^ 12) imm
FitsOperands (Jump d imm) = IsRegister d × IsImmediate 21 2 imm
FitsOperands (Branch a b imm) = FitsBranch a b imm
FitsOperands (SmallImmediate a b imm) = FitsSmallImmediate a b imm
FitsOperands (Three a b c) = FitsThree a b c
FitsOperands (Kept kept) = kept < 2 ^ 22
FitsOperands Nothing = Unit {0}
