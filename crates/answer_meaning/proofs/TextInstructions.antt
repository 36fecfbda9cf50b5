-- The text of an instruction has no line feed.
use Rattle.std.proofs.Common.{◌≡◌, ℕ, suc, ◌++◌, true, ℤ, pos, negsuc, refl}
use Rattle.std.specs.Prelude.{◌/◌, ◌^◌, codes}
use Rattle.std.specs.Int.{w32, cast_unsigned}
use Rattle.std.specs.Fmt.{decimal, signed_decimal}
use Rattle.isa.specs.declared.Instr.{Instr}
use Rattle.isa.specs.declared.Instr.TheVariants.{Lui}
use Rattle.instruction_text.specs.Assembly.{mnemonic_of, operands_of, register_text, distance_text, operands_text, instruction_text}
use Rattle.answer_meaning.proofs.TextReading.{Inside, Reads, nothing, ◌⨾◌}
use Rattle.answer_meaning.proofs.TextPieces.{no_feeds, plain, blank, number, signed_number}

without_feeds : (i : Instr) → no_feeds (mnemonic_of i) ≡ true
without_feeds (Lui d imm) = refl
without_feeds i = refl

pub mnemonic : (i : Instr) → Reads Inside (mnemonic_of i) Inside
mnemonic i = plain (mnemonic_of i) (without_feeds i)

-- ---- operands

register : (r : ℕ) → Reads Inside (register_text r) Inside
register r = plain (codes "x") refl ⨾ number r

distance : (z : ℤ) → Reads Inside (distance_text z) Inside
distance (pos n) = plain (codes ".+") refl ⨾ number n
distance (negsuc n) = plain (codes ".-") refl ⨾ number (suc n)

registers : (d a b : ℕ) → Reads Inside (codes " " ++ register_text d ++ codes ", " ++ register_text a ++ codes ", " ++ register_text b) Inside
registers d a b = blank ⨾ register d ⨾ plain (codes ", ") refl ⨾ register a ⨾ plain (codes ", ") refl ⨾ register b

immediate : (d a : ℕ) (imm : ℤ) → Reads Inside (codes " " ++ register_text d ++ codes ", " ++ register_text a ++ codes ", " ++ signed_decimal imm) Inside
immediate d a imm = blank ⨾ register d ⨾ plain (codes ", ") refl ⨾ register a ⨾ plain (codes ", ") refl ⨾ signed_number imm

amount : (d a k : ℕ) → Reads Inside (codes " " ++ register_text d ++ codes ", " ++ register_text a ++ codes ", " ++ decimal k) Inside
amount d a k = blank ⨾ register d ⨾ plain (codes ", ") refl ⨾ register a ⨾ plain (codes ", ") refl ⨾ number k

address : (r a : ℕ) (imm : ℤ) → Reads Inside (codes " " ++ register_text r ++ codes ", " ++ signed_decimal imm ++ codes "(" ++ register_text a ++ codes ")") Inside
address r a imm = blank ⨾ register r ⨾ plain (codes ", ") refl ⨾ signed_number imm ⨾ plain (codes "(") refl ⨾ register a ⨾ plain (codes ")") refl

branch : (a b : ℕ) (imm : ℤ) → Reads Inside (codes " " ++ register_text a ++ codes ", " ++ register_text b ++ codes ", " ++ distance_text imm) Inside
branch a b imm = blank ⨾ register a ⨾ plain (codes ", ") refl ⨾ register b ⨾ plain (codes ", ") refl ⨾ distance imm

upper : (d : ℕ) (imm : ℤ) → Reads Inside (codes " " ++ register_text d ++ codes ", " ++ decimal (cast_unsigned w32 imm / 2 ^ 12)) Inside
upper d imm = blank ⨾ register d ⨾ plain (codes ", ") refl ⨾ number (cast_unsigned w32 imm / 2 ^ 12)

jump : (d : ℕ) (imm : ℤ) → Reads Inside (codes " " ++ register_text d ++ codes ", " ++ distance_text imm) Inside
jump d imm = blank ⨾ register d ⨾ plain (codes ", ") refl ⨾ distance imm

operands : (i : Instr) → Reads Inside (operands_text (operands_of i)) Inside
operands (Lui d imm) = upper d imm
operands i = search (registers, immediate, amount, address, branch, upper, jump, nothing)

pub instruction : (i : Instr) → Reads Inside (instruction_text i) Inside
instruction i = mnemonic i ⨾ operands i
