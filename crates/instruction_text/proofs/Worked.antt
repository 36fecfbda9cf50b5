-- Worked examples of the text of an instruction, computed by the checker.
use Rattle.std.proofs.Common.{◌≡◌, refl, pos, negsuc}
use Rattle.std.specs.Prelude.{codes}
use Rattle.std.specs.Fmt.{digits}
use Rattle.isa.specs.declared.Instr.TheVariants.{Lui, Jal, Jalr, Beq, Lw, Sb, Addi, Slli, Mulhsu, Fence, Ecall, Ebreak}
use Rattle.instruction_text.specs.Assembly.{instruction_text}

load : instruction_text (Lw 5 10 (pos 0)) ≡ codes "lw x5, 0(x10)"
unfolding digits
load = refl

sum : instruction_text (Addi 5 5 (negsuc 0)) ≡ codes "addi x5, x5, -1"
unfolding digits
sum = refl

lui : instruction_text (Lui 10 (negsuc 4095)) ≡ codes "lui x10, 1048575"
unfolding digits
lui = refl

jump : instruction_text (Jal 1 (negsuc 7)) ≡ codes "jal x1, .-8"
unfolding digits
jump = refl

call : instruction_text (Jalr 0 1 (pos 0)) ≡ codes "jalr x0, 0(x1)"
unfolding digits
call = refl

branch : instruction_text (Beq 5 6 (pos 16)) ≡ codes "beq x5, x6, .+16"
unfolding digits
branch = refl

store : instruction_text (Sb 2 31 (negsuc 11)) ≡ codes "sb x31, -12(x2)"
unfolding digits
store = refl

shift : instruction_text (Slli 5 5 8) ≡ codes "slli x5, x5, 8"
unfolding digits
shift = refl

product : instruction_text (Mulhsu 1 2 3) ≡ codes "mulhsu x1, x2, x3"
unfolding digits
product = refl

fence : instruction_text (Fence 0) ≡ codes "fence"
fence = refl

call_out : instruction_text Ecall ≡ codes "ecall"
call_out = refl

break_point : instruction_text Ebreak ≡ codes "ebreak"
break_point = refl
