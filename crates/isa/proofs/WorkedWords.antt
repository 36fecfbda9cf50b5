-- Worked words: each instruction of RV32I and RV32M as LLVM's assembler writes it, with immediates at both ends of their ranges,
-- some words taken apart by hand, and words that are illegal.
use Rattle.std.proofs.Common.{◌≡◌, ℕ, List, [], ◌∷◌, ◌++◌, map, pos, Some, None, refl}
use Rattle.isa.specs.declared.Instr.{Instr}
use Rattle.isa.specs.declared.Instr.TheVariants.{Lui, Auipc, Jal, Jalr, Beq, Bne, Blt, Bge, Bltu, Bgeu, Lb, Lh, Lw, Lbu, Lhu, Sb, Sh, Sw, Addi, Slti, Sltiu, Xori, Ori, Andi, Slli, Srli, Srai, Add, Sub, Sll, Slt, Sltu, Xor, Srl, Sra, Or, And, Mul, Mulh, Mulhsu, Mulhu, Div, Divu, Rem, Remu, Fence, Ecall, Ebreak}
use Rattle.isa.specs.Words.{instruction_of}
use Rattle.isa.specs.Encodings.{encoding}
use Rattle.isa.specs.Calls.{minus}

abbrev assembled : List (ℕ × Instr)
assembled =
    (0x800000b7, Lui 1 (minus 0x80000000)) ∷
    (0xfffff537, Lui 10 (minus 4096)) ∷
    (0x12345f97, Auipc 31 (pos 0x12345000)) ∷
    (0x7ffff0ef, Jal 1 (pos 0xffffe)) ∷
    (0x8000006f, Jal 0 (minus 0x100000)) ∷
    (0x001002ef, Jal 5 (pos 2048)) ∷
    (0x00210067, Jalr 0 2 (pos 2)) ∷
    (0x800f80e7, Jalr 1 31 (minus 2048)) ∷
    (0x7e208fe3, Beq 1 2 (pos 4094)) ∷
    (0x800f8063, Beq 31 0 (minus 4096)) ∷
    (0x006290e3, Bne 5 6 (pos 2048)) ∷
    (0xfe83cfe3, Blt 7 8 (minus 2)) ∷
    (0x00a4df63, Bge 9 10 (pos 30)) ∷
    (0x40c5e063, Bltu 11 12 (pos 1024)) ∷
    (0xbee6f0e3, Bgeu 13 14 (minus 1056)) ∷
    (0xfff80783, Lb 15 16 (minus 1)) ∷
    (0x7ff91883, Lh 17 18 (pos 2047)) ∷
    (0x800a2983, Lw 19 20 (minus 2048)) ∷
    (0x001b4a83, Lbu 21 22 (pos 1)) ∷
    (0x055c5b83, Lhu 23 24 (pos 85)) ∷
    (0xff9d0fa3, Sb 26 25 (minus 1)) ∷
    (0x7fbe1fa3, Sh 28 27 (pos 2047)) ∷
    (0x81df2023, Sw 30 29 (minus 2048)) ∷
    (0xfff08f93, Addi 31 1 (minus 1)) ∷
    (0x7ff1a113, Slti 2 3 (pos 2047)) ∷
    (0x8002b213, Sltiu 4 5 (minus 2048)) ∷
    (0x5553c313, Xori 6 7 (pos 1365)) ∷
    (0xaaa4e413, Ori 8 9 (minus 1366)) ∷
    (0x0ff5f513, Andi 10 11 (pos 255)) ∷
    (0x01f69613, Slli 12 13 31) ∷
    (0x0017d713, Srli 14 15 1) ∷
    (0x4108d813, Srai 16 17 16) ∷
    (0x01498933, Add 18 19 20) ∷
    (0x417b0ab3, Sub 21 22 23) ∷
    (0x01ac9c33, Sll 24 25 26) ∷
    (0x01de2db3, Slt 27 28 29) ∷
    (0x001fbf33, Sltu 30 31 1) ∷
    (0x0041c133, Xor 2 3 4) ∷
    (0x007352b3, Srl 5 6 7) ∷
    (0x40a4d433, Sra 8 9 10) ∷
    (0x00d665b3, Or 11 12 13) ∷
    (0x0107f733, And 14 15 16) ∷
    (0x023100b3, Mul 1 2 3) ∷
    (0x02629233, Mulh 4 5 6) ∷
    (0x029423b3, Mulhsu 7 8 9) ∷
    (0x02c5b533, Mulhu 10 11 12) ∷
    (0x02f746b3, Div 13 14 15) ∷
    (0x0328d833, Divu 16 17 18) ∷
    (0x035a69b3, Rem 19 20 21) ∷
    (0x038bfb33, Remu 22 23 24) ∷
    (0x00000073, Ecall) ∷
    (0x00100073, Ebreak) ∷ []

-- words taken apart by hand. The last fence keeps all the bits that one can
abbrev others : List (ℕ × Instr)
others =
    (0x40c585b3, Sub 11 11 12) ∷
    (0x02c585b3, Mul 11 11 12) ∷
    (0x4035d593, Srai 11 11 3) ∷
    (0x0000000f, Fence 0) ∷
    (0x0310000f, Fence 0xc400) ∷
    (0x0ff0000f, Fence 0x3fc00) ∷
    (0xffff8f8f, Fence 0x3fffff) ∷ []

-- the word stands for the instruction, and the instruction has the word
words_read : map (λ row. instruction_of row.0) (assembled ++ others) ≡ map (λ row. Some row.1) (assembled ++ others)
words_read = refl

words_written : map (λ row. encoding row.1) (assembled ++ others) ≡ map (λ row. row.0) (assembled ++ others)
words_written = refl

-- no instruction has these
abbrev illegal : List ℕ
illegal = 0x4035f5b3 ∷ 0x0000100f ∷ 0x00000000 ∷ 0xffffffff ∷ 0x40369613 ∷ 0x00003003 ∷ 0x00200073 ∷ 0x00001067 ∷ []

illegal_read : map instruction_of illegal ≡ map (λ w. None) illegal
illegal_read = refl
