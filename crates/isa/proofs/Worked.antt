-- Worked values of the instructions, typed from what the RISC-V Unprivileged ISA manual says of each ("RV32I Base Integer
-- Instruction Set", and "'M' Extension for Integer Multiplication and Division"): a row is an instruction with its operands, and what it leaves.
use Rattle.std.proofs.Common.{◌≡◌, ℕ, List, [], ◌∷◌, ◌++◌, map, replicate, pos, refl}
use Rattle.isa.specs.declared.Instr.{Instr}
use Rattle.isa.specs.declared.Instr.TheVariants.{Lui, Auipc, Jal, Jalr, Beq, Bne, Blt, Bge, Bltu, Bgeu, Lb, Lh, Lw, Lbu, Lhu, Sb, Sh, Sw, Addi, Slti, Sltiu, Xori, Ori, Andi, Slli, Srli, Srai, Add, Sub, Sll, Slt, Sltu, Xor, Srl, Sra, Or, And, Mul, Mulh, Mulhsu, Mulhu, Div, Divu, Rem, Remu, Fence, Ebreak}
use Rattle.isa.specs.Machine.{State, Outcome, Retired, Trapped, effect_of, execute}
use Rattle.isa.specs.Calls.{minus}

-- x5, x6 and x7 have these values, and the other registers 0
abbrev registers : ℕ → ℕ → ℕ → List ℕ
registers x5 x6 x7 = replicate 5 0 ++ (x5 ∷ x6 ∷ x7 ∷ replicate 24 0)

-- eight bytes, at 0x400 up to 0x407
abbrev bytes : List ℕ
bytes = 0x11 ∷ 0x80 ∷ 0x7f ∷ 0xff ∷ 0x22 ∷ 0x92 ∷ 0x44 ∷ 0x33 ∷ []

abbrev hart : ℕ → ℕ → ℕ → ℕ → List ℕ → State
hart pc x5 x6 x7 memory = record { pc = pc; registers = registers x5 x6 x7; base = 0x400; memory = memory }

-- what an instruction at 0x10000 comes to, with these values in x5 and x6
abbrev done : Instr → ℕ → ℕ → Outcome
done i x5 x6 = let s = hart 0x10000 x5 x6 0 bytes in execute s (effect_of s i)

-- an instruction, x5 and x6 before it, and a number or bytes that it leaves
abbrev Row : Type 0 → Type 0
Row A = Instr × ℕ × ℕ × A

-- each leaves what is said of its row
abbrev Each : {A : Type 0} → (Row A → Outcome) → List (Row A) → Type 0
Each leaves rows = map (λ row. done row.0 row.1 row.2) rows ≡ map leaves rows

-- "Integer Computational Instructions": the result goes to x7, and the pc moves on
abbrev result : Row ℕ → Outcome
result row = Retired (hart 0x10004 row.1 row.2 row.3 bytes)

on_immediates : Each result (
    (Lui 7 (pos 0x12345000), 0, 0, 0x12345000) ∷
    (Lui 7 (minus 0x80000000), 0, 0, 0x80000000) ∷
    (Lui 7 (minus 0x1000), 0, 0, 0xfffff000) ∷
    (Auipc 7 (pos 0x12345000), 0, 0, 0x12355000) ∷
    (Auipc 7 (pos 0x7ffff000), 0, 0, 0x8000f000) ∷
    (Auipc 7 (minus 0x20000), 0, 0, 0xffff0000) ∷
    (Addi 7 5 (pos 2047), 1, 0, 2048) ∷
    (Addi 7 5 (minus 2048), 2049, 0, 1) ∷
    (Addi 7 5 (minus 1), 0, 0, 0xffffffff) ∷
    (Addi 7 5 (pos 1), 0xffffffff, 0, 0) ∷
    (Addi 7 0 (pos 3), 9, 9, 3) ∷
    (Addi 0 5 (pos 3), 9, 9, 0) ∷
    (Slti 7 5 (pos 0), 0xffffffff, 0, 1) ∷
    (Slti 7 5 (minus 1), 0, 0, 0) ∷
    (Slti 7 5 (minus 2048), 0x80000000, 0, 1) ∷
    (Slti 7 5 (minus 1), 0x7fffffff, 0, 0) ∷
    (Slti 7 5 (pos 5), 5, 0, 0) ∷
    (Sltiu 7 5 (pos 1), 0xffffffff, 0, 0) ∷
    (Sltiu 7 5 (minus 1), 0x1000, 0, 1) ∷
    (Sltiu 7 5 (pos 1), 0, 0, 1) ∷
    (Sltiu 7 5 (pos 1), 1, 0, 0) ∷
    (Xori 7 5 (pos 0b1010), 0b1100, 0, 0b0110) ∷
    (Xori 7 5 (minus 1), 0x0f0f0f0f, 0, 0xf0f0f0f0) ∷
    (Ori 7 5 (pos 0b1010), 0b1100, 0, 0b1110) ∷
    (Ori 7 5 (minus 2048), 1, 0, 0xfffff801) ∷
    (Andi 7 5 (pos 0b1010), 0b1100, 0, 0b1000) ∷
    (Andi 7 5 (minus 16), 0xffffffff, 0, 0xfffffff0) ∷
    (Slli 7 5 1, 0x80000001, 0, 2) ∷
    (Slli 7 5 31, 1, 0, 0x80000000) ∷
    (Srli 7 5 4, 0x80000018, 0, 0x08000001) ∷
    (Srli 7 5 31, 0x80000000, 0, 1) ∷
    (Srai 7 5 4, 0x80000018, 0, 0xf8000001) ∷
    (Srai 7 5 31, 0x80000000, 0, 0xffffffff) ∷
    (Srai 7 5 4, 0x40000000, 0, 0x04000000) ∷ [])
on_immediates = refl

on_registers : Each result (
    (Add 7 5 6, 0xffffffff, 2, 1) ∷
    (Add 7 5 6, 0x7fffffff, 1, 0x80000000) ∷
    (Add 7 0 6, 9, 8, 8) ∷
    (Add 0 5 6, 9, 8, 0) ∷
    (Sub 7 5 6, 5, 3, 2) ∷
    (Sub 7 5 6, 3, 5, 0xfffffffe) ∷
    (Sub 7 5 6, 0, 0x80000000, 0x80000000) ∷
    (Sub 7 0 6, 9, 1, 0xffffffff) ∷
    (Sll 7 5 6, 0x80000001, 4, 0x10) ∷
    (Sll 7 5 6, 1, 33, 2) ∷
    (Slt 7 5 6, 0xffffffff, 1, 1) ∷
    (Slt 7 5 6, 1, 0xffffffff, 0) ∷
    (Slt 7 5 6, 0x80000000, 0x7fffffff, 1) ∷
    (Slt 7 5 6, 5, 5, 0) ∷
    (Sltu 7 5 6, 0xffffffff, 1, 0) ∷
    (Sltu 7 5 6, 1, 0xffffffff, 1) ∷
    (Sltu 7 0 6, 9, 9, 1) ∷
    (Sltu 7 5 6, 5, 5, 0) ∷
    (Xor 7 5 6, 0xff00ff00, 0x0ff00ff0, 0xf0f0f0f0) ∷
    (Srl 7 5 6, 0x80000018, 4, 0x08000001) ∷
    (Srl 7 5 6, 0x80000018, 36, 0x08000001) ∷
    (Sra 7 5 6, 0x80000018, 4, 0xf8000001) ∷
    (Sra 7 5 6, 0x80000018, 36, 0xf8000001) ∷
    (Sra 7 5 6, 0x7fffffff, 31, 0) ∷
    (Or 7 5 6, 0xff00ff00, 0x0ff00ff0, 0xfff0fff0) ∷
    (And 7 5 6, 0xff00ff00, 0x0ff00ff0, 0x0f000f00) ∷ [])
on_registers = refl

-- "Multiplication Operations"
products : Each result (
    (Mul 7 5 6, 7, 6, 42) ∷
    (Mul 7 5 6, 0xffffffff, 3, 0xfffffffd) ∷
    (Mul 7 5 6, 0x10001, 0x10000, 0x10000) ∷
    (Mul 7 5 6, 0x80000000, 0x80000000, 0) ∷
    (Mul 0 5 6, 7, 6, 0) ∷
    (Mulh 7 5 6, 0xffffffff, 0xffffffff, 0) ∷
    (Mulh 7 5 6, 0x80000000, 0x80000000, 0x40000000) ∷
    (Mulh 7 5 6, 0x80000000, 0x7fffffff, 0xc0000000) ∷
    (Mulh 7 5 6, 0xffffffff, 1, 0xffffffff) ∷
    (Mulhsu 7 5 6, 0xffffffff, 0xffffffff, 0xffffffff) ∷
    (Mulhsu 7 5 6, 0x80000000, 0xffffffff, 0x80000000) ∷
    (Mulhsu 7 5 6, 1, 0xffffffff, 0) ∷
    (Mulhsu 7 5 6, 0x7fffffff, 0x80000000, 0x3fffffff) ∷
    (Mulhu 7 5 6, 0xffffffff, 0xffffffff, 0xfffffffe) ∷
    (Mulhu 7 5 6, 0x80000000, 2, 1) ∷
    (Mulhu 7 5 6, 0xffff, 0x10000, 0) ∷ [])
products = refl

-- "Division Operations", and its table of division by zero and overflow
quotients : Each result (
    (Div 7 5 6, 7, 2, 3) ∷
    (Div 7 5 6, 0xfffffff9, 2, 0xfffffffd) ∷
    (Div 7 5 6, 7, 0xfffffffe, 0xfffffffd) ∷
    (Div 7 5 6, 0xfffffff9, 0xfffffffe, 3) ∷
    (Div 7 5 6, 7, 0, 0xffffffff) ∷
    (Div 7 5 6, 0x80000000, 0xffffffff, 0x80000000) ∷
    (Divu 7 5 6, 7, 2, 3) ∷
    (Divu 7 5 6, 0xfffffff9, 2, 0x7ffffffc) ∷
    (Divu 7 5 6, 7, 0xfffffffe, 0) ∷
    (Divu 7 5 6, 7, 0, 0xffffffff) ∷
    (Divu 7 5 6, 0x80000000, 0xffffffff, 0) ∷ [])
quotients = refl

remainders : Each result (
    (Rem 7 5 6, 7, 2, 1) ∷
    (Rem 7 5 6, 0xfffffff9, 2, 0xffffffff) ∷
    (Rem 7 5 6, 7, 0xfffffffe, 1) ∷
    (Rem 7 5 6, 0xfffffff9, 0xfffffffe, 0xffffffff) ∷
    (Rem 7 5 6, 7, 0, 7) ∷
    (Rem 7 5 6, 0xfffffff9, 0, 0xfffffff9) ∷
    (Rem 7 5 6, 0x80000000, 0xffffffff, 0) ∷
    (Remu 7 5 6, 7, 2, 1) ∷
    (Remu 7 5 6, 0xfffffff9, 2, 1) ∷
    (Remu 7 5 6, 7, 0xfffffffe, 7) ∷
    (Remu 7 5 6, 7, 0, 7) ∷
    (Remu 7 5 6, 0x80000000, 0xffffffff, 0x80000000) ∷ [])
remainders = refl

-- "Load and Store Instructions": x5 has the base address. LW and the others may be misaligned
loads : Each result (
    (Lb 7 5 (pos 1), 0x400, 0, 0xffffff80) ∷
    (Lb 7 5 (pos 2), 0x400, 0, 0x7f) ∷
    (Lbu 7 5 (pos 1), 0x400, 0, 0x80) ∷
    (Lbu 7 5 (pos 7), 0x400, 0, 0x33) ∷
    (Lh 7 5 (pos 0), 0x400, 0, 0xffff8011) ∷
    (Lh 7 5 (pos 1), 0x400, 0, 0x7f80) ∷
    (Lhu 7 5 (pos 0), 0x400, 0, 0x8011) ∷
    (Lhu 7 5 (minus 2), 0x408, 0, 0x3344) ∷
    (Lw 7 5 (pos 0), 0x400, 0, 0xff7f8011) ∷
    (Lw 7 5 (minus 4), 0x408, 0, 0x33449222) ∷
    (Lw 7 5 (pos 1), 0x400, 0, 0x22ff7f80) ∷
    (Lw 7 5 (pos 0x410), 0xfffffff0, 0, 0xff7f8011) ∷
    (Lw 0 5 (pos 0), 0x400, 0, 0) ∷ [])
loads = refl

-- x5 has the base address, x6 the value
stores : Each (λ row. Retired (hart 0x10004 row.1 row.2 0 row.3)) (
    (Sb 5 6 (pos 2), 0x400, 0x12345678, 0x11 ∷ 0x80 ∷ 0x78 ∷ 0xff ∷ 0x22 ∷ 0x92 ∷ 0x44 ∷ 0x33 ∷ []) ∷
    (Sb 5 6 (minus 1), 0x408, 0x1234, 0x11 ∷ 0x80 ∷ 0x7f ∷ 0xff ∷ 0x22 ∷ 0x92 ∷ 0x44 ∷ 0x34 ∷ []) ∷
    (Sh 5 6 (pos 2), 0x400, 0x12345678, 0x11 ∷ 0x80 ∷ 0x78 ∷ 0x56 ∷ 0x22 ∷ 0x92 ∷ 0x44 ∷ 0x33 ∷ []) ∷
    (Sh 5 6 (pos 3), 0x400, 0xabcd, 0x11 ∷ 0x80 ∷ 0x7f ∷ 0xcd ∷ 0xab ∷ 0x92 ∷ 0x44 ∷ 0x33 ∷ []) ∷
    (Sw 5 6 (pos 2), 0x400, 0x12345678, 0x11 ∷ 0x80 ∷ 0x78 ∷ 0x56 ∷ 0x34 ∷ 0x12 ∷ 0x44 ∷ 0x33 ∷ []) ∷
    (Sw 5 6 (pos 0x414), 0xfffffff0, 0x87654321, 0x11 ∷ 0x80 ∷ 0x7f ∷ 0xff ∷ 0x21 ∷ 0x43 ∷ 0x65 ∷ 0x87 ∷ []) ∷
    (Sw 5 0 (pos 0), 0x400, 9, 0 ∷ 0 ∷ 0 ∷ 0 ∷ 0x22 ∷ 0x92 ∷ 0x44 ∷ 0x33 ∷ []) ∷ [])
stores = refl

-- "Conditional Branches": the pc after them. One that isn't taken may have any target
branches : Each (λ row. Retired (hart row.3 row.1 row.2 0 bytes)) (
    (Beq 5 6 (pos 16), 7, 7, 0x10010) ∷
    (Beq 5 6 (pos 16), 7, 8, 0x10004) ∷
    (Beq 0 0 (minus 4096), 7, 8, 0xf000) ∷
    (Beq 5 6 (pos 6), 7, 8, 0x10004) ∷
    (Bne 5 6 (pos 16), 7, 7, 0x10004) ∷
    (Bne 5 6 (pos 16), 7, 8, 0x10010) ∷
    (Blt 5 6 (pos 16), 0xffffffff, 1, 0x10010) ∷
    (Blt 5 6 (pos 16), 1, 0xffffffff, 0x10004) ∷
    (Blt 5 6 (pos 16), 7, 7, 0x10004) ∷
    (Bge 5 6 (pos 16), 0xffffffff, 1, 0x10004) ∷
    (Bge 5 6 (pos 16), 1, 0xffffffff, 0x10010) ∷
    (Bge 5 6 (pos 16), 7, 7, 0x10010) ∷
    (Bltu 5 6 (pos 16), 0xffffffff, 1, 0x10004) ∷
    (Bltu 5 6 (pos 16), 1, 0xffffffff, 0x10010) ∷
    (Bltu 5 6 (pos 16), 7, 7, 0x10004) ∷
    (Bgeu 5 6 (pos 16), 0xffffffff, 1, 0x10010) ∷
    (Bgeu 5 6 (pos 16), 1, 0xffffffff, 0x10004) ∷
    (Bgeu 5 6 (pos 16), 7, 7, 0x10010) ∷ [])
branches = refl

-- "Unconditional Jumps": the pc after them, and the address of the next instruction in x7
jumps : Each (λ row. Retired (hart row.3 row.1 row.2 0x10004 bytes)) (
    (Jal 7 (pos 8), 9, 9, 0x10008) ∷
    (Jal 7 (pos 0xffffc), 9, 9, 0x10fffc) ∷
    (Jal 7 (minus 0x10004), 9, 9, 0xfffffffc) ∷
    (Jalr 7 5 (pos 4), 0x2000, 9, 0x2004) ∷
    (Jalr 7 5 (pos 5), 0x2000, 9, 0x2004) ∷
    (Jalr 7 5 (minus 4), 0x2001, 9, 0x1ffc) ∷
    (Jalr 7 5 (pos 8), 0xfffffffc, 9, 4) ∷
    (Jalr 7 0 (minus 4), 0x2001, 9, 0xfffffffc) ∷ [])
jumps = refl

-- a jump that links x0 sets no register, and one may link the register that it jumps by
link_nothing : done (Jal 0 (minus 4)) 9 9 ≡ Retired (hart 0xfffc 9 9 0 bytes)
link_nothing = refl

link_its_base : done (Jalr 5 5 (pos 4)) 0x2000 9 ≡ Retired (hart 0x2004 0x10004 9 0 bytes)
link_its_base = refl

-- the exception codes of instructions that trap
traps : Each (λ row. Trapped row.3) (
    (Jal 7 (pos 2), 0, 0, 0) ∷
    (Jalr 7 5 (pos 2), 0x2000, 0, 0) ∷
    (Jalr 7 5 (pos 3), 0x2000, 0, 0) ∷
    (Beq 5 6 (pos 6), 7, 7, 0) ∷
    (Bgeu 5 6 (minus 2), 7, 7, 0) ∷
    (Ebreak, 0, 0, 3) ∷
    (Lb 7 5 (minus 1), 0x400, 0, 5) ∷
    (Lbu 7 5 (pos 8), 0x400, 0, 5) ∷
    (Lh 7 5 (pos 7), 0x400, 0, 5) ∷
    (Lhu 7 5 (minus 1), 0x400, 0, 5) ∷
    (Lw 7 5 (pos 5), 0x400, 0, 5) ∷
    (Lw 0 5 (pos 5), 0x400, 0, 5) ∷
    (Lw 7 5 (pos 0), 0xfffffffe, 0, 5) ∷
    (Sb 5 6 (pos 8), 0x400, 1, 7) ∷
    (Sh 5 6 (minus 1), 0x400, 1, 7) ∷
    (Sh 5 6 (pos 7), 0x400, 1, 7) ∷
    (Sw 5 6 (pos 5), 0x400, 1, 7) ∷ [])
traps = refl

-- "Memory Ordering Instructions": only the pc moves on
fence : done (Fence 0x3fc00) 9 9 ≡ Retired (hart 0x10004 9 9 0 bytes)
fence = refl
