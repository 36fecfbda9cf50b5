-- The instruction of an instruction's word is the instruction.
use Rattle.std.proofs.Common.{◌≡◌, ℕ, ◌+◌, ◌*◌, ◌%◌, ◌^◌, ◌<◌, ◌==◌, true, false, ℤ, Some, refl, arith}
use Rattle.isa.specs.declared.Instr.{Instr}
use Rattle.isa.specs.declared.Instr.TheVariants.{Lui, Auipc, Jal, Jalr, Beq, Bne, Blt, Bge, Bltu, Bgeu, Lb, Lh, Lw, Lbu, Lhu, Sb, Sh, Sw, Addi, Slti, Sltiu, Xori, Ori, Andi, Slli, Srli, Srai, Add, Sub, Sll, Slt, Sltu, Xor, Srl, Sra, Or, And, Mul, Mulh, Mulhsu, Mulhu, Div, Divu, Rem, Remu, Fence, Ecall, Ebreak}
use Rattle.isa.specs.Words.{rd, rs1, rs2, imm_i, imm_s, imm_b, entry, branches, loads, stores, immediates, shifts, operations, instruction_of}
use Rattle.isa.specs.Encodings.{fields, i_form, s_form, b_form, r_form, Fits, encoding, FitsSmallImmediate, FitsBranch, FitsThree}
use Rattle.rv_decode.proofs.Parts.{has_fields, has_i, has_s, has_b, has_u, has_j, has_kept}

-- of each form, the instruction that the form's table has at a number
branch : (k : ℕ) (make : ℕ → ℕ → ℤ → Instr) → k < 8 → entry branches k ≡ Some (λ w. make (rs1 w) (rs2 w) (imm_b w)) → (s1 s2 : ℕ) (imm : ℤ) → FitsBranch s1 s2 imm → instruction_of (b_form k s1 s2 imm) ≡ Some (make s1 s2 imm)
branch k make small at s1 s2 imm fits = let p = has_b k s1 s2 imm small fits in rw (p.is_op, p.is_f3, at, p.is_s1, p.is_s2, p.is_imm) refl

load : (k : ℕ) (make : ℕ → ℕ → ℤ → Instr) → k < 8 → entry loads k ≡ Some (λ w. make (rd w) (rs1 w) (imm_i w)) → (d s1 : ℕ) (imm : ℤ) → FitsSmallImmediate d s1 imm → instruction_of (i_form 0b0000011 k d s1 imm) ≡ Some (make d s1 imm)
load k make small at d s1 imm fits = let p = has_i 0b0000011 k d s1 imm (omega arith) small fits in rw (p.is_op, p.is_f3, at, p.is_d, p.is_s1, p.is_imm) refl

store : (k : ℕ) (make : ℕ → ℕ → ℤ → Instr) → k < 8 → entry stores k ≡ Some (λ w. make (rs1 w) (rs2 w) (imm_s w)) → (s1 s2 : ℕ) (imm : ℤ) → FitsSmallImmediate s1 s2 imm → instruction_of (s_form k s1 s2 imm) ≡ Some (make s1 s2 imm)
store k make small at s1 s2 imm fits = let p = has_s k s1 s2 imm small fits in rw (p.is_op, p.is_f3, at, p.is_s1, p.is_s2, p.is_imm) refl

on_immediate : (k : ℕ) (make : ℕ → ℕ → ℤ → Instr) → k < 8 → (k % 4 == 1) ≡ false → entry immediates k ≡ Some (λ w. make (rd w) (rs1 w) (imm_i w)) → (d s1 : ℕ) (imm : ℤ) → FitsSmallImmediate d s1 imm → instruction_of (i_form 0b0010011 k d s1 imm) ≡ Some (make d s1 imm)
on_immediate k make small is_none at d s1 imm fits = let p = has_i 0b0010011 k d s1 imm (omega arith) small fits in rw (p.is_op, p.is_f3, is_none, at, p.is_d, p.is_s1, p.is_imm) refl

shift : (k f7 : ℕ) (make : ℕ → ℕ → ℕ → Instr) → k < 8 → f7 < 2 ^ 7 → (k % 4 == 1) ≡ true → entry shifts (f7 * 8 + k) ≡ Some (λ w. make (rd w) (rs1 w) (rs2 w)) → (d s1 amount : ℕ) → FitsThree d s1 amount → instruction_of (fields 0b0010011 d k s1 amount f7) ≡ Some (make d s1 amount)
shift k f7 make small small_7 is_one at d s1 amount fits = let p = has_fields 0b0010011 d k s1 amount f7 (omega arith) fits.0 small fits.1 fits.2 small_7 in rw (p.is_op, p.is_f3, p.is_f7, is_one, at, p.is_d, p.is_s1, p.is_s2) refl

operation : (k f7 : ℕ) (make : ℕ → ℕ → ℕ → Instr) → k < 8 → f7 < 2 ^ 7 → entry operations (f7 * 8 + k) ≡ Some (λ w. make (rd w) (rs1 w) (rs2 w)) → (d s1 s2 : ℕ) → FitsThree d s1 s2 → instruction_of (r_form k d s1 s2 f7) ≡ Some (make d s1 s2)
operation k f7 make small small_7 at d s1 s2 fits = let p = has_fields 0b0110011 d k s1 s2 f7 (omega arith) fits.0 small fits.1 fits.2 small_7 in rw (p.is_op, p.is_f7, p.is_f3, at, p.is_d, p.is_s1, p.is_s2) refl

pub read_back : (i : Instr) → Fits i → instruction_of (encoding i) ≡ Some i
read_back (Lui d imm) fits = let p = has_u 0b0110111 d imm (omega arith) fits in rw (p.is_op, p.is_d, p.is_imm) refl
read_back (Auipc d imm) fits = let p = has_u 0b0010111 d imm (omega arith) fits in rw (p.is_op, p.is_d, p.is_imm) refl
read_back (Jal d imm) fits = let p = has_j d imm fits in rw (p.is_op, p.is_d, p.is_imm) refl
read_back (Jalr d a imm) fits = let p = has_i 0b1100111 0 d a imm (omega arith) (omega arith) fits in rw (p.is_op, p.is_f3, p.is_d, p.is_s1, p.is_imm) refl
read_back (Beq a b imm) fits = branch 0 Beq (omega arith) refl a b imm fits
read_back (Bne a b imm) fits = branch 1 Bne (omega arith) refl a b imm fits
read_back (Blt a b imm) fits = branch 4 Blt (omega arith) refl a b imm fits
read_back (Bge a b imm) fits = branch 5 Bge (omega arith) refl a b imm fits
read_back (Bltu a b imm) fits = branch 6 Bltu (omega arith) refl a b imm fits
read_back (Bgeu a b imm) fits = branch 7 Bgeu (omega arith) refl a b imm fits
read_back (Lb d a imm) fits = load 0 Lb (omega arith) refl d a imm fits
read_back (Lh d a imm) fits = load 1 Lh (omega arith) refl d a imm fits
read_back (Lw d a imm) fits = load 2 Lw (omega arith) refl d a imm fits
read_back (Lbu d a imm) fits = load 4 Lbu (omega arith) refl d a imm fits
read_back (Lhu d a imm) fits = load 5 Lhu (omega arith) refl d a imm fits
read_back (Sb a b imm) fits = store 0 Sb (omega arith) refl a b imm fits
read_back (Sh a b imm) fits = store 1 Sh (omega arith) refl a b imm fits
read_back (Sw a b imm) fits = store 2 Sw (omega arith) refl a b imm fits
read_back (Addi d a imm) fits = on_immediate 0 Addi (omega arith) refl refl d a imm fits
read_back (Slti d a imm) fits = on_immediate 2 Slti (omega arith) refl refl d a imm fits
read_back (Sltiu d a imm) fits = on_immediate 3 Sltiu (omega arith) refl refl d a imm fits
read_back (Xori d a imm) fits = on_immediate 4 Xori (omega arith) refl refl d a imm fits
read_back (Ori d a imm) fits = on_immediate 6 Ori (omega arith) refl refl d a imm fits
read_back (Andi d a imm) fits = on_immediate 7 Andi (omega arith) refl refl d a imm fits
read_back (Slli d a k) fits = shift 1 0 Slli (omega arith) (omega arith) refl refl d a k fits
read_back (Srli d a k) fits = shift 5 0 Srli (omega arith) (omega arith) refl refl d a k fits
read_back (Srai d a k) fits = shift 5 32 Srai (omega arith) (omega arith) refl refl d a k fits
read_back (Add d a b) fits = operation 0 0 Add (omega arith) (omega arith) refl d a b fits
read_back (Sub d a b) fits = operation 0 32 Sub (omega arith) (omega arith) refl d a b fits
read_back (Sll d a b) fits = operation 1 0 Sll (omega arith) (omega arith) refl d a b fits
read_back (Slt d a b) fits = operation 2 0 Slt (omega arith) (omega arith) refl d a b fits
read_back (Sltu d a b) fits = operation 3 0 Sltu (omega arith) (omega arith) refl d a b fits
read_back (Xor d a b) fits = operation 4 0 Xor (omega arith) (omega arith) refl d a b fits
read_back (Srl d a b) fits = operation 5 0 Srl (omega arith) (omega arith) refl d a b fits
read_back (Sra d a b) fits = operation 5 32 Sra (omega arith) (omega arith) refl d a b fits
read_back (Or d a b) fits = operation 6 0 Or (omega arith) (omega arith) refl d a b fits
read_back (And d a b) fits = operation 7 0 And (omega arith) (omega arith) refl d a b fits
read_back (Mul d a b) fits = operation 0 1 Mul (omega arith) (omega arith) refl d a b fits
read_back (Mulh d a b) fits = operation 1 1 Mulh (omega arith) (omega arith) refl d a b fits
read_back (Mulhsu d a b) fits = operation 2 1 Mulhsu (omega arith) (omega arith) refl d a b fits
read_back (Mulhu d a b) fits = operation 3 1 Mulhu (omega arith) (omega arith) refl d a b fits
read_back (Div d a b) fits = operation 4 1 Div (omega arith) (omega arith) refl d a b fits
read_back (Divu d a b) fits = operation 5 1 Divu (omega arith) (omega arith) refl d a b fits
read_back (Rem d a b) fits = operation 6 1 Rem (omega arith) (omega arith) refl d a b fits
read_back (Remu d a b) fits = operation 7 1 Remu (omega arith) (omega arith) refl d a b fits
read_back (Fence kept) fits = let p = has_kept kept fits in rw (p.is_op, p.is_f3, p.is_kept) refl
read_back Ecall fits = refl
read_back Ebreak fits = refl
