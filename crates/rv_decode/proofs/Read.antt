-- The word of a word's instruction is the word, and the instruction fits. Crates above cite the last lemma.
use Rattle.std.proofs.Common.{◌≡◌, ℕ, ◌+◌, ◌*◌, ◌/◌, ◌%◌, ◌^◌, ◌<◌, nat_eq, Bool, true, false, if◌then◌else◌, List, [], ◌∷◌, Option, Some, None, IfSome, option_map, option_and_then, refl, ap, ◌∙◌, eqb-true, arith}
use Rattle.isa.specs.declared.Instr.{Instr}
use Rattle.isa.specs.Words.{field, opcode, rd, funct3, rs1, rs2, funct7, imm_i, imm_s, imm_b, imm_u, imm_j, entry, branches, loads, stores, immediates, shifts, operations, jumps, fences, systems, looked_up, funct7_funct3, immediate, opcodes, instruction_of}
use Rattle.isa.specs.Encodings.{fields, i_form, s_form, b_form, u_form, j_form, Fits, encoding, IsRegister, IsImmediate, FitsSmallImmediate, FitsBranch, FitsThree}
use Rattle.rv_decode.proofs.Immediates.{low_12, low_13, low_21, low_32}

-- an instruction that fits and has this word
abbrev pub HasWord : ℕ → Instr → Type 0
HasWord w i = Fits i × (encoding i ≡ w)

-- P of each entry of a table at k
abbrev Entries : {X : Type 0} → (X → Type 0) → ℕ → List (ℕ × X) → Type 0
Entries P k [] = Unit {0}
Entries P k (row ∷ rows) = (row.0 ≡ k → P row.1) × Entries P k rows

-- so of what the table has there
at_entry : {X : Type 0} (P : X → Type 0) (k : ℕ) (rows : List (ℕ × X)) → Entries P k rows → IfSome (entry rows k) P
at_entry P k [] all = tt
at_entry {X} P k (row ∷ rows) all = by (at_entry P k rows all.1) (nat_eq row.0 k) refl where
  by : IfSome (entry rows k) P → (is_here : Bool) → nat_eq row.0 k ≡ is_here → IfSome (if is_here then Some row.1 else entry rows k) P
  by later true e = all.0 (eqb-true row.0 k e)
  by later false e = later

if_mapped : {X Y : Type 0} (P : Y → Type 0) (f : X → Y) (o : Option X) → IfSome o (λ x. P (f x)) → IfSome (option_map f o) P
if_mapped P f None is = tt
if_mapped P f (Some x) is = is

if_chosen : {X Y : Type 0} (P : Y → Type 0) (f : X → Option Y) (o : Option X) → IfSome o (λ x. IfSome (f x) P) → IfSome (option_and_then f o) P
if_chosen P f None is = tt
if_chosen P f (Some x) is = is

-- the word of each form, from its opcode and its number in the form's table
of_i : (w op k : ℕ) → w < 2 ^ 32 → op ≡ opcode w → k ≡ funct3 w → FitsSmallImmediate (rd w) (rs1 w) (imm_i w) × (i_form op k (rd w) (rs1 w) (imm_i w) ≡ w)
of_i w op k small is_op is_k = let v = low_12 (field w 20 12) (omega arith) in
    ((omega arith, omega arith, v.1), ap (λ n. fields op (rd w) k (rs1 w) 0 0 + n * 2 ^ 20) v.0 ∙ omega arith)

of_s : (w k : ℕ) → w < 2 ^ 32 → 0b0100011 ≡ opcode w → k ≡ funct3 w → FitsSmallImmediate (rs1 w) (rs2 w) (imm_s w) × (s_form k (rs1 w) (rs2 w) (imm_s w) ≡ w)
of_s w k small is_op is_k = let v = low_12 (funct7 w * 2 ^ 5 + rd w) (omega arith) in
    ((omega arith, omega arith, v.1), ap (λ n. fields 0b0100011 (field n 0 5) k (rs1 w) (rs2 w) (field n 5 7)) v.0 ∙ omega arith)

of_b : (w k : ℕ) → w < 2 ^ 32 → 0b1100011 ≡ opcode w → k ≡ funct3 w → FitsBranch (rs1 w) (rs2 w) (imm_b w) × (b_form k (rs1 w) (rs2 w) (imm_b w) ≡ w)
of_b w k small is_op is_k =
    let value = field w 31 1 * 2 ^ 12 + field w 7 1 * 2 ^ 11 + field w 25 6 * 2 ^ 5 + field w 8 4 * 2 in
    let v = low_13 value (omega arith) (omega arith) in
    let below : field value 1 4 * 2 + field value 11 1 ≡ rd w = omega arith in
    let above : field value 12 1 * 2 ^ 6 + field value 5 6 ≡ funct7 w = omega arith in
    ((omega arith, omega arith, v.1), ap (λ n. fields 0b1100011 (field n 1 4 * 2 + field n 11 1) k (rs1 w) (rs2 w) (field n 12 1 * 2 ^ 6 + field n 5 6)) v.0 ∙ rw (below, above) (omega arith))

of_u : (w op : ℕ) → w < 2 ^ 32 → op ≡ opcode w → (IsRegister (rd w) × IsImmediate 32 (2 ^ 12) (imm_u w)) × (u_form op (rd w) (imm_u w) ≡ w)
of_u w op small is_op = let v = low_32 (field w 12 20 * 2 ^ 12) (omega arith) (omega arith) in
    ((omega arith, v.1), ap (λ n. op + rd w * 2 ^ 7 + field n 12 20 * 2 ^ 12) v.0 ∙ omega arith)

of_j : (w : ℕ) → w < 2 ^ 32 → 0b1101111 ≡ opcode w → (IsRegister (rd w) × IsImmediate 21 2 (imm_j w)) × (j_form (rd w) (imm_j w) ≡ w)
of_j w small is_op =
    let value = field w 31 1 * 2 ^ 20 + field w 12 8 * 2 ^ 12 + field w 20 1 * 2 ^ 11 + field w 21 10 * 2 in
    let v = low_21 value (omega arith) (omega arith) in
    let a : field value 12 8 ≡ field w 12 8 = omega arith in
    let b : field value 11 1 ≡ field w 20 1 = omega arith in
    let c : field value 1 10 ≡ field w 21 10 = omega arith in
    let d : field value 20 1 ≡ field w 31 1 = omega arith in
    ((omega arith, v.1), ap (λ n. 0b1101111 + rd w * 2 ^ 7 + field n 12 8 * 2 ^ 12 + field n 11 1 * 2 ^ 20 + field n 1 10 * 2 ^ 21 + field n 20 1 * 2 ^ 31) v.0 ∙ rw (a, b, c, d) (omega arith))

-- n is funct7 * 8 + funct3
of_r : (w op n : ℕ) → w < 2 ^ 32 → op ≡ opcode w → n ≡ funct7_funct3 w → FitsThree (rd w) (rs1 w) (rs2 w) × (fields op (rd w) (n % 8) (rs1 w) (rs2 w) (n / 8) ≡ w)
of_r w op n small is_op is_n =
    let k : n % 8 ≡ funct3 w = omega arith in
    let f7 : n / 8 ≡ funct7 w = omega arith in
    ((omega arith, omega arith, omega arith), rw (k, f7) (omega arith))

of_fence : (w : ℕ) → w < 2 ^ 32 → 0b0001111 ≡ opcode w → 0 ≡ funct3 w → let kept = field w 15 17 * 2 ^ 5 + field w 7 5 in (kept < 2 ^ 22) × (0b0001111 + field kept 0 5 * 2 ^ 7 + field kept 5 17 * 2 ^ 15 ≡ w)
of_fence w small is_op is_0 = (omega arith, omega arith)

-- the forms with a table: a table of so many rows, each of this form
looked_up_is : (w k : ℕ) (table : List (ℕ × (ℕ → Instr))) → Entries (λ make. HasWord w (make w)) k table → IfSome (looked_up table k w) (HasWord w)
looked_up_is w k table all = if_mapped (HasWord w) (λ (make : ℕ → Instr). make w) (entry table k) (at_entry (λ make. HasWord w (make w)) k table all)

of_immediate : (w : ℕ) → w < 2 ^ 32 → 0b0010011 ≡ opcode w → IfSome (immediate w) (HasWord w)
of_immediate w small op = by (nat_eq (funct3 w % 4) 1) where
  by : (is_shift : Bool) → IfSome (if is_shift then looked_up shifts (funct7_funct3 w) w else looked_up immediates (funct3 w) w) (HasWord w)
  by true = let r = λ (n : ℕ). of_r w 0b0010011 n small op in looked_up_is w (funct7_funct3 w) shifts (r 1, (r 5, (r (256 + 5), tt)))
  by false = let i = λ (k : ℕ). of_i w 0b0010011 k small op in looked_up_is w (funct3 w) immediates (i 0, (i 2, (i 3, (i 4, (i 6, (i 7, tt))))))

of_operation : (w : ℕ) → w < 2 ^ 32 → 0b0110011 ≡ opcode w → IfSome (looked_up operations (funct7_funct3 w) w) (HasWord w)
of_operation w small op = let r = λ (n : ℕ). of_r w 0b0110011 n small op in looked_up_is w (funct7_funct3 w) operations
    (r 0, (r 256, (r 1, (r 2, (r 3, (r 4, (r 5, (r (256 + 5), (r 6, (r 7, (r 8, (r 9, (r 10, (r 11, (r 12, (r 13, (r 14, (r 15, tt))))))))))))))))))

of_branch : (w : ℕ) → w < 2 ^ 32 → 0b1100011 ≡ opcode w → IfSome (looked_up branches (funct3 w) w) (HasWord w)
of_branch w small op = let b = λ (k : ℕ). of_b w k small op in looked_up_is w (funct3 w) branches (b 0, (b 1, (b 4, (b 5, (b 6, (b 7, tt))))))

of_load : (w : ℕ) → w < 2 ^ 32 → 0b0000011 ≡ opcode w → IfSome (looked_up loads (funct3 w) w) (HasWord w)
of_load w small op = let i = λ (k : ℕ). of_i w 0b0000011 k small op in looked_up_is w (funct3 w) loads (i 0, (i 1, (i 2, (i 4, (i 5, tt)))))

of_store : (w : ℕ) → w < 2 ^ 32 → 0b0100011 ≡ opcode w → IfSome (looked_up stores (funct3 w) w) (HasWord w)
of_store w small op = let s = λ (k : ℕ). of_s w k small op in looked_up_is w (funct3 w) stores (s 0, (s 1, (s 2, tt)))

pub written_back : (w : ℕ) → w < 2 ^ 32 → IfSome (instruction_of w) (HasWord w)
written_back w small = if_chosen (HasWord w) (λ row. row w) (entry opcodes (opcode w)) (at_entry (λ row. IfSome (row w) (HasWord w)) (opcode w) opcodes (
  of_u w _ small,
  (
    of_u w _ small,
    (
      of_j w small,
      (
        λ op. looked_up_is w (funct3 w) jumps (of_i w _ 0 small op, tt),
        (
          of_branch w small,
          (
            of_load w small,
            (
              of_store w small,
              (
                of_immediate w small,
                (
                  of_operation w small,
                  (
                    λ op. looked_up_is w (funct3 w) fences (of_fence w small op, tt),
                    (λ op. looked_up_is w w systems (λ is. (tt, is), (λ is. (tt, is), tt)), tt),
                  ),
                ),
              ),
            ),
          ),
        ),
      ),
    ),
  ),
))
