-- What a word was made of stands in it again.
use Rattle.std.proofs.Common.{◌≡◌, ℕ, ◌+◌, ◌*◌, ◌/◌, ◌%◌, ◌^◌, ◌<◌, ℤ, refl, ap, ◌∙◌, arith}
use Rattle.isa.specs.Words.{field, signed, opcode, rd, funct3, rs1, rs2, funct7, imm_i, imm_s, imm_b, imm_u, imm_j}
use Rattle.isa.specs.Encodings.{low, fields, i_form, s_form, b_form, u_form, j_form, IsImmediate, FitsSmallImmediate, FitsBranch, IsRegister}
use Rattle.rv_decode.proofs.Immediates.{signed_12, signed_13, signed_21, signed_32}

-- a word with these fields
pub record Has (w op d f3 s1 s2 f7 : ℕ) : Type 0 where
  pub is_op : opcode w ≡ op
  pub is_d : rd w ≡ d
  pub is_f3 : funct3 w ≡ f3
  pub is_s1 : rs1 w ≡ s1
  pub is_s2 : rs2 w ≡ s2
  pub is_f7 : funct7 w ≡ f7

pub has_fields : (op d f3 s1 s2 f7 : ℕ) → op < 2 ^ 7 → d < 2 ^ 5 → f3 < 2 ^ 3 → s1 < 2 ^ 5 → s2 < 2 ^ 5 → f7 < 2 ^ 7 → Has (fields op d f3 s1 s2 f7) op d f3 s1 s2 f7
has_fields op d f3 s1 s2 f7 a b c e f g = record {
  is_op = omega arith;
  is_d = omega arith;
  is_f3 = omega arith;
  is_s1 = omega arith;
  is_s2 = omega arith;
  is_f7 = omega arith;
}

pub record HasI (w op f3 d s1 : ℕ) (imm : ℤ) : Type 0 where
  pub is_op : opcode w ≡ op
  pub is_f3 : funct3 w ≡ f3
  pub is_d : rd w ≡ d
  pub is_s1 : rs1 w ≡ s1
  pub is_imm : imm_i w ≡ imm

pub has_i : (op f3 d s1 : ℕ) (imm : ℤ) → op < 2 ^ 7 → f3 < 2 ^ 3 → FitsSmallImmediate d s1 imm → HasI (i_form op f3 d s1 imm) op f3 d s1 imm
has_i op f3 d s1 imm a b fits = by (low 12 imm) (omega arith) (signed_12 imm fits.2) where
  by : (v : ℕ) → v < 2 ^ 12 → signed 12 v ≡ imm → HasI (fields op d f3 s1 0 0 + v * 2 ^ 20) op f3 d s1 imm
  by v small is = let e : field (fields op d f3 s1 0 0 + v * 2 ^ 20) 20 12 ≡ v = omega arith in record {
    is_op = omega arith;
    is_f3 = omega arith;
    is_d = omega arith;
    is_s1 = omega arith;
    is_imm = ap (signed 12) e ∙ is;
  }

-- imm_of is imm_s or imm_b
pub record HasTwo (imm_of : ℕ → ℤ) (w op f3 s1 s2 : ℕ) (imm : ℤ) : Type 0 where
  pub is_op : opcode w ≡ op
  pub is_f3 : funct3 w ≡ f3
  pub is_s1 : rs1 w ≡ s1
  pub is_s2 : rs2 w ≡ s2
  pub is_imm : imm_of w ≡ imm

pub has_s : (f3 s1 s2 : ℕ) (imm : ℤ) → f3 < 2 ^ 3 → FitsSmallImmediate s1 s2 imm → HasTwo imm_s (s_form f3 s1 s2 imm) 0b0100011 f3 s1 s2 imm
has_s f3 s1 s2 imm a fits = by (low 12 imm) (omega arith) (signed_12 imm fits.2) where
  by : (v : ℕ) → v < 2 ^ 12 → signed 12 v ≡ imm → HasTwo imm_s (fields 0b0100011 (field v 0 5) f3 s1 s2 (field v 5 7)) 0b0100011 f3 s1 s2 imm
  by v small is =
      let h = has_fields 0b0100011 (field v 0 5) f3 s1 s2 (field v 5 7) (omega arith) (omega arith) a fits.0 fits.1 (omega arith) in
      let e : field v 5 7 * 2 ^ 5 + field v 0 5 ≡ v = omega arith in
      record { is_op = h.is_op; is_f3 = h.is_f3; is_s1 = h.is_s1; is_s2 = h.is_s2; is_imm = rw (h.is_f7, h.is_d) (ap (signed 12) e ∙ is) }

-- the immediate of a branch, from the two fields that it stands in
b_value : (w d f7 v : ℕ) → rd w ≡ d → funct7 w ≡ f7 → d ≡ field v 1 4 * 2 + field v 11 1 → f7 ≡ field v 12 1 * 2 ^ 6 + field v 5 6 → v < 2 ^ 13 → v % 2 ≡ 0 → field w 31 1 * 2 ^ 12 + field w 7 1 * 2 ^ 11 + field w 25 6 * 2 ^ 5 + field w 8 4 * 2 ≡ v
b_value w d f7 v is_d is_f7 below above small even =
    let lowest : field w 7 1 ≡ d % 2 = omega arith in
    let middle : field w 8 4 ≡ d / 2 = omega arith in
    let upper : field w 25 6 ≡ f7 % 2 ^ 6 = omega arith in
    let highest : field w 31 1 ≡ f7 / 2 ^ 6 = omega arith in
    rw (lowest, middle, upper, highest, below, above) (omega arith)

pub has_b : (f3 s1 s2 : ℕ) (imm : ℤ) → f3 < 2 ^ 3 → FitsBranch s1 s2 imm → HasTwo imm_b (b_form f3 s1 s2 imm) 0b1100011 f3 s1 s2 imm
has_b f3 s1 s2 imm a fits = let is = signed_13 imm fits.2 in by (low 13 imm) (omega arith) is.0 is.1 where
  by : (v : ℕ) → v < 2 ^ 13 → v % 2 ≡ 0 → signed 13 v ≡ imm → HasTwo imm_b (fields 0b1100011 (field v 1 4 * 2 + field v 11 1) f3 s1 s2 (field v 12 1 * 2 ^ 6 + field v 5 6)) 0b1100011 f3 s1 s2 imm
  by v small even is =
      let h = has_fields 0b1100011 (field v 1 4 * 2 + field v 11 1) f3 s1 s2 (field v 12 1 * 2 ^ 6 + field v 5 6) (omega arith) (omega arith) a fits.0 fits.1 (omega arith) in
      record {
        is_op = h.is_op;
        is_f3 = h.is_f3;
        is_s1 = h.is_s1;
        is_s2 = h.is_s2;
        is_imm = ap (signed 13) (b_value _ _ _ v h.is_d h.is_f7 refl refl small even) ∙ is;
      }

-- imm_of is imm_u or imm_j
pub record HasOne (imm_of : ℕ → ℤ) (w op d : ℕ) (imm : ℤ) : Type 0 where
  pub is_op : opcode w ≡ op
  pub is_d : rd w ≡ d
  pub is_imm : imm_of w ≡ imm

pub has_u : (op d : ℕ) (imm : ℤ) → op < 2 ^ 7 → IsRegister d × IsImmediate 32 (2 ^ 12) imm → HasOne imm_u (u_form op d imm) op d imm
has_u op d imm a fits = let is = signed_32 imm fits.1 in by (low 32 imm) (omega arith) is.0 is.1 where
  by : (v : ℕ) → v < 2 ^ 32 → v % 2 ^ 12 ≡ 0 → signed 32 v ≡ imm → HasOne imm_u (op + d * 2 ^ 7 + field v 12 20 * 2 ^ 12) op d imm
  by v small even is =
      let small_d = fits.0 in
      let e : field (op + d * 2 ^ 7 + field v 12 20 * 2 ^ 12) 12 20 * 2 ^ 12 ≡ v = omega arith in
      record { is_op = omega arith; is_d = omega arith; is_imm = ap (signed 32) e ∙ is }

-- the word of a jump from the parts of its immediate, and the parts from the word
j_value : (d a b c e : ℕ) → d < 2 ^ 5 → a < 2 ^ 8 → b < 2 → c < 2 ^ 10 → e < 2 → let w = 0b1101111 + d * 2 ^ 7 + a * 2 ^ 12 + b * 2 ^ 20 + c * 2 ^ 21 + e * 2 ^ 31 in (opcode w ≡ 0b1101111) × (rd w ≡ d) × (field w 12 8 ≡ a) × (field w 20 1 ≡ b) × (field w 21 10 ≡ c) × (field w 31 1 ≡ e)
j_value d a b c e small_d small_a small_b small_c small_e = (omega arith, omega arith, omega arith, omega arith, omega arith, omega arith)

pub has_j : (d : ℕ) (imm : ℤ) → IsRegister d × IsImmediate 21 2 imm → HasOne imm_j (j_form d imm) 0b1101111 d imm
has_j d imm fits = let is = signed_21 imm fits.1 in by (low 21 imm) (omega arith) is.0 is.1 where
  by : (v : ℕ) → v < 2 ^ 21 → v % 2 ≡ 0 → signed 21 v ≡ imm → HasOne imm_j (0b1101111 + d * 2 ^ 7 + field v 12 8 * 2 ^ 12 + field v 11 1 * 2 ^ 20 + field v 1 10 * 2 ^ 21 + field v 20 1 * 2 ^ 31) 0b1101111 d imm
  by v small even is =
      let p = j_value d (field v 12 8) (field v 11 1) (field v 1 10) (field v 20 1) fits.0 (omega arith) (omega arith) (omega arith) (omega arith) in
      let e : field v 20 1 * 2 ^ 20 + field v 12 8 * 2 ^ 12 + field v 11 1 * 2 ^ 11 + field v 1 10 * 2 ≡ v = omega arith in
      record { is_op = p.0; is_d = p.1; is_imm = rw (p.2, p.3, p.4, p.5) (ap (signed 21) e ∙ is) }

pub record HasFence (w kept : ℕ) : Type 0 where
  pub is_op : opcode w ≡ 0b0001111
  pub is_f3 : funct3 w ≡ 0
  pub is_kept : field w 15 17 * 2 ^ 5 + field w 7 5 ≡ kept

pub has_kept : (kept : ℕ) → kept < 2 ^ 22 → HasFence (0b0001111 + field kept 0 5 * 2 ^ 7 + field kept 5 17 * 2 ^ 15) kept
has_kept kept small = record { is_op = omega arith; is_f3 = omega arith; is_kept = omega arith }
