-- What instructions put into registers: the instructions that words stand for, and their values, which are words. Crates above cite these lemmas.
use Rattle.std.proofs.Common.{◌≡◌, ℕ, suc, ◌-◌, ◌^◌, ◌<◌, Some, None, arith, zero, ◌*◌, ◌/◌, ◌%◌, ◌≤◌, Bool, true, false, refl, ℤ, pos, negsuc, ◌*ℤ◌, neg_ℤ, ltb-true, ltb-false, List, [], ◌∷◌, subst, Option}
use Rattle.std.specs.Prelude.{◌==◌, nat_lt, if◌then◌else◌, int_div, int_rem}
use Rattle.std.proofs.Math.IntN.{nat_abs}
use Rattle.std.proofs.Math.Nat.{div-le_self, mod-le}
use Rattle.std.proofs.lemmas.Nat.{mul-le}
use Rattle.isa.specs.Machine.{as_word, as_signed, upper_word, quotient, remainder, unsigned_quotient, unsigned_remainder, State, in_window, little_endian, bytes_at, fetch, fetch_if, decoded, Fetched}
use Rattle.isa.specs.declared.Instr.{Instr}
use Rattle.isa.specs.declared.Instr.TheVariants.{Lui, Auipc, Jal, Jalr, Lb, Lh, Lw, Lbu, Lhu, Addi, Slti, Sltiu, Xori, Ori, Andi, Slli, Srli, Srai, Add, Sub, Sll, Slt, Sltu, Xor, Srl, Sra, Or, And, Mul, Mulh, Mulhsu, Mulhu, Div, Divu, Rem, Remu}
use Rattle.std.specs.List.{AllByRecursion}
use Rattle.std.specs.Option.{option_and_then, option_map}
use Rattle.isa.specs.Words.{field, signed, rd, funct3, imm_i, imm_u, imm_j, entry, branches, loads, stores, immediates, shifts, operations, jumps, fences, systems, looked_up, funct7_funct3, immediate, opcodes, opcode, instruction_of}

-- the word of a negative number is below 2 ^ 32, whatever the number
pub negative_word : (n : ℕ) → 2 ^ 32 - suc n < 2 ^ 32
negative_word n = omega arith

-- a negative number of any size
negated_word : (k : ℕ) → as_word (neg_ℤ (pos k)) < 2 ^ 32
negated_word zero = omega arith
negated_word (suc k) = negative_word k

abbrev signed_if : Bool → ℕ → ℤ
signed_if low v = if low then pos v else negsuc (2 ^ 32 - 1 - v)

signed_size : (v : ℕ) → v < 2 ^ 32 → nat_abs (as_signed v) ≤ 2 ^ 31
signed_size v h = by (nat_lt v 2147483648) refl
  where
    by : (low : Bool) → nat_lt v 2147483648 ≡ low → nat_abs (signed_if low v) ≤ 2 ^ 31
    by true e = let x = ltb-true v 2147483648 e in omega arith
    by false e = let x = ltb-false v 2147483648 e in omega arith

-- ---- products

upper_positive : (k : ℕ) → k ≤ 2 ^ 31 * 2 ^ 32 → upper_word (pos k) < 2 ^ 32
upper_positive k h = omega arith

upper_negated : (k : ℕ) → upper_word (neg_ℤ (pos k)) < 2 ^ 32
upper_negated zero = omega arith
upper_negated (suc k) = negative_word (k / 2 ^ 32)

upper_product : (x y : ℤ) → nat_abs x ≤ 2 ^ 31 → nat_abs y ≤ 2 ^ 32 → upper_word (x *ℤ y) < 2 ^ 32
upper_product (pos a) (pos b) h g = upper_positive (a * b) (mul-le a b (2 ^ 31) (2 ^ 32) h g)
upper_product (pos a) (negsuc b) h g = upper_negated (a * suc b)
upper_product (negsuc a) (pos b) h g = upper_negated (suc a * b)
upper_product (negsuc a) (negsuc b) h g = upper_positive (suc a * suc b) (mul-le (suc a) (suc b) (2 ^ 31) (2 ^ 32) h g)

pub signed_product_word : (x y : ℕ) → x < 2 ^ 32 → y < 2 ^ 32 → upper_word (as_signed x *ℤ as_signed y) < 2 ^ 32
signed_product_word x y h g = let z = signed_size y g in upper_product (as_signed x) (as_signed y) (signed_size x h) (omega arith)

pub mixed_product_word : (x y : ℕ) → x < 2 ^ 32 → y < 2 ^ 32 → upper_word (as_signed x *ℤ pos y) < 2 ^ 32
mixed_product_word x y h g = upper_product (as_signed x) (pos y) (signed_size x h) (omega arith)

pub unsigned_product_word : (x y : ℕ) → x < 2 ^ 32 → y < 2 ^ 32 → x * y / 2 ^ 32 < 2 ^ 32
unsigned_product_word x y h g = let z = mul-le x y (2 ^ 32 - 1) (2 ^ 32 - 1) (omega arith) (omega arith) in upper x y z
  where
    upper : (x y : ℕ) → x * y ≤ (2 ^ 32 - 1) * (2 ^ 32 - 1) → x * y / 2 ^ 32 < 2 ^ 32
    upper x y z = omega arith

-- ---- quotients and remainders

divided : (x y : ℤ) → nat_abs x ≤ 2 ^ 31 → as_word (int_div x y) < 2 ^ 32
divided (pos a) (pos b) h = let x = div-le_self a b in omega arith
divided (pos a) (negsuc b) h = negated_word (a / suc b)
divided (negsuc a) (pos b) h = negated_word (suc a / b)
divided (negsuc a) (negsuc b) h = let x = div-le_self (suc a) (suc b) in omega arith

rest : (x y : ℤ) → nat_abs x ≤ 2 ^ 31 → as_word (int_rem x y) < 2 ^ 32
rest (pos a) y h = let x = mod-le a (nat_abs y) in omega arith
rest (negsuc a) y h = negated_word (suc a % nat_abs y)

word_by : (b : Bool) (v w : ℕ) → v < 2 ^ 32 → w < 2 ^ 32 → (if b then v else w) < 2 ^ 32
word_by true v w h g = h
word_by false v w h g = g

pub quotient_word : (x y : ℕ) → x < 2 ^ 32 → quotient x y < 2 ^ 32
quotient_word x y h = word_by (y == 0) (2 ^ 32 - 1) _ (omega arith) (divided (as_signed x) (as_signed y) (signed_size x h))

pub remainder_word : (x y : ℕ) → x < 2 ^ 32 → remainder x y < 2 ^ 32
remainder_word x y h = word_by (y == 0) x _ h (rest (as_signed x) (as_signed y) (signed_size x h))

pub unsigned_quotient_word : (x y : ℕ) → x < 2 ^ 32 → unsigned_quotient x y < 2 ^ 32
unsigned_quotient_word x y h = word_by (y == 0) (2 ^ 32 - 1) (x / y) (omega arith) (let z = div-le_self x y in omega arith)

pub unsigned_remainder_word : (x y : ℕ) → x < 2 ^ 32 → unsigned_remainder x y < 2 ^ 32
unsigned_remainder_word x y h = word_by (y == 0) x (x % y) h (let z = mod-le x y in omega arith)

-- the register that an instruction sets; 0 where it sets none
abbrev pub sets : Instr → ℕ
sets (Lui d imm) = d
sets (Auipc d imm) = d
sets (Jal d imm) = d
sets (Jalr d a imm) = d
sets (Lb d a imm) = d
sets (Lh d a imm) = d
sets (Lw d a imm) = d
sets (Lbu d a imm) = d
sets (Lhu d a imm) = d
sets (Addi d a imm) = d
sets (Slti d a imm) = d
sets (Sltiu d a imm) = d
sets (Xori d a imm) = d
sets (Ori d a imm) = d
sets (Andi d a imm) = d
sets (Slli d a k) = d
sets (Srli d a k) = d
sets (Srai d a k) = d
sets (Add d a b) = d
sets (Sub d a b) = d
sets (Sll d a b) = d
sets (Slt d a b) = d
sets (Sltu d a b) = d
sets (Xor d a b) = d
sets (Srl d a b) = d
sets (Sra d a b) = d
sets (Or d a b) = d
sets (And d a b) = d
sets (Mul d a b) = d
sets (Mulh d a b) = d
sets (Mulhsu d a b) = d
sets (Mulhu d a b) = d
sets (Div d a b) = d
sets (Divu d a b) = d
sets (Rem d a b) = d
sets (Remu d a b) = d
sets other = 0

-- the immediate that is set, or an operand of a bitwise operation, as a word
abbrev pub word_in : Instr → ℕ
word_in (Lui d imm) = as_word imm
word_in (Xori d a imm) = as_word imm
word_in (Ori d a imm) = as_word imm
word_in other = 0

pub record InRange (i : Instr) : Type 0 where
  pub register : sets i < 32
  pub word : word_in i < 2 ^ 32

-- a signed number of at most 32 bits is a word
pub signed_word : (n v : ℕ) → v < 2 ^ 32 → as_word (signed n v) < 2 ^ 32
signed_word n v h = by (nat_lt v (2 ^ (n - 1)))
  where
    by : (b : Bool) → as_word (if b then pos v else negsuc (2 ^ n - 1 - v)) < 2 ^ 32
    by true = h
    by false = negative_word (2 ^ n - 1 - v)

rd_small : (w : ℕ) → rd w < 32
rd_small w = omega arith

small_imm : (w : ℕ) → as_word (imm_i w) < 2 ^ 32
small_imm w = signed_word 12 (field w 20 12) (omega arith)

upper_imm : (w : ℕ) → as_word (imm_u w) < 2 ^ 32
upper_imm w = signed_word 32 (field w 12 20 * 2 ^ 12) (omega arith)

-- ---- tables

chosen : {X : Type 0} (b : Bool) (x y : X) (o : Option X) (Q : X → Type 0) → Q x → (o ≡ Some y → Q y) → (if b then Some x else o) ≡ Some y → Q y
chosen true x y o Q h g e = let same : x ≡ y = cc in subst Q same h
chosen false x y o Q h g e = g e

entry_all : {X : Type 0} (Q : X → Type 0) (rows : List (ℕ × X)) (k : ℕ) (x : X) → AllByRecursion (λ row. Q row.1) rows → entry rows k ≡ Some x → Q x
entry_all Q [] k x h e = cc
entry_all Q (row ∷ rows) k x h e = chosen (row.0 == k) row.1 x (entry rows k) Q h.0 (entry_all Q rows k x h.1) e

-- what a row makes of each word
abbrev MakesInRange : (ℕ → Instr) → Type 0
MakesInRange make = (w : ℕ) → InRange (make w)

mapped : (o : Option (ℕ → Instr)) (w : ℕ) (i : Instr) → ((make : ℕ → Instr) → o ≡ Some make → MakesInRange make) → option_map (λ make. make w) o ≡ Some i → InRange i
mapped None w i h e = cc
mapped (Some make) w i h e = let same : make w ≡ i = cc in subst InRange same (h make refl w)

looked : (table : List (ℕ × (ℕ → Instr))) → AllByRecursion (λ row. MakesInRange row.1) table → (k w : ℕ) (i : Instr) → looked_up table k w ≡ Some i → InRange i
looked table h k w i e = mapped (entry table k) w i (λ make f. entry_all MakesInRange table k make h f) e

-- the registers and immediates of a row
ruleset ranges = (rd_small, small_imm, upper_imm, arith)

abbrev RowInRange : (ℕ → Option Instr) → Type 0
RowInRange row = (w : ℕ) (i : Instr) → row w ≡ Some i → InRange i

immediate_range : RowInRange immediate
immediate_range w i e = by (funct3 w % 4 == 1) e
  where
    by : (b : Bool) → (if b then looked_up shifts (funct7_funct3 w) w else looked_up immediates (funct3 w) w) ≡ Some i → InRange i
    by true e = looked shifts (search ranges parts 40) (funct7_funct3 w) w i e
    by false e = looked immediates (search ranges parts 40) (funct3 w) w i e

one_row : (make : ℕ → Instr) → MakesInRange make → RowInRange (λ w. Some (make w))
one_row make h w i e = let same : make w ≡ i = cc in subst InRange same (h w)

-- a row of a table by a key of the word
table_range : (table : List (ℕ × (ℕ → Instr))) → AllByRecursion (λ row. MakesInRange row.1) table → (key : ℕ → ℕ) → RowInRange (λ w. looked_up table (key w) w)
table_range table h key w i e = looked table h (key w) w i e

opcodes_range : AllByRecursion (λ row. RowInRange row.1) opcodes
opcodes_range =
    let lui = one_row (λ w. Lui (rd w) (imm_u w)) (search ranges) in
    let auipc = one_row (λ w. Auipc (rd w) (imm_u w)) (search ranges) in
    let jal = one_row (λ w. Jal (rd w) (imm_j w)) (search ranges) in
    let jumped = table_range jumps (search ranges parts 40) funct3 in
    let branched = table_range branches (search ranges parts 40) funct3 in
    let loaded = table_range loads (search ranges parts 40) funct3 in
    let stored = table_range stores (search ranges parts 40) funct3 in
    let computed = table_range operations (search ranges parts 40) funct7_funct3 in
    let fenced = table_range fences (search ranges parts 40) funct3 in
    let called = table_range systems (search ranges parts 40) (λ w. w) in
    (lui, (auipc, (jal, (jumped, (branched, (loaded, (stored, (immediate_range, (computed, (fenced, (called, tt)))))))))))

row_found : (o : Option (ℕ → Option Instr)) (w : ℕ) (i : Instr) → ((row : ℕ → Option Instr) → o ≡ Some row → RowInRange row) → option_and_then (λ row. row w) o ≡ Some i → InRange i
row_found None w i h e = cc
row_found (Some row) w i h e = h row refl w i e

-- each instruction that a word stands for
pub in_range : (w : ℕ) (i : Instr) → instruction_of w ≡ Some i → InRange i
in_range w i e = row_found (entry opcodes (opcode w)) w i (λ row f. entry_all RowInRange opcodes (opcode w) row opcodes_range f) e

decoded_in_range : (w : ℕ) (i : Instr) (o : Option Instr) → instruction_of w ≡ o → decoded o ≡ Fetched i → InRange i
decoded_in_range w i None e f = cc
decoded_in_range w i (Some j) e f = let same : j ≡ i = cc in subst InRange same (in_range w j e)

-- and so each that is fetched
pub fetched_in_range : (s : State) (i : Instr) → fetch s ≡ Fetched i → InRange i
fetched_in_range s i e = by (in_window s s.pc 4) e
  where
    by : (b : Bool) → fetch_if s b ≡ Fetched i → InRange i
    by true e = decoded_in_range (little_endian (bytes_at s s.pc 4)) i (instruction_of (little_endian (bytes_at s s.pc 4))) refl e
    by false e = cc
