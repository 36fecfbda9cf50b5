-- What one instruction carries, row by row of the flow table, and what determines a lane where the table lists more.
use Rattle.std.proofs.Common.{◌≡◌, ℕ, ◌+◌, ◌-◌, ◌*◌, ◌/◌, ◌^◌, ◌%◌, ◌<◌, Bool, true, false, not, List, [], ◌∷◌, refl, arith, ap, ◌∙◌, subst, ℤ, pos, ◌*ℤ◌, bit_and, bit_or, bit_xor, int_lt, get_or, zero, suc, ◌⊎◌, inl, inr, ap₂, sym, negsuc, ltb-true, ltb-false}
use Rattle.std.specs.Prelude.{◌==◌, nat_lt, nat_le, if◌then◌else◌}
use Rattle.std.specs.Ordering.{int_eq}
use Rattle.std.specs.Int.Bits.{xor_zero_l, xor_zero_r, or_zero_l, or_zero_r}
use Rattle.std.proofs.lemmas.Bool.Decides.{Decides-int_eq}
use Rattle.isa.specs.declared.Instr.{Instr}
use Rattle.isa.specs.declared.Instr.TheVariants.{Lui, Auipc, Jal, Jalr, Beq, Bne, Blt, Bge, Bltu, Bgeu, Lb, Lh, Lw, Lbu, Lhu, Sb, Sh, Sw, Addi, Slti, Sltiu, Xori, Ori, Andi, Slli, Srli, Srai, Add, Sub, Sll, Slt, Sltu, Xor, Srl, Sra, Or, And, Mul, Mulh, Mulhsu, Mulhu, Div, Divu, Rem, Remu, Fence, Ecall, Ebreak}
use Rattle.isa.specs.Machine.{State, reg, execute, effect_of, effective_address, relative, place_of, as_word, as_signed, flag, arithmetic_right, wrap, in_window, jumped, landed, is_aligned, branched, loaded, stored, little_endian, sign_extended, bytes_at, low_bytes, moved_on_with, upper_word, quotient, remainder, unsigned_quotient, unsigned_remainder}
use Rattle.isa.proofs.Window.{holds_by}
use Rattle.flow_model.specs.declared.Loc.{Loc}
use Rattle.flow_model.specs.declared.Rule.{Rule}
use Rattle.flow_model.specs.Flow.{flow, origins_by, to_register, to_memory, nothing, computed, kept_or_computed, with_base, lane, lanes, loaded_byte, signed_load, moved_or, each_lane, all_lanes, shifted_lanes, in_first_lane, unchanged_lanes, left_lanes, right_lanes}
use Rattle.record_model.specs.States.{IsSound}
use Rattle.answer_meaning.specs.Content.{content, lane_of, AgreeAt}
use Rattle.answer_meaning.specs.StepLaws.{is_load}
use Rattle.record_model.proofs.Sound.{low_length, Size, OneByte, TwoBytes, FourBytes, Leaves, on_landed, on_branched, on_loaded, on_stored}
use Rattle.answer_meaning.proofs.Targets.{xor_lane, or_lane, and_lane, and_all, lane_down, lane_down_signed, Short, ShortOne, ShortTwo, AgreesOn, agrees_on, Carries, carry, kept, to_set, to_put, left_moved, right_moved, same_value, moves, of_one, of_two, of_shift, of_bytes, of_immediate, of_shift_by, of_test, of_tests, of_move, of_load, of_signed_load, of_store, word_agrees, lane_agrees, amount_agrees}
use Rattle.std.specs.List.{flat_map, range_with_len}
use Rattle.std.proofs.lemmas.Bool.{cases_eq}
use Rattle.std.specs.Int.{int_shr}
use Rattle.std.proofs.Math.Nat.{div-div-eq-div-mul, div-le_self, mul_comm}
use Rattle.std.proofs.lemmas.Nat.{mul-mod}
use Rattle.lists.proofs.Lists.{all-parts}
use Rattle.answer_meaning.specs.FewerLaws.{lanes_up_to, lanes_from, OfSum, OfDifference, OfProduct, OfImmediate, OfLeftShift, OfRightShift, OfSignedShift, OfQuotient, FewerDetermine}
use Rattle.record_model.proofs.Values.{sets}

-- two runs go to one place; under the rule index a load may go to any two
abbrev pub SamePlaceIf : Bool → Rule → ℕ → ℕ → Type 0
SamePlaceIf true rule x y = AgreesOn rule x y
SamePlaceIf false rule x y = x ≡ y

abbrev pub SamePlace : Rule → Instr → ℕ → ℕ → Type 0
SamePlace rule i x y = SamePlaceIf (is_load i) rule x y

module _ {s t : State} (ss : IsSound s) (st : IsSound t) {rule : Rule} {P : List Loc → ℕ → ℕ → Type 0} (c : Carries s t rule P) where
  abbrev pub StepCarries : Instr → Loc → Type 0
  StepCarries i l = Leaves (execute s (effect_of s i)) (λ x. Leaves (execute t (effect_of t i)) (λ y. P (origins_by (flow rule i (place_of s i)) l) (content x l) (content y l)))

  -- a register is set
  set_both : (d v w : ℕ) (origins : ℕ → List Loc) → d < 32 → ((i : ℕ) → i < 4 → P (origins i) (lane_of v i) (lane_of w i)) → (l : Loc) → P (origins_by (to_register d origins) l) (content (moved_on_with s d v) l) (content (moved_on_with t d w) l)
  set_both d v w origins h each l = to_set c d v w (wrap (s.pc + 4)) (wrap (t.pc + 4)) origins ss st h each l

  jump_both : (d p q : ℕ) → d < 32 → s.pc ≡ t.pc → (l : Loc) → Leaves (landed (is_aligned p) (jumped s d p)) (λ x. Leaves (landed (is_aligned q) (jumped t d q)) (λ y. P (origins_by (to_register d nothing) l) (content x l) (content y l)))
  jump_both d p q h e l =
      on_landed (is_aligned p) (jumped s d p) _ (on_landed (is_aligned q) (jumped t d q) _
      (to_set c d (wrap (s.pc + 4)) (wrap (t.pc + 4)) p q nothing ss st h (λ i g. same_value ss st c (wrap (s.pc + 4)) (wrap (t.pc + 4)) i (ap (λ (x : ℕ). wrap (x + 4)) e)) l))

  branch_both : (x y : Bool) (p q : ℕ) (l : Loc) → Leaves (branched s x p) (λ u. Leaves (branched t y q) (λ v. P (l ∷ []) (content u l) (content v l)))
  branch_both x y p q l = on_branched s x p _ (λ p. on_branched t y q _ (λ q. kept c p q l))

  -- the origins of a load, against the states after it
  abbrev LoadsTo : (d a b n : ℕ) → Bool → (ℕ → List Loc) → Loc → Type 0
  LoadsTo d a b n is_signed origins l = Leaves (loaded s (in_window s a n) d a n is_signed) (λ x. Leaves (loaded t (in_window t b n) d b n is_signed) (λ y. P (origins_by (to_register d origins) l) (content x l) (content y l)))

  load_both : (d k : ℕ) (imm : ℤ) (n : ℕ) → Size n → d < 32 → AgreesOn rule (effective_address s k imm) (effective_address t k imm) → (l : Loc)
      → LoadsTo d (effective_address s k imm) (effective_address t k imm) n false (loaded_byte rule k (effective_address s k imm) n) l
  load_both d k imm n z h on l =
      let a = effective_address s k imm in
      let b = effective_address t k imm in
      on_loaded s (in_window s a n) d a n false _ (λ x. on_loaded t (in_window t b n) d b n false _ (λ y.
      set_both d (little_endian (bytes_at s a n)) (little_endian (bytes_at t b n)) (loaded_byte rule k a n) h (λ i g. of_load ss st c k imm n i z on (holds_by s a n x) (holds_by t b n y)) l))

  signed_load_both : (d k : ℕ) (imm : ℤ) (n : ℕ) → Short n → d < 32 → AgreesOn rule (effective_address s k imm) (effective_address t k imm) → (l : Loc)
      → LoadsTo d (effective_address s k imm) (effective_address t k imm) n true (signed_load rule k (effective_address s k imm) n) l
  signed_load_both d k imm n z h on l =
      let a = effective_address s k imm in
      let b = effective_address t k imm in
      on_loaded s (in_window s a n) d a n true _ (λ x. on_loaded t (in_window t b n) d b n true _ (λ y.
      set_both d (sign_extended (8 * n) (little_endian (bytes_at s a n))) (sign_extended (8 * n) (little_endian (bytes_at t b n))) (signed_load rule k a n) h (λ i g. of_signed_load ss st c k imm n i z g on (holds_by s a n x) (holds_by t b n y)) l))

  abbrev StoresTo : (a n r : ℕ) → (ℕ → List Loc) → Loc → ℕ → Type 0
  StoresTo a n r origins l b = Leaves (stored s (in_window s a n) a n (reg s r)) (λ x. Leaves (stored t (in_window t b n) b n (reg t r)) (λ y. P (origins_by (to_memory a n origins) l) (content x l) (content y l)))

  store_to : (a b n r : ℕ) (origins : ℕ → List Loc) → Size n → a ≡ b → ((i : ℕ) → i < n → P (origins i) (get_or (low_bytes n (reg s r)) i 0) (get_or (low_bytes n (reg t r)) i 0)) → (l : Loc) → StoresTo a n r origins l b
  store_to a b n r origins z e each l = subst (StoresTo a n r origins l) e
      (on_stored s (in_window s a n) a n (reg s r) _ (λ x. on_stored t (in_window t a n) a n (reg t r) _ (λ y.
      to_put c a n (wrap (s.pc + 4)) (wrap (t.pc + 4)) (low_bytes n (reg s r)) (low_bytes n (reg t r)) origins ss st (low_length n (reg s r) z) (low_length n (reg t r) z) (holds_by s a n x) (holds_by t a n y) each l)))

  store_both : (k : ℕ) (imm : ℤ) (n r : ℕ) → Size n → effective_address s k imm ≡ effective_address t k imm → (l : Loc)
      → StoresTo (effective_address s k imm) n r (λ i. with_base rule k (lane r i)) l (effective_address t k imm)
  store_both k imm n r z e l = store_to (effective_address s k imm) (effective_address t k imm) n r (λ i. with_base rule k (lane r i)) z e
      (λ i g. c.based k imm (lane r i) _ _ (agrees_on rule (effective_address s k imm) (effective_address t k imm) e) (λ same. of_store ss st c r n i g)) l

  -- an immediate of 0 makes the sum a move
  add_immediate : (a : ℕ) (imm : ℤ) (i : ℕ) → P ((if int_eq imm (pos 0) then lane a else computed rule (λ j. lanes a)) i) (lane_of (wrap (reg s a + as_word imm)) i) (lane_of (wrap (reg t a + as_word imm)) i)
  add_immediate a imm i = by (int_eq imm (pos 0)) refl
    where
      unmoved : (v : ℕ) → v < 2 ^ 32 → imm ≡ pos 0 → lane_of (wrap (v + as_word imm)) i ≡ lane_of v i
      unmoved v h e = let same : wrap (v + 0) ≡ v = omega arith in ap (λ (z : ℤ). lane_of (wrap (v + as_word z)) i) e ∙ ap (λ (x : ℕ). lane_of x i) same

      by : (b : Bool) → int_eq imm (pos 0) ≡ b → P ((if b then lane a else computed rule (λ j. lanes a)) i) (lane_of (wrap (reg s a + as_word imm)) i) (lane_of (wrap (reg t a + as_word imm)) i)
      by true e = let z = (Decides-int_eq imm (pos 0)).0 e in carry c (lane a i) _ (lane_of (reg s a) i) _ (lane_of (reg t a) i) (unmoved (reg s a) (ss.words a) z) (unmoved (reg t a) (st.words a) z) (moves ss st c a i)
      by false e = of_one ss st c (λ v. wrap (v + as_word imm)) a i

  -- what each instruction carries
  pub carries : (i : Instr) → sets i < 32 → s.pc ≡ t.pc → SamePlace rule i (place_of s i) (place_of t i) → (l : Loc) → StepCarries i l
  carries (Lui d imm) h e p l = set_both d (as_word imm) (as_word imm) (nothing) h (λ i g. same_value ss st c (as_word imm) (as_word imm) i refl) l
  carries (Auipc d imm) h e p l = set_both d (relative s imm) (relative t imm) (nothing) h (λ i g. same_value ss st c (relative s imm) (relative t imm) i (ap (λ (x : ℕ). wrap (x + as_word imm)) e)) l
  carries (Jal d imm) h e p l = jump_both d (relative s imm) (relative t imm) h e l
  carries (Jalr d a imm) h e p l = jump_both d (effective_address s a imm / 2 * 2) (effective_address t a imm / 2 * 2) h e l
  carries (Beq a b imm) h e p l = branch_both (reg s a == reg s b) (reg t a == reg t b) (relative s imm) (relative t imm) l
  carries (Bne a b imm) h e p l = branch_both (not (reg s a == reg s b)) (not (reg t a == reg t b)) (relative s imm) (relative t imm) l
  carries (Blt a b imm) h e p l = branch_both (int_lt (as_signed (reg s a)) (as_signed (reg s b))) (int_lt (as_signed (reg t a)) (as_signed (reg t b))) (relative s imm) (relative t imm) l
  carries (Bge a b imm) h e p l = branch_both (not (int_lt (as_signed (reg s a)) (as_signed (reg s b)))) (not (int_lt (as_signed (reg t a)) (as_signed (reg t b)))) (relative s imm) (relative t imm) l
  carries (Bltu a b imm) h e p l = branch_both (nat_lt (reg s a) (reg s b)) (nat_lt (reg t a) (reg t b)) (relative s imm) (relative t imm) l
  carries (Bgeu a b imm) h e p l = branch_both (nat_le (reg s b) (reg s a)) (nat_le (reg t b) (reg t a)) (relative s imm) (relative t imm) l
  carries (Lw d a imm) h e p l = load_both d a imm 4 FourBytes h p l
  carries (Lhu d a imm) h e p l = load_both d a imm 2 TwoBytes h p l
  carries (Lbu d a imm) h e p l = load_both d a imm 1 OneByte h p l
  carries (Lh d a imm) h e p l = signed_load_both d a imm 2 ShortTwo h p l
  carries (Lb d a imm) h e p l = signed_load_both d a imm 1 ShortOne h p l
  carries (Sb a b imm) h e p l = store_both a imm 1 b OneByte p l
  carries (Sh a b imm) h e p l = store_both a imm 2 b TwoBytes p l
  carries (Sw a b imm) h e p l = store_both a imm 4 b FourBytes p l
  carries (Addi d a imm) h e p l = set_both d (wrap (reg s a + as_word imm)) (wrap (reg t a + as_word imm)) (if int_eq imm (pos 0) then lane a else computed rule (λ j. lanes a)) h (λ i g. add_immediate a imm i) l
  carries (Slti d a imm) h e p l = set_both d (flag (int_lt (as_signed (reg s a)) imm)) (flag (int_lt (as_signed (reg t a)) imm)) (computed rule (in_first_lane (lanes a))) h (λ i g. of_test ss st c (λ v. int_lt (as_signed v) imm) a i) l
  carries (Sltiu d a imm) h e p l = set_both d (flag (nat_lt (reg s a) (as_word imm))) (flag (nat_lt (reg t a) (as_word imm))) (computed rule (in_first_lane (lanes a))) h (λ i g. of_test ss st c (λ v. nat_lt v (as_word imm)) a i) l
  carries (Xori d a imm) h e p l = set_both d (bit_xor (reg s a) (as_word imm)) (bit_xor (reg t a) (as_word imm)) (kept_or_computed rule (unchanged_lanes 0 imm a) (lane a)) h (λ i g. of_immediate ss st c bit_xor xor_lane 0 (λ v x. xor_zero_r v) a imm i) l
  carries (Ori d a imm) h e p l = set_both d (bit_or (reg s a) (as_word imm)) (bit_or (reg t a) (as_word imm)) (kept_or_computed rule (unchanged_lanes 0 imm a) (lane a)) h (λ i g. of_immediate ss st c bit_or or_lane 0 (λ v x. or_zero_r v) a imm i) l
  carries (Andi d a imm) h e p l = set_both d (bit_and (reg s a) (as_word imm)) (bit_and (reg t a) (as_word imm)) (kept_or_computed rule (unchanged_lanes 255 imm a) (lane a)) h (λ i g. of_immediate ss st c bit_and and_lane 255 and_all a imm i) l
  carries (Slli d a k) h e p l = set_both d (wrap (reg s a * 2 ^ k)) (wrap (reg t a * 2 ^ k)) (kept_or_computed rule (left_lanes k a) (λ j. lanes a)) h (λ i g. of_shift_by ss st c (λ v. wrap (v * 2 ^ k)) (left_lanes k a) a i (left_moved s a k i g)) l
  carries (Srli d a k) h e p l = set_both d (reg s a / 2 ^ k) (reg t a / 2 ^ k) (kept_or_computed rule (right_lanes k a) (λ j. lanes a)) h (λ i g. of_shift_by ss st c (λ v. v / 2 ^ k) (right_lanes k a) a i (right_moved s (λ v. v / 2 ^ k) a k i (lane_down (reg s a) k i))) l
  carries (Srai d a k) h e p l = set_both d (arithmetic_right (reg s a) k) (arithmetic_right (reg t a) k) (kept_or_computed rule (right_lanes k a) (λ j. lanes a)) h (λ i g. of_shift_by ss st c (λ v. arithmetic_right v k) (right_lanes k a) a i (right_moved s (λ v. arithmetic_right v k) a k i (lane_down_signed (reg s a) k i (ss.words a)))) l
  carries (Add d a b) h e p l = set_both d (wrap (reg s a + reg s b)) (wrap (reg t a + reg t b)) (moved_or a b (computed rule (all_lanes a b))) h (λ i g. of_move ss st c (λ v w. wrap (v + w)) (λ w x. omega arith) (λ v x. omega arith) a b (computed rule (all_lanes a b)) i (of_two ss st c (λ v w. wrap (v + w)) a b i)) l
  carries (Sub d a b) h e p l = set_both d (wrap (reg s a + (2 ^ 32 - reg s b))) (wrap (reg t a + (2 ^ 32 - reg t b))) (computed rule (all_lanes a b)) h (λ i g. of_two ss st c (λ v w. wrap (v + (2 ^ 32 - w))) a b i) l
  carries (Sll d a b) h e p l = set_both d (wrap (reg s a * 2 ^ (reg s b % 32))) (wrap (reg t a * 2 ^ (reg t b % 32))) (computed rule (shifted_lanes a b)) h (λ i g. of_shift ss st c (λ v k. wrap (v * 2 ^ k)) a b i) l
  carries (Slt d a b) h e p l = set_both d (flag (int_lt (as_signed (reg s a)) (as_signed (reg s b)))) (flag (int_lt (as_signed (reg t a)) (as_signed (reg t b)))) (computed rule (in_first_lane (all_lanes a b 0))) h (λ i g. of_tests ss st c (λ v w. int_lt (as_signed v) (as_signed w)) a b i) l
  carries (Sltu d a b) h e p l = set_both d (flag (nat_lt (reg s a) (reg s b))) (flag (nat_lt (reg t a) (reg t b))) (computed rule (in_first_lane (all_lanes a b 0))) h (λ i g. of_tests ss st c (λ v w. nat_lt v w) a b i) l
  carries (Xor d a b) h e p l = set_both d (bit_xor (reg s a) (reg s b)) (bit_xor (reg t a) (reg t b)) (moved_or a b (computed rule (each_lane a b))) h (λ i g. of_move ss st c bit_xor (λ w x. xor_zero_l w) (λ v x. xor_zero_r v) a b (computed rule (each_lane a b)) i (of_bytes ss st c bit_xor xor_lane a b i)) l
  carries (Or d a b) h e p l = set_both d (bit_or (reg s a) (reg s b)) (bit_or (reg t a) (reg t b)) (moved_or a b (computed rule (each_lane a b))) h (λ i g. of_move ss st c bit_or (λ w x. or_zero_l w) (λ v x. or_zero_r v) a b (computed rule (each_lane a b)) i (of_bytes ss st c bit_or or_lane a b i)) l
  carries (Srl d a b) h e p l = set_both d (reg s a / 2 ^ (reg s b % 32)) (reg t a / 2 ^ (reg t b % 32)) (computed rule (shifted_lanes a b)) h (λ i g. of_shift ss st c (λ v k. v / 2 ^ k) a b i) l
  carries (Sra d a b) h e p l = set_both d (arithmetic_right (reg s a) (reg s b % 32)) (arithmetic_right (reg t a) (reg t b % 32)) (computed rule (shifted_lanes a b)) h (λ i g. of_shift ss st c (λ v k. arithmetic_right v k) a b i) l
  carries (And d a b) h e p l = set_both d (bit_and (reg s a) (reg s b)) (bit_and (reg t a) (reg t b)) (computed rule (each_lane a b)) h (λ i g. of_bytes ss st c bit_and and_lane a b i) l
  carries (Mul d a b) h e p l = set_both d (wrap ((reg s a) * (reg s b))) (wrap ((reg t a) * (reg t b))) (computed rule (all_lanes a b)) h (λ i g. of_two ss st c (λ v w. wrap (v * w)) a b i) l
  carries (Mulh d a b) h e p l = set_both d (upper_word (as_signed (reg s a) *ℤ as_signed (reg s b))) (upper_word (as_signed (reg t a) *ℤ as_signed (reg t b))) (computed rule (all_lanes a b)) h (λ i g. of_two ss st c (λ v w. upper_word (as_signed v *ℤ as_signed w)) a b i) l
  carries (Mulhsu d a b) h e p l = set_both d (upper_word (as_signed (reg s a) *ℤ pos (reg s b))) (upper_word (as_signed (reg t a) *ℤ pos (reg t b))) (computed rule (all_lanes a b)) h (λ i g. of_two ss st c (λ v w. upper_word (as_signed v *ℤ pos w)) a b i) l
  carries (Mulhu d a b) h e p l = set_both d ((reg s a) * (reg s b) / 2 ^ 32) ((reg t a) * (reg t b) / 2 ^ 32) (computed rule (all_lanes a b)) h (λ i g. of_two ss st c (λ v w. v * w / 2 ^ 32) a b i) l
  carries (Div d a b) h e p l = set_both d (quotient (reg s a) (reg s b)) (quotient (reg t a) (reg t b)) (computed rule (all_lanes a b)) h (λ i g. of_two ss st c (λ v w. quotient v w) a b i) l
  carries (Divu d a b) h e p l = set_both d (unsigned_quotient (reg s a) (reg s b)) (unsigned_quotient (reg t a) (reg t b)) (computed rule (all_lanes a b)) h (λ i g. of_two ss st c (λ v w. unsigned_quotient v w) a b i) l
  carries (Rem d a b) h e p l = set_both d (remainder (reg s a) (reg s b)) (remainder (reg t a) (reg t b)) (computed rule (all_lanes a b)) h (λ i g. of_two ss st c (λ v w. remainder v w) a b i) l
  carries (Remu d a b) h e p l = set_both d (unsigned_remainder (reg s a) (reg s b)) (unsigned_remainder (reg t a) (reg t b)) (computed rule (all_lanes a b)) h (λ i g. of_two ss st c (λ v w. unsigned_remainder v w) a b i) l
  carries (Fence held) h e p l = kept c (wrap (s.pc + 4)) (wrap (t.pc + 4)) l
  carries Ecall h e p l = tt
  carries Ebreak h e p l = tt

-- ---- the lanes up to one, and from one on, as a number

abbrev low : ℕ → ℕ → ℕ
low i v = v % 2 ^ (8 * (i + 1))

abbrev high : ℕ → ℕ → ℕ
high i v = v / 2 ^ (8 * i)

low_by : (v x i : ℕ) → i < 4 → ((j : ℕ) → j < i + 1 → lane_of v j ≡ lane_of x j) → low i v ≡ low i x
low_by v x zero h e = let a = e 0 (omega arith) in omega arith
low_by v x (suc zero) h e = let a = e 0 (omega arith) in let b = e 1 (omega arith) in omega arith
low_by v x (suc (suc zero)) h e = let a = e 0 (omega arith) in let b = e 1 (omega arith) in let c = e 2 (omega arith) in omega arith
low_by v x (suc (suc (suc zero))) h e = let a = e 0 (omega arith) in let b = e 1 (omega arith) in let c = e 2 (omega arith) in let d = e 3 (omega arith) in omega arith
low_by v x (suc (suc (suc (suc i)))) h e = absurd (omega arith)

high_by : (v x i : ℕ) → v < 2 ^ 32 → x < 2 ^ 32 → i < 4 → ((j : ℕ) → i < j + 1 → j < 4 → lane_of v j ≡ lane_of x j) → high i v ≡ high i x
high_by v x zero hv hx h e = let a = e 0 (omega arith) (omega arith) in let b = e 1 (omega arith) (omega arith) in let c = e 2 (omega arith) (omega arith) in let d = e 3 (omega arith) (omega arith) in omega arith
high_by v x (suc zero) hv hx h e = let b = e 1 (omega arith) (omega arith) in let c = e 2 (omega arith) (omega arith) in let d = e 3 (omega arith) (omega arith) in omega arith
high_by v x (suc (suc zero)) hv hx h e = let c = e 2 (omega arith) (omega arith) in let d = e 3 (omega arith) (omega arith) in omega arith
high_by v x (suc (suc (suc zero))) hv hx h e = let d = e 3 (omega arith) (omega arith) in omega arith
high_by v x (suc (suc (suc (suc i)))) hv hx h e = absurd (omega arith)

-- a lane of a sum or a product, by the lanes up to it
by_low : (n k i : ℕ) → i < 4 → low i n ≡ low i k → lane_of (wrap n) i ≡ lane_of (wrap k) i
by_low n k (suc (suc (suc (suc i)))) h e = absurd (omega arith)
by_low n k i h e = omega arith

low_sum : (v w x y i : ℕ) → i < 4 → low i v ≡ low i x → low i w ≡ low i y → low i (v + w) ≡ low i (x + y)
low_sum v w x y (suc (suc (suc (suc i)))) h e f = absurd (omega arith)
low_sum v w x y i h e f = omega arith

low_negated : (w y i : ℕ) → w < 2 ^ 32 → y < 2 ^ 32 → i < 4 → low i w ≡ low i y → low i (2 ^ 32 - w) ≡ low i (2 ^ 32 - y)
low_negated w y (suc (suc (suc (suc i)))) p q h e = absurd (omega arith)
low_negated w y i p q h e = omega arith

low_product : (v w x y i : ℕ) → low i v ≡ low i x → low i w ≡ low i y → low i (v * w) ≡ low i (x * y)
low_product v w x y i e f =
    let m = 2 ^ (8 * (i + 1)) in
    mul-mod v w m ∙ ap₂ (λ (a b : ℕ). (a * b) % m) e f ∙ sym (mul-mod x y m)

-- a lane by the lanes from it on
by_high : (n k i : ℕ) → i < 4 → high i n ≡ high i k → lane_of n i ≡ lane_of k i
by_high n k (suc (suc (suc (suc i)))) h e = absurd (omega arith)
by_high n k i h e = omega arith

high_quotient : (v x y i : ℕ) → high i v ≡ high i x → high i (v / y) ≡ high i (x / y)
high_quotient v x y i e = turned v ∙ ap (λ (n : ℕ). n / y) e ∙ sym (turned x)
  where
    m : ℕ
    m = 2 ^ (8 * i)

    turned : (n : ℕ) → n / y / m ≡ n / m / y
    turned n = div-div-eq-div-mul n y m ∙ ap (λ (k : ℕ). n / k) (mul_comm y m) ∙ sym (div-div-eq-div-mul n m y)

-- ---- the sign

same_sign : (v x i : ℕ) → v < 2 ^ 32 → x < 2 ^ 32 → i < 4 → high i v ≡ high i x → v < 2 ^ 31 → x < 2 ^ 31
same_sign v x (suc (suc (suc (suc i)))) p q h e f = absurd (omega arith)
same_sign v x i p q h e f = omega arith

high_complement : (v x i : ℕ) → v < 2 ^ 32 → x < 2 ^ 32 → i < 4 → high i v ≡ high i x → high i (2 ^ 32 - 1 - v) ≡ high i (2 ^ 32 - 1 - x)
high_complement v x (suc (suc (suc (suc i)))) p q h e = absurd (omega arith)
high_complement v x i p q h e = omega arith

by_complement : (n k i : ℕ) → n < 2 ^ 32 → k < 2 ^ 32 → i < 4 → high i n ≡ high i k → lane_of (2 ^ 32 - suc n) i ≡ lane_of (2 ^ 32 - suc k) i
by_complement n k (suc (suc (suc (suc i)))) p q h e = absurd (omega arith)
by_complement n k i p q h e = omega arith

-- ---- the operations

quotient_lane : (v x y i : ℕ) → i < 4 → high i v ≡ high i x → lane_of (unsigned_quotient v y) i ≡ lane_of (unsigned_quotient x y) i
quotient_lane v x y i h e = by (y == 0)
  where
    by : (b : Bool) → lane_of (if b then 2 ^ 32 - 1 else v / y) i ≡ lane_of (if b then 2 ^ 32 - 1 else x / y) i
    by true = refl
    by false = by_high (v / y) (x / y) i h (high_quotient v x y i e)

abbrev signed_if : Bool → ℕ → ℤ
signed_if positive v = if positive then pos v else negsuc (2 ^ 32 - 1 - v)

shifted_lane : (v x k i : ℕ) → v < 2 ^ 32 → x < 2 ^ 32 → i < 4 → high i v ≡ high i x → lane_of (arithmetic_right v k) i ≡ lane_of (arithmetic_right x k) i
shifted_lane v x k i p q h e = by (nat_lt v 2147483648) refl (nat_lt x 2147483648) refl
  where
    by : (b : Bool) → nat_lt v 2147483648 ≡ b → (c : Bool) → nat_lt x 2147483648 ≡ c → lane_of (as_word (int_shr (signed_if b v) k)) i ≡ lane_of (as_word (int_shr (signed_if c x) k)) i
    by true f true g = by_high (v / 2 ^ k) (x / 2 ^ k) i h (high_quotient v x (2 ^ k) i e)
    by true f false g = absurd (omega (arith, same_sign v x i p q h e (ltb-true v 2147483648 f), ltb-false x 2147483648 g))
    by false f true g = absurd (omega (arith, same_sign x v i q p h (sym e) (ltb-true x 2147483648 g), ltb-false v 2147483648 f))
    by false f false g =
        let n = 2 ^ 32 - 1 - v in
        let m = 2 ^ 32 - 1 - x in
        let n_small = div-le_self n (2 ^ k) in
        let m_small = div-le_self m (2 ^ k) in
        by_complement (n / 2 ^ k) (m / 2 ^ k) i (omega arith) (omega arith) h (high_quotient n m (2 ^ k) i (high_complement v x i p q h e))

-- ---- states that agree

module _ {s t : State} (ss : IsSound s) (st : IsSound t) where
  each_lane_agrees : (r a n : ℕ) → AgreeAt s t (flat_map (lane r) (range_with_len a n)) → (j : ℕ) → a < j + 1 → j < a + n → lane_of (reg s r) j ≡ lane_of (reg t r) j
  each_lane_agrees r a zero h j x y = absurd (omega arith)
  each_lane_agrees r a (suc n) h j x y =
      let both = all-parts (λ l. content s l ≡ content t l) (lane r a) (flat_map (lane r) (range_with_len (a + 1) n)) h in
      by (each_lane_agrees r (a + 1) n both.1 j) both.0 (cases_eq j a)
    where
      by : (a + 1 < j + 1 → j < a + 1 + n → lane_of (reg s r) j ≡ lane_of (reg t r) j) → AgreeAt s t (lane r a) → (j ≡ a) ⊎ (j ≡ a → ⊥) → lane_of (reg s r) j ≡ lane_of (reg t r) j
      by later here (inl e) = lane_agrees ss st r j (subst (λ (k : ℕ). AgreeAt s t (lane r k)) (sym e) here)
      by later here (inr n) = later (omega (arith, n)) (omega arith)

  low_agrees : (r i : ℕ) → i < 4 → AgreeAt s t (lanes_up_to r i) → low i (reg s r) ≡ low i (reg t r)
  low_agrees r i h g = low_by (reg s r) (reg t r) i h (λ j x. each_lane_agrees r 0 (i + 1) g j (omega arith) (omega arith))

  high_agrees : (r i : ℕ) → i < 4 → AgreeAt s t (lanes_from r i) → high i (reg s r) ≡ high i (reg t r)
  high_agrees r i h g = high_by (reg s r) (reg t r) i (ss.words r) (st.words r) h (λ j x y. each_lane_agrees r i (4 - i) g j x (omega arith))

pub fewer_determine : FewerDetermine
fewer_determine s t instr i ls ss st h (OfSum d a b j) agree =
    let both = all-parts _ (lanes_up_to a j) (lanes_up_to b j) agree in
    by_low (reg s a + reg s b) (reg t a + reg t b) j h (low_sum (reg s a) (reg s b) (reg t a) (reg t b) j h (low_agrees ss st a j h both.0) (low_agrees ss st b j h both.1))
fewer_determine s t instr i ls ss st h (OfDifference d a b j) agree =
    let both = all-parts _ (lanes_up_to a j) (lanes_up_to b j) agree in
    by_low (reg s a + (2 ^ 32 - reg s b)) (reg t a + (2 ^ 32 - reg t b)) j h
    (low_sum (reg s a) (2 ^ 32 - reg s b) (reg t a) (2 ^ 32 - reg t b) j h (low_agrees ss st a j h both.0)
    (low_negated (reg s b) (reg t b) j (ss.words b) (st.words b) h (low_agrees ss st b j h both.1)))
fewer_determine s t instr i ls ss st h (OfProduct d a b j) agree =
    let both = all-parts _ (lanes_up_to a j) (lanes_up_to b j) agree in
    by_low (reg s a * reg s b) (reg t a * reg t b) j h (low_product (reg s a) (reg s b) (reg t a) (reg t b) j (low_agrees ss st a j h both.0) (low_agrees ss st b j h both.1))
fewer_determine s t instr i ls ss st h (OfImmediate d a imm j) agree =
    by_low (reg s a + as_word imm) (reg t a + as_word imm) j h (low_sum (reg s a) (as_word imm) (reg t a) (as_word imm) j h (low_agrees ss st a j h agree) refl)
fewer_determine s t instr i ls ss st h (OfLeftShift d a b j) agree =
    let both = all-parts _ (lanes_up_to a j) (lane b 0) agree in
    by_low (reg s a * 2 ^ (reg s b % 32)) (reg t a * 2 ^ (reg t b % 32)) j h
    (low_product (reg s a) (2 ^ (reg s b % 32)) (reg t a) (2 ^ (reg t b % 32)) j (low_agrees ss st a j h both.0) (ap (λ (k : ℕ). low j (2 ^ k)) (amount_agrees ss st b both.1)))
fewer_determine s t instr i ls ss st h (OfRightShift d a b j) agree =
    let both = all-parts _ (lanes_from a j) (lane b 0) agree in
    by_high (reg s a / 2 ^ (reg s b % 32)) (reg t a / 2 ^ (reg s b % 32)) j h (high_quotient (reg s a) (reg t a) (2 ^ (reg s b % 32)) j (high_agrees ss st a j h both.0))
    ∙ ap (λ (k : ℕ). lane_of (reg t a / 2 ^ k) j) (amount_agrees ss st b both.1)
fewer_determine s t instr i ls ss st h (OfSignedShift d a b j) agree =
    let both = all-parts _ (lanes_from a j) (lane b 0) agree in
    shifted_lane (reg s a) (reg t a) (reg s b % 32) j (ss.words a) (st.words a) h (high_agrees ss st a j h both.0)
    ∙ ap (λ (k : ℕ). lane_of (arithmetic_right (reg t a) k) j) (amount_agrees ss st b both.1)
fewer_determine s t instr i ls ss st h (OfQuotient d a b j) agree =
    let both = all-parts _ (lanes_from a j) (lanes b) agree in
    quotient_lane (reg s a) (reg t a) (reg s b) j h (high_agrees ss st a j h both.0)
    ∙ ap (λ (y : ℕ). lane_of (unsigned_quotient (reg t a) y) j) (word_agrees ss st b both.1)
