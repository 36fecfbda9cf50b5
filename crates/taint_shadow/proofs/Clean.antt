-- A step whose registers have no labels turns nothing. Crates above cite this lemma: `turns_nothing`.
use Rattle.std.proofs.Common.{◌≡◌, ◌<◌, ◌==◌, ◌-◌, ◌+◌, ◌/◌, ◌%◌, ◌^◌, nat_lt, nat_le, ◌&&◌, ℕ, ℤ, pos, List, [], ◌∷◌, refl, arith, ap, ap₂, sym, ◌∙◌, subst, Bool, true, false, if◌then◌else◌, bit_or}
use Rattle.std.specs.Int.{bit_at}
use Rattle.std.specs.List.{AllByRecursion}
use Rattle.std.specs.Ordering.{int_eq}
use Rattle.std.proofs.lemmas.Bool.{eqb-true, eqb-false, ltb-true, and_parts}
use Rattle.std.proofs.lemmas.Nat.Bits.{bit_at_or, bit_at-lt, bit_at-pow_same}
use Rattle.isa.specs.declared.Instr.{Instr}
use Rattle.isa.specs.declared.Instr.TheVariants.{Lui, Auipc, Jal, Jalr, Beq, Bne, Blt, Bge, Bltu, Bgeu, Lb, Lh, Lw, Lbu, Lhu, Sb, Sh, Sw, Addi, Slti, Sltiu, Xori, Ori, Andi, Slli, Srli, Srai, Add, Sub, Sll, Slt, Sltu, Xor, Srl, Sra, Or, And, Mul, Mulh, Mulhsu, Mulhu, Div, Divu, Rem, Remu, Fence, Ecall, Ebreak}
use Rattle.isa.specs.Encodings.{Fits}
use Rattle.rv_decode.specs.Registers.{register_bit, registers_of}
use Rattle.rv_decode.specs.Accesses.{IsNoAccess}
use Rattle.lists.specs.Sets.{union}
use Rattle.lists.proofs.Algebra.{All-union}
use Rattle.flow_model.specs.declared.Loc.{Loc}
use Rattle.flow_model.specs.declared.Loc.TheVariants.{Reg}
use Rattle.flow_model.specs.declared.Rule.{Rule}
use Rattle.flow_model.specs.declared.Rule.TheVariants.{Copy, Keep, Compute, Index}
use Rattle.flow_model.specs.Flow.{Target, flow, lane, lanes, nothing, to_register, computed, kept_or_computed, moved_or, each_lane, all_lanes, shifted_lanes, in_first_lane, unchanged_lanes, immediate_byte, left_lanes, right_lanes}
use Rattle.flow_model.specs.Orders.{loc_cmp}
use Rattle.flow_model.specs.Ranges.{IsLocation}
use Rattle.taint_shadow.specs.declared.places.Places.{Places}
use Rattle.taint_shadow.specs.Labels.{LabelWords, Laws, MakesLabel, nothing_label}
use Rattle.taint_shadow.specs.Lanes.{clean}
use Rattle.taint_shadow.specs.Places.{kept, origin_lane}
use Rattle.taint_shadow.specs.Steps.{AreStanding, Turned, meaning_at, united_over}
use Rattle.taint_shadow.specs.Clean.{AreClean, TurnsNothing}
use Rattle.taint_shadow.proofs.Meaning.{AreHere, alike_at, keeps_itself}
use Rattle.taint_shadow.proofs.Notes.{lanes_clean}
use Rattle.taint_shadow.proofs.Targets.{register_turned}

-- ---- the bits of an instruction's registers

-- register r has its bit, unless it is x0
abbrev Covers : ℕ → ℕ → Type 0
Covers w r = 0 < r → bit_at w r ≡ 1

itself : (r : ℕ) → Covers (register_bit r) r
itself r some = by (r == 0) refl where
  by : (b : Bool) → (r == 0) ≡ b → bit_at (if b then 0 else 2 ^ r) r ≡ 1
  by true e = absurd (omega (arith, eqb-true r 0 e, some))
  by false e = bit_at-pow_same r

left : (v w r : ℕ) → Covers v r → Covers (bit_or v w) r
left v w r h some = let one = h some in let few = bit_at-lt w r in bit_at_or v w r ∙ omega (arith, one, few)

right : (v w r : ℕ) → Covers w r → Covers (bit_or v w) r
right v w r h some = let one = h some in let few = bit_at-lt v r in bit_at_or v w r ∙ omega (arith, one, few)

module _ (p : Places) where
  -- ---- where locations have no label

  abbrev IsBare : Loc → Type 0
  IsBare l = IsLocation l × (kept p l ≡ nothing_label)

  abbrev AreBare : List Loc → Type 0
  AreBare ls = AllByRecursion IsBare ls

  abbrev HasNone : ℕ → Type 0
  HasNone r = (r < 32) × ((i : ℕ) → i < 4 → origin_lane p r i ≡ nothing_label)

  abbrev FromBare : (ℕ → List Loc) → Type 0
  FromBare from = (i : ℕ) → i < 4 → AreBare (from i)

  has_none : (w r : ℕ) → AreClean p w → r < 32 → Covers w r → HasNone r
  has_none w r are h covers = (h, λ i k. by i k (r == 0) refl) where
    by : (i : ℕ) → i < 4 → (b : Bool) → (r == 0) ≡ b → origin_lane p r i ≡ nothing_label
    by i k true e = ap (λ (b : Bool). if b then nothing_label else kept p (Reg r i)) e
    by i k false e = are.lanes r h (covers (omega (arith, eqb-false r 0 e))) i k

  either_bare : (b : Bool) (xs ys : List Loc) → AreBare xs → AreBare ys → AreBare (if b then xs else ys)
  either_bare true xs ys h k = h
  either_bare false xs ys h k = k

  bare_lane : (r i : ℕ) → HasNone r → i < 4 → AreBare (lane r i)
  bare_lane r i h k = by (r == 0) (h.1 i k) where
    by : (b : Bool) → (if b then nothing_label else kept p (Reg r i)) ≡ nothing_label → AreBare (if b then [] else Reg r i ∷ [])
    by true e = tt
    by false e = (((h.0, k), e), tt)

  bare_lanes : (r : ℕ) → HasNone r → AreBare (lanes r)
  bare_lanes r h = by (r == 0) h.1 where
    by : (b : Bool) → ((i : ℕ) → i < 4 → (if b then nothing_label else kept p (Reg r i)) ≡ nothing_label) → AreBare (if b then [] else Reg r 0 ∷ Reg r 1 ∷ Reg r 2 ∷ Reg r 3 ∷ [])
    by true e = tt
    by false e =
        (((h.0, omega arith), e 0 (omega arith)), (((h.0, omega arith), e 1 (omega arith)), (((h.0, omega arith), e 2 (omega arith)), (((h.0, omega arith), e 3 (omega arith)), tt))))

  bare_union : (xs ys : List Loc) → AreBare xs → AreBare ys → AreBare (union loc_cmp xs ys)
  bare_union xs ys h k = All-union loc_cmp IsBare xs ys h k

  -- ---- where origins have none

  of_each : (a b : ℕ) → HasNone a → HasNone b → FromBare (each_lane a b)
  of_each a b h k i low = bare_union (lane a i) (lane b i) (bare_lane a i h low) (bare_lane b i k low)

  of_all : (a b : ℕ) → HasNone a → HasNone b → FromBare (all_lanes a b)
  of_all a b h k i low = bare_union (lanes a) (lanes b) (bare_lanes a h) (bare_lanes b k)

  of_shifted : (a b : ℕ) → HasNone a → HasNone b → FromBare (shifted_lanes a b)
  of_shifted a b h k i low = bare_union (lanes a) (lane b 0) (bare_lanes a h) (bare_lane b 0 k (omega arith))

  of_first : (ls : List Loc) → AreBare ls → FromBare (in_first_lane ls)
  of_first ls h i low = either_bare (i == 0) ls [] h tt

  of_computed : (rule : Rule) (from : ℕ → List Loc) → FromBare from → FromBare (computed rule from)
  of_computed Copy from h i low = tt
  of_computed Keep from h i low = tt
  of_computed Compute from h i low = h i low
  of_computed Index from h i low = h i low

  of_kept : (rule : Rule) (whole from : ℕ → List Loc) → FromBare whole → FromBare from → FromBare (kept_or_computed rule whole from)
  of_kept Copy whole from h k i low = tt
  of_kept Keep whole from h k i low = h i low
  of_kept Compute whole from h k i low = k i low
  of_kept Index whole from h k i low = k i low

  of_moved : (a b : ℕ) (from : ℕ → List Loc) → HasNone a → HasNone b → FromBare from → FromBare (moved_or a b from)
  of_moved a b from h k g i low = either_bare (a == 0) (lane b i) (if b == 0 then lane a i else from i) (bare_lane b i k low) (either_bare (b == 0) (lane a i) (from i) (bare_lane a i h low) (g i low))

  of_added : (b : Bool) (a : ℕ) (from : ℕ → List Loc) → HasNone a → FromBare from → FromBare (if b then lane a else from)
  of_added true a from h k i low = bare_lane a i h low
  of_added false a from h k i low = k i low

  of_unchanged : (byte : ℕ) (imm : ℤ) (a : ℕ) → HasNone a → FromBare (unchanged_lanes byte imm a)
  of_unchanged byte imm a h i low = either_bare (immediate_byte imm i == byte) (lane a i) [] (bare_lane a i h low) tt

  of_left : (k a : ℕ) → HasNone a → FromBare (left_lanes k a)
  of_left k a h i low = either_bare ((k % 8 == 0) && nat_le (k / 8) i) (lane a (i - k / 8)) [] (bare_lane a (i - k / 8) h (omega (arith, low))) tt

  of_right : (k a : ℕ) → HasNone a → FromBare (right_lanes k a)
  of_right k a h i low = by ((k % 8 == 0) && nat_lt (i + k / 8) 4) refl where
    by : (b : Bool) → ((k % 8 == 0) && nat_lt (i + k / 8) 4) ≡ b → AreBare (if b then lane a (i + k / 8) else [])
    by true e = bare_lane a (i + k / 8) h (ltb-true (i + k / 8) 4 (and_parts (k % 8 == 0) (nat_lt (i + k / 8) 4) e).1)
    by false e = tt

  -- ---- the steps

  module _ {A M : Type 0} (words : LabelWords A M) (laws : Laws words) (labels : A) (standing : AreStanding words labels p) where
    abbrev over : List Loc → M
    over ls = united_over words (meaning_at words labels p) ls

    nothing_over : (ls : List Loc) → AreBare ls → over ls ≡ words.nothing
    nothing_over [] h = refl
    nothing_over (l ∷ []) h = ap (words.means labels) h.0.1 ∙ (laws.of_nothing labels).means
    nothing_over (l ∷ m ∷ ls) h =
        ap₂ words.united (ap (words.means labels) h.0.1 ∙ (laws.of_nothing labels).means) (nothing_over (m ∷ ls) h.1) ∙ laws.with_nothing words.nothing laws.of_none

    bare_made : (ls : List Loc) → AreBare ls → MakesLabel words labels (over ls) nothing_label
    bare_made ls h = let none = laws.of_nothing labels in record { stands = none.stands; means = none.means ∙ sym (nothing_over ls h) }

    bare_here : (ls : List Loc) → AreBare ls → AreHere ls
    bare_here [] h = tt
    bare_here (l ∷ ls) h = (h.0.0, bare_here ls h.1)

    abbrev Stays : List Target → Type 0
    Stays ts = Turned words labels p labels p ts

    none_stays : Stays []
    none_stays = record { holds = λ f h. record { at = λ l here. h.at l here }; standing = standing; keeps = keeps_itself words labels }

    register_stays : (d : ℕ) (from : ℕ → List Loc) → HasNone d → FromBare from → Stays (to_register d from)
    register_stays d from h none = register_turned words labels labels p p standing (keeps_itself words labels) d from clean
        (λ i low. subst (MakesLabel words labels (over (from i))) (sym (alike_at nothing_label i low)) (bare_made (from i) (none i low)))
        (λ i low. bare_here (from i) (none i low)) (lanes_clean p d h.1)

    -- of one register, of two, and of three
    one : (d : ℕ) → AreClean p (register_bit d) → d < 32 → Stays (to_register d nothing)
    one d are h = register_stays d nothing (has_none (register_bit d) d are h (itself d)) (λ i low. tt)

    two : (d a : ℕ) (from : ℕ → List Loc) → AreClean p (bit_or (register_bit d) (register_bit a)) → d < 32 → a < 32 → (HasNone a → FromBare from) → Stays (to_register d from)
    two d a from are h k bare =
        let x = register_bit d in let y = register_bit a in
        register_stays d from (has_none (bit_or x y) d are h (left x y d (itself d))) (bare (has_none (bit_or x y) a are k (right x y a (itself a))))

    three : (d a b : ℕ) (from : ℕ → List Loc) → AreClean p (bit_or (register_bit d) (bit_or (register_bit a) (register_bit b))) → (d < 32) × (a < 32) × (b < 32)
        → (HasNone a → HasNone b → FromBare from) → Stays (to_register d from)
    three d a b from are small bare =
        let x = register_bit d in let y = register_bit a in let z = register_bit b in
        register_stays d from (has_none (bit_or x (bit_or y z)) d are small.0 (left x (bit_or y z) d (itself d)))
        (bare (has_none (bit_or x (bit_or y z)) a are small.1 (right x (bit_or y z) a (left y z a (itself a))))
        (has_none (bit_or x (bit_or y z)) b are small.2 (right x (bit_or y z) b (right y z b (itself b)))))

    stays : (rule : Rule) (instr : Instr) (place : ℕ) → Fits instr → IsNoAccess instr → AreClean p (registers_of instr) → Stays (flow rule instr place)
    stays rule (Lui d imm) place f none are = one d are f.0
    stays rule (Auipc d imm) place f none are = one d are f.0
    stays rule (Jal d imm) place f none are = one d are f.0
    stays rule (Jalr d a imm) place f none are = one d are f.0
    stays rule (Beq a b imm) place f none are = none_stays
    stays rule (Bne a b imm) place f none are = none_stays
    stays rule (Blt a b imm) place f none are = none_stays
    stays rule (Bge a b imm) place f none are = none_stays
    stays rule (Bltu a b imm) place f none are = none_stays
    stays rule (Bgeu a b imm) place f none are = none_stays
    stays rule (Lb d a imm) place f none are = cc
    stays rule (Lh d a imm) place f none are = cc
    stays rule (Lw d a imm) place f none are = cc
    stays rule (Lbu d a imm) place f none are = cc
    stays rule (Lhu d a imm) place f none are = cc
    stays rule (Sb a b imm) place f none are = cc
    stays rule (Sh a b imm) place f none are = cc
    stays rule (Sw a b imm) place f none are = cc
    stays rule (Addi d a imm) place f none are =
        two d a (if int_eq imm (pos 0) then lane a else computed rule (λ i. lanes a)) are f.0 f.1
        (λ h. of_added (int_eq imm (pos 0)) a (computed rule (λ i. lanes a)) h (of_computed rule (λ i. lanes a) (λ i low. bare_lanes a h)))
    stays rule (Slti d a imm) place f none are = two d a (computed rule (in_first_lane (lanes a))) are f.0 f.1 (λ h. of_computed rule (in_first_lane (lanes a)) (of_first (lanes a) (bare_lanes a h)))
    stays rule (Sltiu d a imm) place f none are = two d a (computed rule (in_first_lane (lanes a))) are f.0 f.1 (λ h. of_computed rule (in_first_lane (lanes a)) (of_first (lanes a) (bare_lanes a h)))
    stays rule (Xori d a imm) place f none are =
        two d a (kept_or_computed rule (unchanged_lanes 0 imm a) (lane a)) are f.0 f.1
        (λ h. of_kept rule (unchanged_lanes 0 imm a) (lane a) (of_unchanged 0 imm a h) (λ i low. bare_lane a i h low))
    stays rule (Ori d a imm) place f none are =
        two d a (kept_or_computed rule (unchanged_lanes 0 imm a) (lane a)) are f.0 f.1
        (λ h. of_kept rule (unchanged_lanes 0 imm a) (lane a) (of_unchanged 0 imm a h) (λ i low. bare_lane a i h low))
    stays rule (Andi d a imm) place f none are =
        two d a (kept_or_computed rule (unchanged_lanes 255 imm a) (lane a)) are f.0 f.1
        (λ h. of_kept rule (unchanged_lanes 255 imm a) (lane a) (of_unchanged 255 imm a h) (λ i low. bare_lane a i h low))
    stays rule (Slli d a k) place f none are =
        two d a (kept_or_computed rule (left_lanes k a) (λ i. lanes a)) are f.0 f.1
        (λ h. of_kept rule (left_lanes k a) (λ i. lanes a) (of_left k a h) (λ i low. bare_lanes a h))
    stays rule (Srli d a k) place f none are =
        two d a (kept_or_computed rule (right_lanes k a) (λ i. lanes a)) are f.0 f.1
        (λ h. of_kept rule (right_lanes k a) (λ i. lanes a) (of_right k a h) (λ i low. bare_lanes a h))
    stays rule (Srai d a k) place f none are =
        two d a (kept_or_computed rule (right_lanes k a) (λ i. lanes a)) are f.0 f.1
        (λ h. of_kept rule (right_lanes k a) (λ i. lanes a) (of_right k a h) (λ i low. bare_lanes a h))
    stays rule (Add d a b) place f none are = three d a b (moved_or a b (computed rule (all_lanes a b))) are f (λ h k. of_moved a b (computed rule (all_lanes a b)) h k (of_computed rule (all_lanes a b) (of_all a b h k)))
    stays rule (Sub d a b) place f none are = three d a b (computed rule (all_lanes a b)) are f (λ h k. of_computed rule (all_lanes a b) (of_all a b h k))
    stays rule (Sll d a b) place f none are = three d a b (computed rule (shifted_lanes a b)) are f (λ h k. of_computed rule (shifted_lanes a b) (of_shifted a b h k))
    stays rule (Slt d a b) place f none are = three d a b (computed rule (in_first_lane (all_lanes a b 0))) are f (λ h k. of_computed rule (in_first_lane (all_lanes a b 0)) (of_first (all_lanes a b 0) (of_all a b h k 0 (omega arith))))
    stays rule (Sltu d a b) place f none are = three d a b (computed rule (in_first_lane (all_lanes a b 0))) are f (λ h k. of_computed rule (in_first_lane (all_lanes a b 0)) (of_first (all_lanes a b 0) (of_all a b h k 0 (omega arith))))
    stays rule (Xor d a b) place f none are = three d a b (moved_or a b (computed rule (each_lane a b))) are f (λ h k. of_moved a b (computed rule (each_lane a b)) h k (of_computed rule (each_lane a b) (of_each a b h k)))
    stays rule (Srl d a b) place f none are = three d a b (computed rule (shifted_lanes a b)) are f (λ h k. of_computed rule (shifted_lanes a b) (of_shifted a b h k))
    stays rule (Sra d a b) place f none are = three d a b (computed rule (shifted_lanes a b)) are f (λ h k. of_computed rule (shifted_lanes a b) (of_shifted a b h k))
    stays rule (Or d a b) place f none are = three d a b (moved_or a b (computed rule (each_lane a b))) are f (λ h k. of_moved a b (computed rule (each_lane a b)) h k (of_computed rule (each_lane a b) (of_each a b h k)))
    stays rule (And d a b) place f none are = three d a b (computed rule (each_lane a b)) are f (λ h k. of_computed rule (each_lane a b) (of_each a b h k))
    stays rule (Mul d a b) place f none are = three d a b (computed rule (all_lanes a b)) are f (λ h k. of_computed rule (all_lanes a b) (of_all a b h k))
    stays rule (Mulh d a b) place f none are = three d a b (computed rule (all_lanes a b)) are f (λ h k. of_computed rule (all_lanes a b) (of_all a b h k))
    stays rule (Mulhsu d a b) place f none are = three d a b (computed rule (all_lanes a b)) are f (λ h k. of_computed rule (all_lanes a b) (of_all a b h k))
    stays rule (Mulhu d a b) place f none are = three d a b (computed rule (all_lanes a b)) are f (λ h k. of_computed rule (all_lanes a b) (of_all a b h k))
    stays rule (Div d a b) place f none are = three d a b (computed rule (all_lanes a b)) are f (λ h k. of_computed rule (all_lanes a b) (of_all a b h k))
    stays rule (Divu d a b) place f none are = three d a b (computed rule (all_lanes a b)) are f (λ h k. of_computed rule (all_lanes a b) (of_all a b h k))
    stays rule (Rem d a b) place f none are = three d a b (computed rule (all_lanes a b)) are f (λ h k. of_computed rule (all_lanes a b) (of_all a b h k))
    stays rule (Remu d a b) place f none are = three d a b (computed rule (all_lanes a b)) are f (λ h k. of_computed rule (all_lanes a b) (of_all a b h k))
    stays rule (Fence kept) place f none are = none_stays
    stays rule Ecall place f none are = none_stays
    stays rule Ebreak place f none are = none_stays

    pub turns_nothing : (registers : ℕ) → AreClean p registers → TurnsNothing words labels p registers
    turns_nothing registers are rule instr place fits is none = stays rule instr place fits none (subst (AreClean p) (sym is) are)
