-- Words, bytes and their lanes; what a table of targets says of the states after a step, and what moves and operations carry.
use Rattle.std.proofs.Common.{◌≡◌, ℕ, zero, suc, ◌+◌, ◌-◌, ◌*◌, ◌/◌, ◌%◌, ◌^◌, ◌<◌, ◌≤◌, Bool, true, false, refl, arith, ap, sym, subst, ◌∙◌, bit_and, bit_or, bit_xor, pos, negsuc, get_or, get_or-take, mod-eq_of_lt, List, [], ◌∷◌, length, ltb-true, ltb-false, ◌⊎◌, inl, inr, drop, get_or-drop, leb-true, leb-false, ℤ, cond, map, get_or-set_same, get_or-set_other, eqb-true, ap₂}
use Rattle.std.specs.Prelude.{nat_lt, if◌then◌else◌, nat_le, ◌==◌, ◌&&◌, slice_set}
use Rattle.std.specs.Int.{w32, to_le_bytes, int_shr}
use Rattle.std.proofs.lemmas.Nat.{and_mask, and_shr, or_shr, xor_shr, and_mod, or_mod, xor_mod}
use Rattle.isa.specs.Machine.{flag, low_bytes, wrap, as_word, arithmetic_right, little_endian, sign_extended, State, overwritten, bytes_at, effective_address, reg}
use Rattle.answer_meaning.specs.Content.{lane_of, byte_in, byte_if, content, AgreeAt}
use Rattle.std.proofs.lemmas.List.{get_or_past}
use Rattle.isa.proofs.Window.{Holds}
use Rattle.record_model.proofs.Sound.{AreBytes, FourBytes, OneByte, Size, TwoBytes, over_after, over_before, over_in, byte_small, window_bytes, bytes_length, put_at, set_in}
use Rattle.std.specs.FinMap.{IsAntisymmetric}
use Rattle.std.specs.List.{AllByRecursion, range_with_len}
use Rattle.std.specs.declared.cmp.Ordering.{Ordering}
use Rattle.std.specs.declared.cmp.Ordering.TheVariants.{Less, Equal, Greater}
use Rattle.lists.specs.Sets.{union, inserted, placed}
use Rattle.flow_model.specs.declared.Loc.{Loc}
use Rattle.flow_model.specs.declared.SourceByte.{SourceByte}
use Rattle.flow_model.specs.Origins.{union_over}
use Rattle.flow_model.proofs.Orders.{source_same, loc_same}
use Rattle.std.proofs.lemmas.Bool.{eqb-false, cases_lt, ne_eqb}
use Rattle.flow_model.specs.declared.Loc.TheVariants.{Reg, Mem}
use Rattle.flow_model.specs.declared.Rule.{Rule}
use Rattle.flow_model.specs.declared.Rule.TheVariants.{Compute, Index}
use Rattle.flow_model.specs.Flow.{Target, to_register, to_memory, computed, kept_or_computed, with_base, origins_by, nothing, lane, lanes, in_first_lane, byte_of, loaded_byte, signed_load, moved_or, each_lane, all_lanes, shifted_lanes, immediate_byte, unchanged_lanes, left_lanes, right_lanes}
use Rattle.record_model.specs.States.{IsSound}

-- a word is its four lanes
pub word_lanes : (v : ℕ) → v < 2 ^ 32 → v ≡ lane_of v 0 + 256 * lane_of v 1 + 65536 * lane_of v 2 + 16777216 * lane_of v 3
word_lanes v h = omega arith

-- two words with the same lanes are one
pub same_word : (v w : ℕ) → v < 2 ^ 32 → w < 2 ^ 32 → lane_of v 0 ≡ lane_of w 0 → lane_of v 1 ≡ lane_of w 1 → lane_of v 2 ≡ lane_of w 2 → lane_of v 3 ≡ lane_of w 3 → v ≡ w
same_word v w h g a b c d = omega (arith, word_lanes v h, word_lanes w g)

-- ---- operations bit by bit

pub xor_lane : (v w i : ℕ) → lane_of (bit_xor v w) i ≡ bit_xor (lane_of v i) (lane_of w i)
xor_lane v w zero = xor_mod v w 8
xor_lane v w (suc zero) = ap (λ (n : ℕ). n % 2 ^ 8) (xor_shr v w 8) ∙ xor_mod (v / 2 ^ 8) (w / 2 ^ 8) 8
xor_lane v w (suc (suc zero)) = ap (λ (n : ℕ). n % 2 ^ 8) (xor_shr v w 16) ∙ xor_mod (v / 2 ^ 16) (w / 2 ^ 16) 8
xor_lane v w (suc (suc (suc zero))) = ap (λ (n : ℕ). n % 2 ^ 8) (xor_shr v w 24) ∙ xor_mod (v / 2 ^ 24) (w / 2 ^ 24) 8
xor_lane v w (suc (suc (suc (suc i)))) = refl

pub or_lane : (v w i : ℕ) → lane_of (bit_or v w) i ≡ bit_or (lane_of v i) (lane_of w i)
or_lane v w zero = or_mod v w 8
or_lane v w (suc zero) = ap (λ (n : ℕ). n % 2 ^ 8) (or_shr v w 8) ∙ or_mod (v / 2 ^ 8) (w / 2 ^ 8) 8
or_lane v w (suc (suc zero)) = ap (λ (n : ℕ). n % 2 ^ 8) (or_shr v w 16) ∙ or_mod (v / 2 ^ 16) (w / 2 ^ 16) 8
or_lane v w (suc (suc (suc zero))) = ap (λ (n : ℕ). n % 2 ^ 8) (or_shr v w 24) ∙ or_mod (v / 2 ^ 24) (w / 2 ^ 24) 8
or_lane v w (suc (suc (suc (suc i)))) = refl

pub and_lane : (v w i : ℕ) → lane_of (bit_and v w) i ≡ bit_and (lane_of v i) (lane_of w i)
and_lane v w zero = and_mod v w 8
and_lane v w (suc zero) = ap (λ (n : ℕ). n % 2 ^ 8) (and_shr v w 8) ∙ and_mod (v / 2 ^ 8) (w / 2 ^ 8) 8
and_lane v w (suc (suc zero)) = ap (λ (n : ℕ). n % 2 ^ 8) (and_shr v w 16) ∙ and_mod (v / 2 ^ 16) (w / 2 ^ 16) 8
and_lane v w (suc (suc (suc zero))) = ap (λ (n : ℕ). n % 2 ^ 8) (and_shr v w 24) ∙ and_mod (v / 2 ^ 24) (w / 2 ^ 24) 8
and_lane v w (suc (suc (suc (suc i)))) = refl

pub and_all : (v : ℕ) → v < 2 ^ 8 → bit_and v 255 ≡ v
and_all v h = and_mask v 8 ∙ mod-eq_of_lt h

-- ---- shifts by whole lanes

-- what holds of each number of bits by which whole lanes are moved, and of each lane that is left
whole_moves : (Q : ℕ → ℕ → Type 0) → Q 0 0 → Q 0 1 → Q 0 2 → Q 0 3 → Q 8 0 → Q 8 1 → Q 8 2 → Q 16 0 → Q 16 1 → Q 24 0 → (k i : ℕ) → k % 8 ≡ 0 → i + k / 8 < 4 → Q k i
whole_moves Q z0 z1 z2 z3 a0 a1 a2 b0 b1 c0 k i e h = by (k / 8) i (omega arith) h
  where
    by : (m i : ℕ) → k ≡ 8 * m → i + m < 4 → Q k i
    by zero zero e h = subst (λ (n : ℕ). Q n 0) (sym e) z0
    by zero (suc zero) e h = subst (λ (n : ℕ). Q n 1) (sym e) z1
    by zero (suc (suc zero)) e h = subst (λ (n : ℕ). Q n 2) (sym e) z2
    by zero (suc (suc (suc zero))) e h = subst (λ (n : ℕ). Q n 3) (sym e) z3
    by (suc zero) zero e h = subst (λ (n : ℕ). Q n 0) (sym e) a0
    by (suc zero) (suc zero) e h = subst (λ (n : ℕ). Q n 1) (sym e) a1
    by (suc zero) (suc (suc zero)) e h = subst (λ (n : ℕ). Q n 2) (sym e) a2
    by (suc (suc zero)) zero e h = subst (λ (n : ℕ). Q n 0) (sym e) b0
    by (suc (suc zero)) (suc zero) e h = subst (λ (n : ℕ). Q n 1) (sym e) b1
    by (suc (suc (suc zero))) zero e h = subst (λ (n : ℕ). Q n 0) (sym e) c0
    by m i e h = absurd (omega arith)

pub lane_up : (v k i : ℕ) → i < 4 → k % 8 ≡ 0 → k / 8 ≤ i → lane_of (wrap (v * 2 ^ k)) i ≡ lane_of v (i - k / 8)
lane_up v k i h e le =
    let there : i ≡ i - k / 8 + k / 8 = omega arith in
    ap (lane_of (wrap (v * 2 ^ k))) there
    ∙ whole_moves (λ n j. lane_of (wrap (v * 2 ^ n)) (j + n / 8) ≡ lane_of v j) (omega arith) (omega arith) (omega arith) (omega arith) (omega arith) (omega arith) (omega arith) (omega arith) (omega arith) (omega arith) k (i - k / 8) e (omega arith)

pub lane_down : (v k i : ℕ) → k % 8 ≡ 0 → i + k / 8 < 4 → lane_of (v / 2 ^ k) i ≡ lane_of v (i + k / 8)
lane_down v = whole_moves (λ n j. lane_of (v / 2 ^ n) j ≡ lane_of v (j + n / 8)) (omega arith) (omega arith) (omega arith) (omega arith) (omega arith) (omega arith) (omega arith) (omega arith) (omega arith) (omega arith)

-- also where the sign fills the lanes above
negative_down : (v k i : ℕ) → v < 2 ^ 32 → k % 8 ≡ 0 → i + k / 8 < 4 → lane_of (2 ^ 32 - suc ((2 ^ 32 - 1 - v) / 2 ^ k)) i ≡ lane_of v (i + k / 8)
negative_down v k i h = whole_moves (λ n j. lane_of (2 ^ 32 - suc ((2 ^ 32 - 1 - v) / 2 ^ n)) j ≡ lane_of v (j + n / 8)) (omega arith) (omega arith) (omega arith) (omega arith) (omega arith) (omega arith) (omega arith) (omega arith) (omega arith) (omega arith) k i

pub lane_down_signed : (v k i : ℕ) → v < 2 ^ 32 → k % 8 ≡ 0 → i + k / 8 < 4 → lane_of (arithmetic_right v k) i ≡ lane_of v (i + k / 8)
lane_down_signed v k i h e g = by (nat_lt v 2147483648)
  where
    by : (b : Bool) → lane_of (as_word (int_shr (if b then pos v else negsuc (2 ^ 32 - 1 - v)) k)) i ≡ lane_of v (i + k / 8)
    by true = lane_down v k i e g
    by false = negative_down v k i h e g

-- ---- a bit as a word

pub flag_lane : (b : Bool) (i : ℕ) → lane_of (flag b) (suc i) ≡ 0
flag_lane true (suc (suc (suc i))) = refl
flag_lane false (suc (suc (suc i))) = refl
flag_lane b i = refl

-- ---- the lowest bytes of a word

pub low_byte : (v n i : ℕ) → i < n → get_or (low_bytes n v) i 0 ≡ lane_of v i
low_byte v n i h = get_or-take n (to_le_bytes w32 v) i 0 h

-- ---- numbers from bytes

lanes_of_one : (b i : ℕ) → b < 2 ^ 8 → lane_of (b + 256 * 0) i ≡ get_or (b ∷ []) i 0
lanes_of_one b (suc (suc (suc (suc i)))) h = refl
lanes_of_one b i h = omega arith

lanes_of_two : (b c i : ℕ) → b < 2 ^ 8 → c < 2 ^ 8 → lane_of (b + 256 * (c + 256 * 0)) i ≡ get_or (b ∷ c ∷ []) i 0
lanes_of_two b c (suc (suc (suc (suc i)))) h g = refl
lanes_of_two b c i h g = omega arith

lanes_of_four : (b c d e i : ℕ) → b < 2 ^ 8 → c < 2 ^ 8 → d < 2 ^ 8 → e < 2 ^ 8 → lane_of (b + 256 * (c + 256 * (d + 256 * (e + 256 * 0)))) i ≡ get_or (b ∷ c ∷ d ∷ e ∷ []) i 0
lanes_of_four b c d e (suc (suc (suc (suc i)))) p q r s = refl
lanes_of_four b c d e i p q r s = omega arith

-- lane i of the number that bytes stand for is byte i
pub lanes_of_bytes : (n i : ℕ) → Size n → (bs : List ℕ) → length bs ≡ n → AreBytes bs → lane_of (little_endian bs) i ≡ get_or bs i 0
lanes_of_bytes n i OneByte (b ∷ []) l h = lanes_of_one b i (h 0)
lanes_of_bytes n i TwoBytes (b ∷ c ∷ []) l h = lanes_of_two b c i (h 0) (h 1)
lanes_of_bytes n i FourBytes (b ∷ c ∷ d ∷ e ∷ []) l h = lanes_of_four b c d e i (h 0) (h 1) (h 2) (h 3)
lanes_of_bytes n i z bs l h = absurd (omega arith)

-- ---- the sign

-- what a load that extends the sign puts above its highest byte
abbrev pub sign_byte : ℕ → ℕ
sign_byte b = if nat_lt b 128 then 0 else 255

pub sign_small : (b : ℕ) → sign_byte b < 2 ^ 8
sign_small b = by (nat_lt b 128)
  where
    by : (low : Bool) → (if low then 0 else 255) < 2 ^ 8
    by true = omega arith
    by false = omega arith

-- a number in the lower half of its range stays, and another gets ones above
value_one : (b : ℕ) → b < 2 ^ 8 → sign_extended 8 b ≡ b + 16843008 * sign_byte b
value_one b h = by (nat_lt b 128) refl
  where
    by : (low : Bool) → nat_lt b 128 ≡ low → as_word (if low then pos b else negsuc (2 ^ 8 - 1 - b)) ≡ b + 16843008 * (if low then 0 else 255)
    by true e = omega arith
    by false e = let g = ltb-false b 128 e in omega arith

value_two : (b c : ℕ) → b < 2 ^ 8 → c < 2 ^ 8 → sign_extended 16 (b + 256 * (c + 256 * 0)) ≡ b + 256 * c + 16842752 * sign_byte c
value_two b c h k = by (nat_lt (b + 256 * (c + 256 * 0)) 32768) refl (nat_lt c 128) refl
  where
    by : (low : Bool) → nat_lt (b + 256 * (c + 256 * 0)) 32768 ≡ low → (half : Bool) → nat_lt c 128 ≡ half → as_word (if low then pos (b + 256 * (c + 256 * 0)) else negsuc (2 ^ 16 - 1 - (b + 256 * (c + 256 * 0)))) ≡ b + 256 * c + 16842752 * (if half then 0 else 255)
    by true e true f = omega arith
    by true e false f = let x = ltb-true (b + 256 * (c + 256 * 0)) 32768 e in let y = ltb-false c 128 f in absurd (omega arith)
    by false e true f = let x = ltb-false (b + 256 * (c + 256 * 0)) 32768 e in let y = ltb-true c 128 f in absurd (omega arith)
    by false e false f = let x = ltb-false (b + 256 * (c + 256 * 0)) 32768 e in let y = ltb-false c 128 f in omega arith

spread_one : (b x i : ℕ) → b < 2 ^ 8 → x < 2 ^ 8 → i < 4 → lane_of (b + 16843008 * x) i ≡ (if nat_lt i 1 then get_or (b ∷ []) i 0 else x)
spread_one b x (suc (suc (suc (suc i)))) h k g = absurd (omega arith)
spread_one b x i h k g = omega arith

spread_two : (b c x i : ℕ) → b < 2 ^ 8 → c < 2 ^ 8 → x < 2 ^ 8 → i < 4 → lane_of (b + 256 * c + 16842752 * x) i ≡ (if nat_lt i 2 then get_or (b ∷ c ∷ []) i 0 else x)
spread_two b c x (suc (suc (suc (suc i)))) h k l g = absurd (omega arith)
spread_two b c x i h k l g = omega arith

-- the sizes of loads that extend the sign
pub data Short : ℕ → Type 0 where
  ShortOne : Short 1
  ShortTwo : Short 2

-- the lanes of a load that extends the sign: its bytes, and above them the sign of the highest
pub signed_lanes : (n i : ℕ) → Short n → (bs : List ℕ) → length bs ≡ n → AreBytes bs → i < 4 → lane_of (sign_extended (8 * n) (little_endian bs)) i ≡ (if nat_lt i n then get_or bs i 0 else sign_byte (get_or bs (n - 1) 0))
signed_lanes n i ShortOne (b ∷ []) l h g =
    let alone : b + 256 * 0 ≡ b = omega arith in
    ap (λ (v : ℕ). lane_of (sign_extended 8 v) i) alone ∙ ap (λ (v : ℕ). lane_of v i) (value_one b (h 0)) ∙ spread_one b (sign_byte b) i (h 0) (sign_small b) g
signed_lanes n i ShortTwo (b ∷ c ∷ []) l h g = ap (λ (v : ℕ). lane_of v i) (value_two b c (h 0) (h 1)) ∙ spread_two b c (sign_byte c) i (h 0) (h 1) (sign_small c) g
signed_lanes n i z bs l h g = absurd (omega arith)

-- ---- by address

pub put_in : (base : ℕ) (mem : List ℕ) (a : ℕ) (bs : List ℕ) (q i : ℕ) → Holds base (length mem) a (length bs) → q ≡ a + i → i < length bs → byte_in base (overwritten mem (a - base) bs) q ≡ get_or bs i 0
put_in base mem a bs q i h e g = by (nat_le base q) refl
  where
    by : (b : Bool) → nat_le base q ≡ b → byte_if b base (overwritten mem (a - base) bs) q ≡ get_or bs i 0
    by true t = let x = h.above in let y = h.below in over_in mem (a - base) bs (q - base) i (omega arith) g (omega arith)
    by false t = let x = h.above in let y = leb-false base q t in absurd (omega arith)

pub put_out : (base : ℕ) (mem : List ℕ) (a : ℕ) (bs : List ℕ) (q : ℕ) → Holds base (length mem) a (length bs) → (q < a) ⊎ (a + length bs ≤ q) → byte_in base (overwritten mem (a - base) bs) q ≡ byte_in base mem q
put_out base mem a bs q h o = by (nat_le base q) refl o
  where
    by : (b : Bool) → nat_le base q ≡ b → (q < a) ⊎ (a + length bs ≤ q) → byte_if b base (overwritten mem (a - base) bs) q ≡ byte_if b base mem q
    by false t o = refl
    by true t (inl g) = let x = h.above in let y = h.below in let z = leb-true base q t in over_before mem (a - base) bs (q - base) (omega arith) (omega arith)
    by true t (inr g) = let x = h.above in let y = h.below in let z = leb-true base q t in over_after mem (a - base) bs (q - base) (omega arith) (omega arith)

pub byte_of_window : (s : State) (a n i : ℕ) → Holds s.base (length s.memory) a n → i < n → get_or (bytes_at s a n) i 0 ≡ byte_in s.base s.memory (a + i)
byte_of_window s a n i h g = get_or-take n (drop (a - s.base) s.memory) i 0 g ∙ get_or-drop (a - s.base) s.memory i 0 ∙ by (nat_le s.base (a + i)) refl
  where
    by : (b : Bool) → nat_le s.base (a + i) ≡ b → get_or s.memory (a - s.base + i) 0 ≡ byte_if b s.base s.memory (a + i)
    by true t = let x = h.above in let same : a - s.base + i ≡ a + i - s.base = omega arith in ap (λ (n : ℕ). get_or s.memory n 0) same
    by false t = let x = h.above in let y = leb-false s.base (a + i) t in absurd (omega arith)

-- a place outside the address space is in no window
pub byte_beyond : (base : ℕ) (mem : List ℕ) (q : ℕ) → base + length mem ≤ q → byte_in base mem q ≡ 0
byte_beyond base mem q h = by (nat_le base q) refl
  where
    by : (b : Bool) → nat_le base q ≡ b → byte_if b base mem q ≡ 0
    by true t = get_or_past mem (q - base) 0 (omega arith)
    by false t = refl

-- ---- each of a union

module _ {K : Type 0} {R : K → K → Ordering} (same : IsAntisymmetric R) (Q : K → Type 0) where
  inserted-all : (x : K) (ys : List K) → AllByRecursion Q (inserted R x ys) → Q x × AllByRecursion Q ys
  inserted-all x [] h = (h.0, tt)
  inserted-all x (y ∷ ys) h = by (inserted-all x ys) (R x y) refl h
    where
      by : (AllByRecursion Q (inserted R x ys) → Q x × AllByRecursion Q ys) → (r : Ordering) → R x y ≡ r → AllByRecursion Q (placed r x y ys (inserted R x ys)) → Q x × AllByRecursion Q (y ∷ ys)
      by ih Less e h = h
      by ih Equal e h = (subst Q (sym (same x y e)) h.0, h)
      by ih Greater e h = let rest = ih h.1 in (rest.0, (h.0, rest.1))

  -- what is true of each of a union is true of each of both
  pub union-all : (xs ys : List K) → AllByRecursion Q (union R xs ys) → AllByRecursion Q xs × AllByRecursion Q ys
  union-all [] ys h = (tt, h)
  union-all (x ∷ xs) ys h = let a = inserted-all x (union R xs ys) h in let b = union-all xs ys a.1 in ((a.0, b.0), b.1)

-- and so of each of a union over locations
pub union_over-all : (Q : SourceByte → Type 0) (before : Loc → List SourceByte) (ls : List Loc) → AllByRecursion Q (union_over before ls) → AllByRecursion (λ l. AllByRecursion Q (before l)) ls
union_over-all Q before [] h = tt
union_over-all Q before (l ∷ []) h = (h, tt)
union_over-all Q before (l ∷ m ∷ ls) h =
    let both = union-all source_same Q (before l) (union_over before (m ∷ ls)) h in (both.0, union_over-all Q before (m ∷ ls) both.1)

-- ---- targets

-- two runs load from one address; under the rule index from any two
abbrev pub AgreesOn : Rule → ℕ → ℕ → Type 0
AgreesOn Index x y = Unit {0}
AgreesOn other x y = x ≡ y

pub agrees_on : (rule : Rule) (x y : ℕ) → x ≡ y → AgreesOn rule x y
agrees_on Index x y e = tt
agrees_on other x y e = e

-- where one location flowed in, v is its content
abbrev pub IsMoved : State → List Loc → ℕ → Type 0
IsMoved s ls v = (k : Loc) → ls ≡ k ∷ [] → v ≡ content s k

-- P says what the contents v in s and w in t, where they came from these locations, have to do with each other
pub record Carries (s t : State) (rule : Rule) (P : List Loc → ℕ → ℕ → Type 0) : Type 0 where
  -- what is moved
  pub self : (l : Loc) → P (l ∷ []) (content s l) (content t l)
  -- what came from nowhere is the same in both
  pub none : (v : ℕ) → P [] v v
  -- what is computed from these locations alone
  pub counts : (origins : ℕ → List Loc) (i v w : ℕ) → (AgreeAt s t (origins i) → v ≡ w) → P (computed rule origins i) v w
  -- what is kept whole, and is computed from these locations alone
  pub keeps : (kept origins : ℕ → List Loc) (i v w : ℕ) → IsMoved s (kept i) v → (AgreeAt s t (origins i) → v ≡ w) → P (kept_or_computed rule kept origins i) v w
  -- what is moved to or from memory, by the base register a
  pub based : (a : ℕ) (imm : ℤ) (ls : List Loc) (v w : ℕ) → AgreesOn rule (effective_address s a imm) (effective_address t a imm)
      → (effective_address s a imm ≡ effective_address t a imm → P ls v w) → P (with_base rule a ls) v w

-- a place among those of a table of bytes, or none of them
pub data Lookup (a k n : ℕ) (origins : ℕ → List Loc) (q : ℕ) (ls : List Loc) : Type 0 where
  Hit : (i : ℕ) → k ≤ i → i < k + n → q ≡ a + i → ls ≡ origins i → Lookup a k n origins q ls
  Miss : (q < a + k) ⊎ (a + k + n ≤ q) → ls ≡ Mem q ∷ [] → Lookup a k n origins q ls

abbrev table : ℕ → (ℕ → List Loc) → ℕ → ℕ → List Target
table a origins k n = map (λ i. record { loc = Mem (wrap (a + i)); origins = origins i }) (range_with_len k n)

find_from : (a k n : ℕ) (origins : ℕ → List Loc) (q : ℕ) → a + k + n ≤ 2 ^ 32 → Lookup a k n origins q (origins_by (table a origins k n) (Mem q))
find_from a k zero origins q h = by (cases_lt q (a + k))
  where
    by : (q < a + k) ⊎ (a + k ≤ q) → Lookup a k zero origins q (Mem q ∷ [])
    by (inl g) = Miss (inl g) refl
    by (inr g) = Miss (inr (omega arith)) refl
find_from a k (suc n) origins q h = by (find_from a (k + 1) n origins q (omega arith)) (wrap (a + k) == q) refl
  where
    whole : wrap (a + k) ≡ a + k
    whole = mod-eq_of_lt (omega arith)

    wider : (ls : List Loc) → (a + k ≡ q → ⊥) → Lookup a (k + 1) n origins q ls → Lookup a k (suc n) origins q ls
    wider ls d (Hit i x y e f) = Hit i (omega arith) (omega arith) e f
    wider ls d (Miss (inl x) f) = Miss (inl (omega (arith, d))) f
    wider ls d (Miss (inr x) f) = Miss (inr (omega arith)) f

    by : Lookup a (k + 1) n origins q (origins_by (table a origins (k + 1) n) (Mem q)) → (b : Bool) → (wrap (a + k) == q) ≡ b → Lookup a k (suc n) origins q (cond b (origins k) (origins_by (table a origins (k + 1) n) (Mem q)))
    by ih true t = Hit k (omega arith) (omega arith) (sym (eqb-true (wrap (a + k)) q t) ∙ whole) refl
    by ih false t = wider _ (λ e. eqb-false (wrap (a + k)) q t (whole ∙ e)) ih

module _ {s t : State} {rule : Rule} {P : List Loc → ℕ → ℕ → Type 0} (c : Carries s t rule P) where
  pub carry : (ls : List Loc) (v v' w w' : ℕ) → v ≡ v' → w ≡ w' → P ls v' w' → P ls v w
  carry ls v v' w w' e f x = subst (λ (a : ℕ). P ls a w) (sym e) (subst (λ (b : ℕ). P ls v' b) (sym f) x)

  -- nothing but the pc is set
  pub kept : (p q : ℕ) (l : Loc) → P (l ∷ []) (content (record s { pc = p }) l) (content (record t { pc = q }) l)
  kept p q (Reg r i) = c.self (Reg r i)
  kept p q (Mem m) = c.self (Mem m)

  -- the lanes of a register get these words; of other places, and of what is no lane, the rest of the table says where they come from
  pub to_lanes : (d v w : ℕ) (origins : ℕ → List Loc) (rest : ℕ → ℕ → List Loc) (x y : ℕ → ℕ → ℕ) → ((i : ℕ) → x d i ≡ lane_of v i)
      → ((i : ℕ) → y d i ≡ lane_of w i)
      → ((i : ℕ) → i < 4 → P (origins i) (lane_of v i) (lane_of w i)) → ((i : ℕ) → P (rest d (suc (suc (suc (suc i))))) 0 0)
      → ((r i : ℕ) → (d ≡ r → ⊥) → P (rest r i) (x r i) (y r i)) → (r i : ℕ)
      → P (cond ((d == r) && (0 == i)) (origins 0) (cond ((d == r) && (1 == i)) (origins 1) (cond ((d == r) && (2 == i)) (origins 2) (cond ((d == r) && (3 == i)) (origins 3) (rest r i))))) (x r i) (y r i)
  to_lanes d v w origins rest x y is_v is_w each beyond other r i = by (d == r) refl
    where
      past : (a b e f : Bool) (ls : List Loc) → a ≡ false → b ≡ false → e ≡ false → f ≡ false → P ls 0 0
          → P (cond a (origins 0) (cond b (origins 1) (cond e (origins 2) (cond f (origins 3) ls)))) 0 0
      past false false false false ls m n o p h = h
      past a b e f ls m n o p h = cc

      hit : (i : ℕ) → P (cond (0 == i) (origins 0) (cond (1 == i) (origins 1) (cond (2 == i) (origins 2) (cond (3 == i) (origins 3) (rest d i))))) (lane_of v i) (lane_of w i)
      hit zero = each 0 (omega arith)
      hit (suc zero) = each 1 (omega arith)
      hit (suc (suc zero)) = each 2 (omega arith)
      hit (suc (suc (suc zero))) = each 3 (omega arith)
      hit (suc (suc (suc (suc i)))) =
          let j : ℕ = suc (suc (suc (suc i))) in
          past (0 == j) (1 == j) (2 == j) (3 == j) (rest d j) (ne_eqb 0 j (λ f. omega arith)) (ne_eqb 1 j (λ f. omega arith)) (ne_eqb 2 j (λ f. omega arith)) (ne_eqb 3 j (λ f. omega arith)) (beyond i)

      by : (b : Bool) → (d == r) ≡ b
          → P (cond (b && (0 == i)) (origins 0) (cond (b && (1 == i)) (origins 1) (cond (b && (2 == i)) (origins 2) (cond (b && (3 == i)) (origins 3) (rest r i))))) (x r i) (y r i)
      by true e =
          subst (λ (k : ℕ). P (cond (0 == i) (origins 0) (cond (1 == i) (origins 1) (cond (2 == i) (origins 2) (cond (3 == i) (origins 3) (rest k i))))) (x k i) (y k i)) (eqb-true d r e)
          (carry _ _ (lane_of v i) _ (lane_of w i) (is_v i) (is_w i) (hit i))
      by false e = other r i (eqb-false d r e)

  -- a register is set
  pub to_set : (d v w p q : ℕ) (origins : ℕ → List Loc) → IsSound s → IsSound t → d < 32 → ((i : ℕ) → i < 4 → P (origins i) (lane_of v i) (lane_of w i)) → (l : Loc) → P (origins_by (to_register d origins) l) (content (set_in s p d v) l) (content (set_in t q d w) l)
  to_set d v w p q origins ss st h each l = by (d == 0) l
    where
      same : (xs : List ℕ) (x i : ℕ) → length xs ≡ 32 → lane_of (get_or (slice_set xs d x) d 0) i ≡ lane_of x i
      same xs x i g = ap (λ (y : ℕ). lane_of y i) (get_or-set_same xs d x 0 (omega arith))

      other : (xs : List ℕ) (x r i : ℕ) → (d ≡ r → ⊥) → lane_of (get_or (slice_set xs d x) r 0) i ≡ lane_of (get_or xs r 0) i
      other xs x r i n = ap (λ (y : ℕ). lane_of y i) (get_or-set_other xs d r x 0 (λ e. n (sym e)))

      by : (b : Bool) (l : Loc) → P (origins_by (cond b [] (map (λ i. record { loc = Reg d i; origins = origins i }) (range_with_len 0 4))) l) (content (record s { pc = p; registers = cond b s.registers (slice_set s.registers d v) }) l) (content (record t { pc = q; registers = cond b t.registers (slice_set t.registers d w) }) l)
      by true (Reg r i) = c.self (Reg r i)
      by true (Mem m) = c.self (Mem m)
      by false (Reg r i) = to_lanes d v w origins (λ r i. Reg r i ∷ []) (λ r i. lane_of (get_or (slice_set s.registers d v) r 0) i) (λ r i. lane_of (get_or (slice_set t.registers d w) r 0) i)
          (λ i. same s.registers v i ss.count) (λ i. same t.registers w i st.count) each (λ i. c.self (Reg d (suc (suc (suc (suc i))))))
          (λ r i n. carry _ _ (lane_of (get_or s.registers r 0) i) _ (lane_of (get_or t.registers r 0) i) (other s.registers v r i n) (other t.registers w r i n) (c.self (Reg r i))) r i
      by false (Mem m) = c.self (Mem m)

  -- bytes are put into memory
  pub to_put : (a n p q : ℕ) (xs ys : List ℕ) (origins : ℕ → List Loc) → IsSound s → IsSound t → length xs ≡ n → length ys ≡ n → Holds s.base (length s.memory) a n → Holds t.base (length t.memory) a n
      → ((i : ℕ) → i < n → P (origins i) (get_or xs i 0) (get_or ys i 0)) → (l : Loc) → P (origins_by (to_memory a n origins) l) (content (put_at s p a xs) l) (content (put_at t q a ys) l)
  to_put a n p q xs ys origins ss st ex ey hs ht each (Reg r i) = no_bytes n 0
    where
      no_bytes : (n k : ℕ) → P (origins_by (table a origins k n) (Reg r i)) (content s (Reg r i)) (content t (Reg r i))
      no_bytes zero k = c.self (Reg r i)
      no_bytes (suc n) k = no_bytes n (k + 1)
  to_put a n p q xs ys origins ss st ex ey hs ht each (Mem m) = by (origins_by (to_memory a n origins) (Mem m)) (find_from a 0 n origins m (let x = hs.below in let y = ss.ends in omega arith))
    where
      hx : Holds s.base (length s.memory) a (length xs)
      hx = subst (Holds s.base (length s.memory) a) (sym ex) hs

      hy : Holds t.base (length t.memory) a (length ys)
      hy = subst (Holds t.base (length t.memory) a) (sym ey) ht

      by : (ls : List Loc) → Lookup a 0 n origins m ls → P ls (byte_in s.base (overwritten s.memory (a - s.base) xs) m) (byte_in t.base (overwritten t.memory (a - t.base) ys) m)
      by ls (Hit i x y e f) = subst (λ (ms : List Loc). P ms (byte_in s.base (overwritten s.memory (a - s.base) xs) m) (byte_in t.base (overwritten t.memory (a - t.base) ys) m)) (sym f) (carry (origins i) (byte_in s.base (overwritten s.memory (a - s.base) xs) m) (get_or xs i 0) (byte_in t.base (overwritten t.memory (a - t.base) ys) m) (get_or ys i 0) (put_in s.base s.memory a xs m i hx e (omega arith)) (put_in t.base t.memory a ys m i hy e (omega arith)) (each i (omega arith)))
      by ls (Miss o f) = subst (λ (ms : List Loc). P ms (byte_in s.base (overwritten s.memory (a - s.base) xs) m) (byte_in t.base (overwritten t.memory (a - t.base) ys) m)) (sym f) (carry (Mem m ∷ []) (byte_in s.base (overwritten s.memory (a - s.base) xs) m) (byte_in s.base s.memory m) (byte_in t.base (overwritten t.memory (a - t.base) ys) m) (byte_in t.base t.memory m) (put_out s.base s.memory a xs m hx (out (length xs) ex o)) (put_out t.base t.memory a ys m hy (out (length ys) ey o)) (c.self (Mem m)))
        where
          out : (k : ℕ) → k ≡ n → (m < a + 0) ⊎ (a + 0 + n ≤ m) → (m < a) ⊎ (a + k ≤ m)
          out k e (inl g) = inl (omega arith)
          out k e (inr g) = inr (omega arith)

-- ---- a lane that is moved

pub no_location : {A : Type 0} (k : Loc) → [] ≡ k ∷ [] → A
no_location k e = cc

pub lane_content : (s : State) (a i : ℕ) (k : Loc) → lane a i ≡ k ∷ [] → lane_of (reg s a) i ≡ content s k
lane_content s a i k e = by (a == 0) e
  where
    by : (b : Bool) → cond b [] (Reg a i ∷ []) ≡ k ∷ [] → lane_of (reg s a) i ≡ content s k
    by true e = no_location k e
    by false e = let same : Reg a i ≡ k = cc in ap (content s) same

-- a shift by whole lanes
pub left_moved : (s : State) (a k i : ℕ) → i < 4 → IsMoved s (left_lanes k a i) (lane_of (wrap (reg s a * 2 ^ k)) i)
left_moved s a k i h = by (k % 8 == 0) refl (nat_le (k / 8) i) refl
  where
    by : (b : Bool) → (k % 8 == 0) ≡ b → (c : Bool) → nat_le (k / 8) i ≡ c → IsMoved s (cond (b && c) (lane a (i - k / 8)) []) (lane_of (wrap (reg s a * 2 ^ k)) i)
    by true e true f q one =
        lane_up (reg s a) k i h (eqb-true (k % 8) 0 e) (leb-true (k / 8) i f) ∙ lane_content s a (i - k / 8) q one
    by true e false f q none = no_location q none
    by false e c f q none = no_location q none

-- to the right by whatever moves the lanes above down
pub right_moved : (s : State) (f : ℕ → ℕ) (a k i : ℕ) → (k % 8 ≡ 0 → i + k / 8 < 4 → lane_of (f (reg s a)) i ≡ lane_of (reg s a) (i + k / 8)) → IsMoved s (right_lanes k a i) (lane_of (f (reg s a)) i)
right_moved s f a k i down = by (k % 8 == 0) refl (nat_lt (i + k / 8) 4) refl
  where
    by : (b : Bool) → (k % 8 == 0) ≡ b → (c : Bool) → nat_lt (i + k / 8) 4 ≡ c → IsMoved s (cond (b && c) (lane a (i + k / 8)) []) (lane_of (f (reg s a)) i)
    by true e true g q one = down (eqb-true (k % 8) 0 e) (ltb-true (i + k / 8) 4 g) ∙ lane_content s a (i + k / 8) q one
    by true e false g q none = no_location q none
    by false e c g q none = no_location q none

-- ---- operands that agree

module _ {s t : State} (ss : IsSound s) (st : IsSound t) where
  zero_both : (a : ℕ) → (a == 0) ≡ true → (reg s a ≡ 0) × (reg t a ≡ 0)
  zero_both a e =
      let z = eqb-true a 0 e in
      (ap (λ (r : ℕ). reg s r) z ∙ ss.first, ap (λ (r : ℕ). reg t r) z ∙ st.first)

  pub word_agrees : (a : ℕ) → AgreeAt s t (lanes a) → reg s a ≡ reg t a
  word_agrees a h = by (a == 0) refl h
    where
      by : (b : Bool) → (a == 0) ≡ b → AgreeAt s t (cond b [] (Reg a 0 ∷ Reg a 1 ∷ Reg a 2 ∷ Reg a 3 ∷ [])) → reg s a ≡ reg t a
      by true e h = let z = zero_both a e in z.0 ∙ sym z.1
      by false e h = same_word (reg s a) (reg t a) (ss.words a) (st.words a) h.0 h.1.0 h.1.1.0 h.1.1.1.0

  pub lane_agrees : (a i : ℕ) → AgreeAt s t (lane a i) → lane_of (reg s a) i ≡ lane_of (reg t a) i
  lane_agrees a i h = by (a == 0) refl h
    where
      by : (b : Bool) → (a == 0) ≡ b → AgreeAt s t (cond b [] (Reg a i ∷ [])) → lane_of (reg s a) i ≡ lane_of (reg t a) i
      by true e h = let z = zero_both a e in ap (λ (v : ℕ). lane_of v i) (z.0 ∙ sym z.1)
      by false e h = h.0

  pub words_agree : (a b i : ℕ) → AgreeAt s t (all_lanes a b i) → (reg s a ≡ reg t a) × (reg s b ≡ reg t b)
  words_agree a b i h = let both = union-all loc_same (λ l. content s l ≡ content t l) (lanes a) (lanes b) h in (word_agrees a both.0, word_agrees b both.1)

  pub lanes_agree : (a b i : ℕ) → AgreeAt s t (each_lane a b i) → (lane_of (reg s a) i ≡ lane_of (reg t a) i) × (lane_of (reg s b) i ≡ lane_of (reg t b) i)
  lanes_agree a b i h = let both = union-all loc_same (λ l. content s l ≡ content t l) (lane a i) (lane b i) h in (lane_agrees a i both.0, lane_agrees b i both.1)

  -- such lanes determine an address
  pub address_agrees : (a : ℕ) (imm : ℤ) → AgreeAt s t (lanes a) → effective_address s a imm ≡ effective_address t a imm
  address_agrees a imm h = ap (λ (v : ℕ). wrap (v + as_word imm)) (word_agrees a h)

  -- what comes by a base register comes from one address
  pub base_agrees : (rule : Rule) (a : ℕ) (imm : ℤ) (ls : List Loc) → AgreesOn rule (effective_address s a imm) (effective_address t a imm) → AgreeAt s t (with_base rule a ls) → (effective_address s a imm ≡ effective_address t a imm) × AgreeAt s t ls
  base_agrees Index a imm ls e h = let both = union-all loc_same (λ l. content s l ≡ content t l) (lanes a) ls h in (address_agrees a imm both.0, both.1)
  base_agrees other a imm ls e h = (e, h)

  -- a shift looks at the lowest five bits of the amount
  pub amount_agrees : (b : ℕ) → AgreeAt s t (lane b 0) → reg s b % 32 ≡ reg t b % 32
  amount_agrees b h = let lowest = lane_agrees b 0 h in omega arith

  pub shift_agrees : (a b i : ℕ) → AgreeAt s t (shifted_lanes a b i) → (reg s a ≡ reg t a) × (reg s b % 32 ≡ reg t b % 32)
  shift_agrees a b i h =
      let both = union-all loc_same (λ l. content s l ≡ content t l) (lanes a) (lane b 0) h in
      (word_agrees a both.0, amount_agrees b both.1)

  -- ---- what is carried

  module _ {rule : Rule} {P : List Loc → ℕ → ℕ → Type 0} (c : Carries s t rule P) where
    pub still : (v w : ℕ) → v ≡ w → P [] v w
    still v w e = carry c [] v w w w e refl (c.none w)

    -- a register's word that came from nowhere
    pub same_value : (v w i : ℕ) → v ≡ w → P (nothing i) (lane_of v i) (lane_of w i)
    same_value v w i e = still (lane_of v i) (lane_of w i) (ap (λ (x : ℕ). lane_of x i) e)

    -- a lane that is moved
    pub moves : (a i : ℕ) → P (lane a i) (lane_of (reg s a) i) (lane_of (reg t a) i)
    moves a i = by (a == 0) refl
      where
        by : (b : Bool) → (a == 0) ≡ b → P (cond b [] (Reg a i ∷ [])) (lane_of (reg s a) i) (lane_of (reg t a) i)
        by true e = let z = zero_both a e in still (lane_of (reg s a) i) (lane_of (reg t a) i) (ap (λ (v : ℕ). lane_of v i) (z.0 ∙ sym z.1))
        by false e = c.self (Reg a i)

    -- operations on whole words
    pub of_one : (f : ℕ → ℕ) (a i : ℕ) → P (computed rule (λ j. lanes a) i) (lane_of (f (reg s a)) i) (lane_of (f (reg t a)) i)
    of_one f a i = c.counts (λ j. lanes a) i _ _ (λ h. ap (λ (v : ℕ). lane_of (f v) i) (word_agrees a h))

    pub of_two : (f : ℕ → ℕ → ℕ) (a b i : ℕ) → P (computed rule (all_lanes a b) i) (lane_of (f (reg s a) (reg s b)) i) (lane_of (f (reg t a) (reg t b)) i)
    of_two f a b i = c.counts (all_lanes a b) i _ _ (λ h. let both = words_agree a b i h in ap₂ (λ (v w : ℕ). lane_of (f v w) i) both.0 both.1)

    pub of_shift : (f : ℕ → ℕ → ℕ) (a b i : ℕ) → P (computed rule (shifted_lanes a b) i) (lane_of (f (reg s a) (reg s b % 32)) i) (lane_of (f (reg t a) (reg t b % 32)) i)
    of_shift f a b i = c.counts (shifted_lanes a b) i _ _ (λ h. let both = shift_agrees a b i h in ap₂ (λ (v w : ℕ). lane_of (f v w) i) both.0 both.1)

    -- operations byte by byte
    pub of_bytes : (f : ℕ → ℕ → ℕ) → ((v w i : ℕ) → lane_of (f v w) i ≡ f (lane_of v i) (lane_of w i)) → (a b i : ℕ) → P (computed rule (each_lane a b) i) (lane_of (f (reg s a) (reg s b)) i) (lane_of (f (reg t a) (reg t b)) i)
    of_bytes f law a b i = c.counts (each_lane a b) i _ _ (λ h. let both = lanes_agree a b i h in law (reg s a) (reg s b) i ∙ ap₂ f both.0 both.1 ∙ sym (law (reg t a) (reg t b) i))

    -- and with an immediate: the lanes where that has a neutral byte are kept
    pub of_immediate : (f : ℕ → ℕ → ℕ) → ((v w i : ℕ) → lane_of (f v w) i ≡ f (lane_of v i) (lane_of w i)) → (byte : ℕ) → ((v : ℕ) → v < 2 ^ 8 → f v byte ≡ v) → (a : ℕ) (imm : ℤ) (i : ℕ)
        → P (kept_or_computed rule (unchanged_lanes byte imm a) (lane a) i) (lane_of (f (reg s a) (as_word imm)) i) (lane_of (f (reg t a) (as_word imm)) i)
    of_immediate f law byte neutral a imm i = c.keeps (unchanged_lanes byte imm a) (lane a) i _ _ (moved (immediate_byte imm i == byte) refl)
        (λ h. law (reg s a) word i ∙ ap (λ (v : ℕ). f v (lane_of word i)) (lane_agrees a i h) ∙ sym (law (reg t a) word i))
      where
        word : ℕ
        word = as_word imm

        moved : (b : Bool) → (immediate_byte imm i == byte) ≡ b → IsMoved s (cond b (lane a i) []) (lane_of (f (reg s a) word) i)
        moved true e k one =
            law (reg s a) word i ∙ ap (f (lane_of (reg s a) i)) (eqb-true (immediate_byte imm i) byte e) ∙ neutral (lane_of (reg s a) i) (byte_small (reg s a) i)
            ∙ lane_content s a i k one
        moved false e k none = no_location k none

    -- a shift by an immediate: the lanes that it moves are kept
    pub of_shift_by : (f : ℕ → ℕ) (kept : ℕ → List Loc) (a i : ℕ) → IsMoved s (kept i) (lane_of (f (reg s a)) i)
        → P (kept_or_computed rule kept (λ j. lanes a) i) (lane_of (f (reg s a)) i) (lane_of (f (reg t a)) i)
    of_shift_by f kept a i moved = c.keeps kept (λ j. lanes a) i _ _ moved (λ h. ap (λ (v : ℕ). lane_of (f v) i) (word_agrees a h))

    -- comparisons: a bit in the first lane
    of_flags : (origins : List Loc) (x y : Bool) (i : ℕ) → (AgreeAt s t origins → x ≡ y) → P (computed rule (in_first_lane origins) i) (lane_of (flag x) i) (lane_of (flag y) i)
    of_flags origins x y zero h = c.counts (in_first_lane origins) 0 _ _ (λ g. ap (λ (b : Bool). lane_of (flag b) 0) (h g))
    of_flags origins x y (suc i) h = c.counts (in_first_lane origins) (suc i) _ _ (λ g. flag_lane x i ∙ sym (flag_lane y i))

    pub of_test : (f : ℕ → Bool) (a i : ℕ) → P (computed rule (in_first_lane (lanes a)) i) (lane_of (flag (f (reg s a))) i) (lane_of (flag (f (reg t a))) i)
    of_test f a i = of_flags (lanes a) (f (reg s a)) (f (reg t a)) i (λ h. ap f (word_agrees a h))

    pub of_tests : (f : ℕ → ℕ → Bool) (a b i : ℕ) → P (computed rule (in_first_lane (all_lanes a b 0)) i) (lane_of (flag (f (reg s a) (reg s b))) i) (lane_of (flag (f (reg t a) (reg t b))) i)
    of_tests f a b i = of_flags (all_lanes a b 0) (f (reg s a) (reg s b)) (f (reg t a) (reg t b)) i (λ h. let both = words_agree a b 0 h in ap₂ f both.0 both.1)

    -- with x0 as a source the operation is a move of the other source
    pub of_move : (f : ℕ → ℕ → ℕ) → ((w : ℕ) → w < 2 ^ 32 → f 0 w ≡ w) → ((v : ℕ) → v < 2 ^ 32 → f v 0 ≡ v) → (a b : ℕ) (otherwise : ℕ → List Loc) (i : ℕ) → P (otherwise i) (lane_of (f (reg s a) (reg s b)) i) (lane_of (f (reg t a) (reg t b)) i) → P (moved_or a b otherwise i) (lane_of (f (reg s a) (reg s b)) i) (lane_of (f (reg t a) (reg t b)) i)
    of_move f left right a b otherwise i h = by (a == 0) refl (b == 0) refl
      where
        first : (v w : ℕ) → v ≡ 0 → w < 2 ^ 32 → lane_of (f v w) i ≡ lane_of w i
        first v w e g = ap (λ (x : ℕ). lane_of (f x w) i) e ∙ ap (λ (x : ℕ). lane_of x i) (left w g)

        second : (v w : ℕ) → w ≡ 0 → v < 2 ^ 32 → lane_of (f v w) i ≡ lane_of v i
        second v w e g = ap (λ (x : ℕ). lane_of (f v x) i) e ∙ ap (λ (x : ℕ). lane_of x i) (right v g)

        by : (x : Bool) → (a == 0) ≡ x → (y : Bool) → (b == 0) ≡ y → P (cond x (lane b i) (cond y (lane a i) (otherwise i))) (lane_of (f (reg s a) (reg s b)) i) (lane_of (f (reg t a) (reg t b)) i)
        by true e y g = let z = zero_both a e in carry c (lane b i) _ (lane_of (reg s b) i) _ (lane_of (reg t b) i) (first (reg s a) (reg s b) z.0 (ss.words b)) (first (reg t a) (reg t b) z.1 (st.words b)) (moves b i)
        by false e true g = let z = zero_both b g in carry c (lane a i) _ (lane_of (reg s a) i) _ (lane_of (reg t a) i) (second (reg s a) (reg s b) z.0 (ss.words a)) (second (reg t a) (reg t b) z.1 (st.words a)) (moves a i)
        by false e false g = h

    -- ---- loads and stores

    -- a byte of memory
    of_memory : (a n i : ℕ) → Holds s.base (length s.memory) a n → Holds t.base (length t.memory) a n → i < n → P (Mem (wrap (a + i)) ∷ []) (get_or (bytes_at s a n) i 0) (get_or (bytes_at t a n) i 0)
    of_memory a n i hs ht g =
        let x = hs.below in
        let y = ss.ends in
        let whole : wrap (a + i) ≡ a + i = mod-eq_of_lt (omega arith) in
        subst (λ (p : ℕ). P (Mem p ∷ []) (get_or (bytes_at s a n) i 0) (get_or (bytes_at t a n) i 0)) (sym whole)
        (carry c (Mem (a + i) ∷ []) _ (byte_in s.base s.memory (a + i)) _ (byte_in t.base t.memory (a + i)) (byte_of_window s a n i hs g) (byte_of_window t a n i ht g) (c.self (Mem (a + i))))

    of_two_memories : (a b n i : ℕ) → a ≡ b → Holds s.base (length s.memory) a n → Holds t.base (length t.memory) b n → i < n → P (byte_of a i) (get_or (bytes_at s a n) i 0) (get_or (bytes_at t b n) i 0)
    of_two_memories a b n i e hs ht g = subst (λ (x : ℕ). Holds t.base (length t.memory) x n → P (byte_of a i) (get_or (bytes_at s a n) i 0) (get_or (bytes_at t x n) i 0)) e (λ h. of_memory a n i hs h g) ht

    -- lane i of a load
    pub of_load : (k : ℕ) (imm : ℤ) (n i : ℕ) → Size n → AgreesOn rule (effective_address s k imm) (effective_address t k imm)
        → Holds s.base (length s.memory) (effective_address s k imm) n → Holds t.base (length t.memory) (effective_address t k imm) n
        → P (loaded_byte rule k (effective_address s k imm) n i) (lane_of (little_endian (bytes_at s (effective_address s k imm) n)) i) (lane_of (little_endian (bytes_at t (effective_address t k imm) n)) i)
    of_load k imm n i z on hs ht = carry c (loaded_byte rule k a n i) _ (get_or (bytes_at s a n) i 0) _ (get_or (bytes_at t b n) i 0) (value s ss a hs) (value t st b ht) (by (nat_lt i n) refl)
      where
        a : ℕ
        a = effective_address s k imm

        b : ℕ
        b = effective_address t k imm

        value : (u : State) → IsSound u → (a : ℕ) → Holds u.base (length u.memory) a n → lane_of (little_endian (bytes_at u a n)) i ≡ get_or (bytes_at u a n) i 0
        value u su a hu = lanes_of_bytes n i z (bytes_at u a n) (bytes_length u a n hu) (window_bytes u su a n)

        by : (x : Bool) → nat_lt i n ≡ x → P (cond x (with_base rule k (byte_of a i)) []) (get_or (bytes_at s a n) i 0) (get_or (bytes_at t b n) i 0)
        by true e = c.based k imm (byte_of a i) _ _ on (λ same. of_two_memories a b n i same hs ht (ltb-true i n e))
        by false e =
            let g = ltb-false i n e in
            still (get_or (bytes_at s a n) i 0) (get_or (bytes_at t b n) i 0) (get_or_past (bytes_at s a n) i 0 (omega (arith, bytes_length s a n hs)) ∙ sym (get_or_past (bytes_at t b n) i 0 (omega (arith, bytes_length t b n ht))))

    above : (r : Rule) (k a n i : ℕ) → nat_lt i n ≡ false → signed_load r k a n i ≡ computed r (λ j. with_base r k (byte_of a (n - 1))) i
    above Compute k a n i e = ap (λ (b : Bool). byte_of a (cond b i (n - 1))) e
    above Index k a n i e = ap (λ (b : Bool). with_base Index k (byte_of a (cond b i (n - 1)))) e
    above other k a n i e = ap (λ (b : Bool). cond b (byte_of a i) []) e

    below : (r : Rule) (k a n i : ℕ) → nat_lt i n ≡ true → signed_load r k a n i ≡ with_base r k (byte_of a i)
    below Compute k a n i e = ap (λ (b : Bool). byte_of a (cond b i (n - 1))) e
    below Index k a n i e = ap (λ (b : Bool). with_base Index k (byte_of a (cond b i (n - 1)))) e
    below other k a n i e = ap (λ (b : Bool). cond b (byte_of a i) []) e

    top_in : (n : ℕ) → Short n → n - 1 < n
    top_in n ShortOne = omega arith
    top_in n ShortTwo = omega arith

    -- the content of the highest byte
    top : (u : State) → IsSound u → (a n : ℕ) → Short n → Holds u.base (length u.memory) a n → content u (Mem (wrap (a + (n - 1)))) ≡ get_or (bytes_at u a n) (n - 1) 0
    top u su a n z hu =
        let x = hu.below in
        let y = su.ends in
        let k = top_in n z in
        let whole : wrap (a + (n - 1)) ≡ a + (n - 1) = mod-eq_of_lt (omega arith) in
        ap (λ (p : ℕ). byte_in u.base u.memory p) whole ∙ sym (byte_of_window u a n (n - 1) hu k)

    same_top : (a b n : ℕ) → Short n → a ≡ b → Holds s.base (length s.memory) a n → Holds t.base (length t.memory) b n → AgreeAt s t (byte_of a (n - 1)) → get_or (bytes_at s a n) (n - 1) 0 ≡ get_or (bytes_at t b n) (n - 1) 0
    same_top a b n z e hs ht h = sym (top s ss a n z hs) ∙ h.0 ∙ ap (λ (x : ℕ). content t (Mem (wrap (x + (n - 1))))) e ∙ top t st b n z ht

    -- lane i of a load that extends the sign
    pub of_signed_load : (k : ℕ) (imm : ℤ) (n i : ℕ) → Short n → i < 4 → AgreesOn rule (effective_address s k imm) (effective_address t k imm)
        → Holds s.base (length s.memory) (effective_address s k imm) n → Holds t.base (length t.memory) (effective_address t k imm) n
        → P (signed_load rule k (effective_address s k imm) n i) (lane_of (sign_extended (8 * n) (little_endian (bytes_at s (effective_address s k imm) n))) i) (lane_of (sign_extended (8 * n) (little_endian (bytes_at t (effective_address t k imm) n))) i)
    of_signed_load k imm n i z f on hs ht = carry c (signed_load rule k a n i) _ (extended_byte s a (nat_lt i n)) _ (extended_byte t b (nat_lt i n)) (value s ss a hs) (value t st b ht) (by (nat_lt i n) refl)
      where
        a : ℕ
        a = effective_address s k imm

        b : ℕ
        b = effective_address t k imm

        extended_byte : State → ℕ → Bool → ℕ
        extended_byte u a x = if x then get_or (bytes_at u a n) i 0 else sign_byte (get_or (bytes_at u a n) (n - 1) 0)

        value : (u : State) → IsSound u → (a : ℕ) → Holds u.base (length u.memory) a n → lane_of (sign_extended (8 * n) (little_endian (bytes_at u a n))) i ≡ extended_byte u a (nat_lt i n)
        value u su a hu = signed_lanes n i z (bytes_at u a n) (bytes_length u a n hu) (window_bytes u su a n) f

        by : (x : Bool) → nat_lt i n ≡ x → P (signed_load rule k a n i) (extended_byte s a x) (extended_byte t b x)
        by true e = subst (λ (ls : List Loc). P ls (extended_byte s a true) (extended_byte t b true)) (sym (below rule k a n i e)) (c.based k imm (byte_of a i) _ _ on (λ same. of_two_memories a b n i same hs ht (ltb-true i n e)))
        by false e = subst (λ (ls : List Loc). P ls (extended_byte s a false) (extended_byte t b false)) (sym (above rule k a n i e))
            (c.counts (λ j. with_base rule k (byte_of a (n - 1))) i _ _ (λ h. let both = base_agrees rule k imm (byte_of a (n - 1)) on h in ap sign_byte (same_top a b n z both.0 hs ht both.1)))

    -- a byte that is stored
    pub of_store : (b n i : ℕ) → i < n → P (lane b i) (get_or (low_bytes n (reg s b)) i 0) (get_or (low_bytes n (reg t b)) i 0)
    of_store b n i h = carry c (lane b i) _ (lane_of (reg s b) i) _ (lane_of (reg t b) i) (low_byte (reg s b) n i h) (low_byte (reg t b) n i h) (moves b i)
