-- Each step keeps a state sound. Crates above cite these lemmas.
use Rattle.std.proofs.Common.{◌≡◌, ℕ, zero, suc, ◌+◌, ◌-◌, ◌*◌, ◌^◌, ◌<◌, Bool, true, false, List, [], ◌∷◌, pos, negsuc, refl, arith, ap, ◌∙◌, length, get_or, ◌/◌, ◌%◌, ◌≤◌, sym, subst, bit_and, get_or-take, ◌⊎◌, inl, inr, ◌++◌, take, drop, length-append, length-drop, length-take-le, get_or-drop, length-take, ℤ, cond, get_or-set_same, get_or-set_other}
use Rattle.std.specs.Prelude.{nat_lt, if◌then◌else◌, ◌==◌, slice_set, ◌<ℤ◌, slice_index}
use Rattle.isa.specs.Machine.{little_endian, low_bytes, as_word, flag, wrap, arithmetic_right, State, overwritten, bytes_at, with_register, Outcome, Retired, Called, Trapped, landed, loaded, stored, branched, is_aligned, moved_on_with, extended, reg, execute, effect_of, in_window, jumped, next, outcome_of, Fetch, Fetched, fetch}
use Rattle.std.specs.Int.{w32, to_le_bytes, int_shr}
use Rattle.std.proofs.lemmas.Nat.{and_le_l, or_of_32, xor_of_32, shr_le}
use Rattle.std.proofs.lemmas.List.{get_or_append_left, get_or-append_right, get_or_past}
use Rattle.std.proofs.lemmas.Bool.{cases_lt, eqb-false, cases_eq}
use Rattle.isa.proofs.Window.{Holds, length-overwritten, holds_by, wrap-lt, overwritten-nil}
use Rattle.record_model.specs.States.{IsSound}
use Rattle.lists.proofs.Numbers.{get_or-below}
use Rattle.std.specs.List.{AllByRecursion}
use Rattle.std.proofs.Math.ListN.{length-set}
use Rattle.isa.specs.declared.Instr.{Instr}
use Rattle.isa.specs.declared.Instr.TheVariants.{Lui}
use Rattle.record_model.proofs.Values.{negative_word, signed_product_word, mixed_product_word, unsigned_product_word, quotient_word, remainder_word, unsigned_quotient_word, unsigned_remainder_word, InRange, signed_word}
use Rattle.std.proofs.lemmas.Int.{ints}
use Rattle.isa.specs.declared.Effect.{Effect}
use Rattle.isa.specs.declared.Effect.TheVariants.{SetRegister, Jump, Branch, Load, Store, MoveOn}
use Rattle.isa.specs.Calls.{buffer_of, no_such_call}
use Rattle.log_model.specs.declared.CallRecord.{CallRecord}
use Rattle.log_model.specs.declared.CallRecord.TheVariants.{Read, Write, Clock, Other}
use Rattle.replay_model.specs.Run.{state_after}
use Rattle.replay_model.specs.Comparison.{IsLawful}
use Rattle.replay_model.proofs.Transfers.{read_held}
use Rattle.log_model.specs.Logs.{IsRecord}

-- ---- bytes

-- bytes below 2 ^ 8
abbrev pub AreBytes : List ℕ → Type 0
AreBytes bs = (k : ℕ) → get_or bs k 0 < 2 ^ 8

-- the sizes of loads and stores
pub data Size : ℕ → Type 0 where
  OneByte : Size 1
  TwoBytes : Size 2
  FourBytes : Size 4

pub low_length : (n v : ℕ) → Size n → length (low_bytes n v) ≡ n
low_length n v OneByte = refl
low_length n v z = refl

-- the number that bytes stand for is a word
pub bytes_word : (n : ℕ) → Size n → (bs : List ℕ) → length bs ≡ n → AreBytes bs → little_endian bs < 2 ^ 32
bytes_word n OneByte (b ∷ []) l h = omega (arith, h 0)
bytes_word n TwoBytes (b ∷ c ∷ []) l h = omega (arith, h 0, h 1)
bytes_word n FourBytes (b ∷ c ∷ d ∷ e ∷ []) l h = omega (arith, h 0, h 1, h 2, h 3)
bytes_word n z bs l h = absurd (omega arith)

pub byte_small : (v i : ℕ) → slice_index (to_le_bytes w32 v) i < 2 ^ 8
byte_small v (suc (suc (suc (suc i)))) = omega arith
byte_small v i = omega arith

-- ---- bytes put into a window

over_front : (mem : List ℕ) (j : ℕ) (bs : List ℕ) → j + length bs ≤ length mem → length (take j mem ++ bs) ≡ j + length bs
over_front mem j bs h = length-append (take j mem) bs ∙ ap (λ (n : ℕ). n + length bs) (length-take-le j mem (omega arith))

pub over_in : (mem : List ℕ) (j : ℕ) (bs : List ℕ) (k i : ℕ) → k ≡ j + i → i < length bs → j + length bs ≤ length mem → get_or (overwritten mem j bs) k 0 ≡ get_or bs i 0
over_in mem j bs k i e g h =
    let front = over_front mem j bs h in
    let same : k - j ≡ i = omega arith in
    get_or_append_left (take j mem ++ bs) (drop (j + length bs) mem) 0 k (omega arith)
    ∙ get_or-append_right (take j mem) bs j k 0 (length-take-le j mem (omega arith)) (omega arith)
    ∙ ap (λ (n : ℕ). get_or bs n 0) same

pub over_before : (mem : List ℕ) (j : ℕ) (bs : List ℕ) (k : ℕ) → k < j → j + length bs ≤ length mem → get_or (overwritten mem j bs) k 0 ≡ get_or mem k 0
over_before mem j bs k g h =
    let front = over_front mem j bs h in
    let first = length-take-le j mem (omega arith) in
    get_or_append_left (take j mem ++ bs) (drop (j + length bs) mem) 0 k (omega arith)
    ∙ get_or_append_left (take j mem) bs 0 k (omega arith)
    ∙ get_or-take j mem k 0 g

pub over_after : (mem : List ℕ) (j : ℕ) (bs : List ℕ) (k : ℕ) → j + length bs ≤ k → j + length bs ≤ length mem → get_or (overwritten mem j bs) k 0 ≡ get_or mem k 0
over_after mem j bs k g h =
    let same : j + length bs + (k - (j + length bs)) ≡ k = omega arith in
    get_or-append_right (take j mem ++ bs) (drop (j + length bs) mem) (j + length bs) k 0 (over_front mem j bs h) g
    ∙ get_or-drop (j + length bs) mem (k - (j + length bs)) 0
    ∙ ap (λ (n : ℕ). get_or mem n 0) same

-- the bytes at an address
pub bytes_length : (s : State) (a n : ℕ) → Holds s.base (length s.memory) a n → length (bytes_at s a n) ≡ n
bytes_length s a n h = let x = h.above in let y = h.below in length-take-le n (drop (a - s.base) s.memory) (omega (arith, length-drop (a - s.base) s.memory))

-- a part of some bytes, as of a sound state's window
pub part_bytes : (bytes : List ℕ) (n i : ℕ) → AreBytes bytes → AreBytes (take n (drop i bytes))
part_bytes bytes n i h k = by (cases_lt k n)
  where
    by : (k < n) ⊎ (n ≤ k) → get_or (take n (drop i bytes)) k 0 < 2 ^ 8
    by (inl g) = subst (λ (x : ℕ). x < 2 ^ 8) (sym (get_or-take n (drop i bytes) k 0 g ∙ get_or-drop i bytes k 0)) (h (i + k))
    by (inr g) = subst (λ (x : ℕ). x < 2 ^ 8) (sym (get_or_past (take n (drop i bytes)) k 0 (omega (arith, length-take n (drop i bytes))))) (omega arith)

pub window_bytes : (s : State) → IsSound s → (a n : ℕ) → AreBytes (bytes_at s a n)
window_bytes s h a n = part_bytes s.memory n (a - s.base) h.bytes

abbrev pub set_in : State → ℕ → ℕ → ℕ → State
set_in s p d v = record s { pc = p; registers = with_register s.registers d v }

abbrev pub put_at : State → ℕ → ℕ → List ℕ → State
put_at s p a bytes = record s { pc = p; memory = overwritten s.memory (a - s.base) bytes }

-- ---- what an outcome leaves

-- where an outcome leaves a state, Q is true of it
abbrev pub Leaves : Outcome → (State → Type 0) → Type 0
Leaves (Retired s) Q = Q s
Leaves (Called call) Q = Unit {0}
Leaves (Trapped kind) Q = Unit {0}

pub on_landed : (b : Bool) (s : State) (Q : State → Type 0) → Q s → Leaves (landed b s) Q
on_landed true s Q h = h
on_landed false s Q h = tt

pub on_branched : (s : State) (taken : Bool) (target : ℕ) (Q : State → Type 0) → ((p : ℕ) → Q (record s { pc = p })) → Leaves (branched s taken target) Q
on_branched s true target Q h = on_landed (is_aligned target) (record s { pc = target }) Q (h target)
on_branched s false target Q h = h (wrap (s.pc + 4))

pub on_loaded : (s : State) (held : Bool) (d a n : ℕ) (is_signed : Bool) (Q : State → Type 0) → (held ≡ true → Q (moved_on_with s d (extended is_signed n (little_endian (bytes_at s a n))))) → Leaves (loaded s held d a n is_signed) Q
on_loaded s true d a n is_signed Q h = h refl
on_loaded s false d a n is_signed Q h = tt

pub on_stored : (s : State) (held : Bool) (a n v : ℕ) (Q : State → Type 0) → (held ≡ true → Q (record s { pc = wrap (s.pc + 4); memory = overwritten s.memory (a - s.base) (low_bytes n v) })) → Leaves (stored s held a n v) Q
on_stored s true a n v Q h = h refl
on_stored s false a n v Q h = tt

-- the state that an outcome leaves
pub leaves_is : (o : Outcome) (s : State) (Q : State → Type 0) → o ≡ Retired s → Leaves o Q → Q s
leaves_is o s Q e h = subst (λ (x : Outcome). Leaves x Q) e h

pub record Executes (s t : State) : Type 0 where
  pub instr : Instr
  pub is_fetched : fetch s ≡ Fetched instr
  pub executes : execute s (effect_of s instr) ≡ Retired t

retires_by : (s t : State) (f : Fetch) → fetch s ≡ f → outcome_of s f ≡ Retired t → Executes s t
retires_by s t (Fetched i) e h = record { instr = i; is_fetched = e; executes = h }
retires_by s t other e h = cc

pub retires : (s t : State) → next s ≡ Retired t → Executes s t
retires s t h = retires_by s t (fetch s) refl h

-- ---- what is set

pub sound_pc : (s : State) (p : ℕ) → IsSound s → IsSound (record s { pc = p })
sound_pc s p h = record { count = h.count; first = h.first; words = h.words; bytes = h.bytes; ends = h.ends }

set_words : (xs : List ℕ) (d v : ℕ) → ((r : ℕ) → get_or xs r 0 < 2 ^ 32) → v < 2 ^ 32 → (r : ℕ) → get_or (slice_set xs d v) r 0 < 2 ^ 32
set_words xs d v h g r = by (cases_eq r d) (cases_lt d (length xs))
  where
    by : (r ≡ d) ⊎ (r ≡ d → ⊥) → (d < length xs) ⊎ (length xs ≤ d) → get_or (slice_set xs d v) r 0 < 2 ^ 32
    by (inl e) (inl x) = rw (e, get_or-set_same xs d v 0 x) g
    by (inl e) (inr x) = subst (λ (n : ℕ). n < 2 ^ 32) (sym (get_or_past (slice_set xs d v) r 0 (omega (arith, length-set xs d v)))) (omega arith)
    by (inr n) x = subst (λ (y : ℕ). y < 2 ^ 32) (sym (get_or-set_other xs d r v 0 n)) (h r)

pub sound_set : (s : State) (p d v : ℕ) → IsSound s → v < 2 ^ 32 → IsSound (set_in s p d v)
sound_set s p d v h g = by (d == 0) refl
  where
    by : (b : Bool) → (d == 0) ≡ b → IsSound (record s { pc = p; registers = cond b s.registers (slice_set s.registers d v) })
    by true e = record { count = h.count; first = h.first; words = h.words; bytes = h.bytes; ends = h.ends }
    by false e = record {
      count = length-set s.registers d v ∙ h.count;
      first = get_or-set_other s.registers d 0 v 0 (λ f. eqb-false d 0 e (sym f)) ∙ h.first;
      words = set_words s.registers d v h.words g;
      bytes = h.bytes;
      ends = h.ends;
    }

pub put_bytes : (mem : List ℕ) (j : ℕ) (bs : List ℕ) → j + length bs ≤ length mem → ((k : ℕ) → get_or mem k 0 < 2 ^ 8) → AreBytes bs → (k : ℕ) → get_or (overwritten mem j bs) k 0 < 2 ^ 8
put_bytes mem j bs h m b k = by (cases_lt k j) (cases_lt k (j + length bs))
  where
    by : (k < j) ⊎ (j ≤ k) → (k < j + length bs) ⊎ (j + length bs ≤ k) → get_or (overwritten mem j bs) k 0 < 2 ^ 8
    by (inl x) y = subst (λ (n : ℕ). n < 2 ^ 8) (sym (over_before mem j bs k x h)) (m k)
    by (inr x) (inl y) = subst (λ (n : ℕ). n < 2 ^ 8) (sym (over_in mem j bs k (k - j) (omega arith) (omega arith) h)) (b (k - j))
    by (inr x) (inr y) = subst (λ (n : ℕ). n < 2 ^ 8) (sym (over_after mem j bs k y h)) (m k)

pub sound_put : (s : State) (p a : ℕ) (bs : List ℕ) → IsSound s → Holds s.base (length s.memory) a (length bs) → AreBytes bs → IsSound (put_at s p a bs)
sound_put s p a bs h w b =
    let x = w.above in
    let y = w.below in
    let room : (a - s.base) + length bs ≤ length s.memory = omega arith in
    let same = length-overwritten s.memory (a - s.base) bs room in
    record { count = h.count; first = h.first; words = h.words; bytes = put_bytes s.memory (a - s.base) bs room h.bytes b; ends = subst (λ (n : ℕ). s.base + n ≤ 2 ^ 32) (sym same) h.ends }

-- ---- the values

flag_word : (b : Bool) → flag b < 2 ^ 32
flag_word true = omega arith
flag_word false = omega arith

shifted_word : (v k : ℕ) → v < 2 ^ 32 → v / 2 ^ k < 2 ^ 32
shifted_word v k h = let x = shr_le v k in omega arith

arithmetic_word : (v k : ℕ) → v < 2 ^ 32 → arithmetic_right v k < 2 ^ 32
arithmetic_word v k h = by (nat_lt v 2147483648)
  where
    by : (b : Bool) → as_word (int_shr (if b then pos v else negsuc (2 ^ 32 - 1 - v)) k) < 2 ^ 32
    by true = shifted_word v k h
    by false = negative_word ((2 ^ 32 - 1 - v) / 2 ^ k)

extended_word : (is_signed : Bool) (n v : ℕ) → v < 2 ^ 32 → extended is_signed n v < 2 ^ 32
extended_word true n v h = signed_word (8 * n) v h
extended_word false n v h = h

low_are_bytes : (n v : ℕ) → AreBytes (low_bytes n v)
low_are_bytes n v = part_bytes (to_le_bytes w32 v) n 0 (byte_small v)

and_word : (v w : ℕ) → v < 2 ^ 32 → bit_and v w < 2 ^ 32
and_word v w h = let x = and_le_l v w in omega arith

-- ---- the steps

-- a word is set, and as many bytes as there are loads and stores of
abbrev IsSafe : Effect → Type 0
IsSafe (SetRegister d v) = v < 2 ^ 32
IsSafe (Load d a n is_signed) = Size n
IsSafe (Store a n v) = Size n
IsSafe other = Unit {0}

-- the values that are words, and the sizes
ruleset values = (
  wrap-lt,
  flag_word,
  xor_of_32,
  or_of_32,
  and_word,
  shifted_word,
  arithmetic_word,
  signed_product_word,
  mixed_product_word,
  unsigned_product_word,
  quotient_word,
  remainder_word,
  unsigned_quotient_word,
  unsigned_remainder_word,
  OneByte,
  TwoBytes,
  FourBytes,
)

module _ {s : State} (h : IsSound s) where
  is_safe : (i : Instr) → InRange i → IsSafe (effect_of s i)
  is_safe (Lui d imm) r = r.word
  is_safe other r = search (values, h.words, r.word)

  effect_sound : (e : Effect) → IsSafe e → Leaves (execute s e) IsSound
  effect_sound (SetRegister d v) g = sound_set s (wrap (s.pc + 4)) d v h g
  effect_sound (Jump d p) g = on_landed (is_aligned p) (jumped s d p) IsSound (sound_set s p d (wrap (s.pc + 4)) h (wrap-lt (s.pc + 4)))
  effect_sound (Branch b p) g = on_branched s b p IsSound (λ q. sound_pc s q h)
  effect_sound (Load d a n is_signed) z = on_loaded s (in_window s a n) d a n is_signed IsSound
      (λ e. sound_set s _ d _ h (extended_word is_signed n (little_endian (bytes_at s a n)) (bytes_word n z (bytes_at s a n) (bytes_length s a n (holds_by s a n e)) (window_bytes s h a n))))
  effect_sound (Store a n v) z = on_stored s (in_window s a n) a n v IsSound
      (λ e. sound_put s (wrap (s.pc + 4)) a (low_bytes n v) h (subst (Holds s.base (length s.memory) a) (sym (low_length n v z)) (holds_by s a n e)) (low_are_bytes n v))
  effect_sound MoveOn g = sound_pc s (wrap (s.pc + 4)) h
  effect_sound other g = tt

  pub stays_sound : (i : Instr) → InRange i → Leaves (execute s (effect_of s i)) IsSound
  stays_sound i r = effect_sound (effect_of s i) (is_safe i r)

-- ---- the buffer of a read

-- the bytes have room in the window at their buffer, or there are none
abbrev pub HasRoom : State → ℕ → List ℕ → Type 0
HasRoom s a bytes = (bytes ≡ []) ⊎ Holds s.base (length s.memory) a (length bytes)

pub length-room : (s : State) (a : ℕ) (bytes : List ℕ) → HasRoom s a bytes → length (overwritten s.memory (a - s.base) bytes) ≡ length s.memory
length-room s a bytes (inl e) = ap (λ (xs : List ℕ). length (overwritten s.memory (a - s.base) xs)) e ∙ ap length (overwritten-nil s.memory (a - s.base))
length-room s a bytes (inr w) = let above = w.above in let below = w.below in length-overwritten s.memory (a - s.base) bytes (omega arith)

pub read_room : (s : State) (inputs at : ℕ) (args : List ℕ) (result : ℤ) (bytes : List ℕ) → IsRecord (Read at args result bytes) → IsLawful s inputs (Read at args result bytes) → HasRoom s (buffer_of args) bytes
read_room s inputs at args result [] form lawful = inl refl
read_room s inputs at args result (b ∷ bytes) form lawful =
    let held = read_held s inputs at args result (b ∷ bytes) form lawful (omega arith) in
    inr (subst (λ (a : ℕ). Holds s.base (length s.memory) a (length (b ∷ bytes))) (sym held.buffer) (holds_by s (reg s 11) (length (b ∷ bytes)) held.held))

-- ---- calls keep a state sound

pub are_bytes : (bs : List ℕ) → AllByRecursion (λ b. b < 256) bs → AreBytes bs
are_bytes bs h = get_or-below 256 bs (omega arith) h

result_word : (z : ℤ) → z <ℤ pos (2 ^ 31) → as_word z < 2 ^ 32
result_word (pos n) h = let x : pos n <ℤ pos 2147483648 = h in omega (arith, ints)
result_word (negsuc n) h = negative_word n

read_sound : (s : State) (p a : ℕ) (bytes : List ℕ) → IsSound s → HasRoom s a bytes → AreBytes bytes → IsSound (put_at s p a bytes)
read_sound s p a bytes h (inl e) b =
    let nothing : overwritten s.memory (a - s.base) bytes ≡ s.memory = ap (λ (xs : List ℕ). overwritten s.memory (a - s.base) xs) e ∙ overwritten-nil s.memory (a - s.base) in
    subst (λ (mem : List ℕ). IsSound (record s { pc = p; memory = mem })) (sym nothing) (sound_pc s p h)
read_sound s p a bytes h (inr w) b = sound_put s p a bytes h w b

pub call_sound : (s : State) (inputs : ℕ) (r : CallRecord) → IsSound s → IsRecord r → IsLawful s inputs r → IsSound (state_after s r)
call_sound s inputs (Read at args result bytes) h form lawful =
    let p = wrap (s.pc + 4) in
    sound_set (put_at s p (buffer_of args) bytes) p 10 (as_word result)
    (read_sound s p (buffer_of args) bytes h (read_room s inputs at args result bytes form lawful) (are_bytes bytes form.1.are_bytes))
    (result_word result form.1.fits)
call_sound s inputs (Write at args result bytes) h form lawful = sound_set s (wrap (s.pc + 4)) 10 (as_word result) h (result_word result form.1.fits)
call_sound s inputs (Clock at value) h form lawful =
    let p = wrap (s.pc + 4) in
    sound_set (set_in s p 10 (value % 2 ^ 32)) p 11 (value / 2 ^ 32) (sound_set s p 10 (value % 2 ^ 32) h (wrap-lt value)) (high value form.1)
  where
    high : (n : ℕ) → n < 2 ^ 64 → n / 2 ^ 32 < 2 ^ 32
    high n h = omega arith
call_sound s inputs (Other at number) h form lawful = sound_set s (wrap (s.pc + 4)) 10 (as_word no_such_call) h (omega arith)
