-- Texts of registers and memory.
use Rattle.std.proofs.Common.{◌≡◌, ℕ, zero, suc, ◌+◌, ◌-◌, ◌*◌, ◌<◌, ◌≤◌, min, Bool, true, false, ◌&&◌, if◌then◌else◌, nat_le, List, [], ◌∷◌, length, take, drop, get_or, Option, Some, None, refl, ap, sym, ◌∙◌, arith, length-take, length-drop, get_or-take, get_or-drop, le-leb, leb-true, leb-false, zero-add}
use Rattle.std.specs.List.{flat_map, range_with_len}
use Rattle.std.specs.Int.{w32, to_le_bytes}
use Rattle.std.proofs.lemmas.Nat.{from_le_bytes-to_le_bytes_4}
use Rattle.std.proofs.lemmas.List.FromFn.{length-range_with_len, get_or-range_with_len}
use Rattle.hex.specs.Hex.{encode_with, encode_lower, IsBytes}
use Rattle.hex.proofs.HexLemmas.{decode_of-encode_lower}
use Rattle.isa.specs.Machine.{State, in_window, bytes_at}
use Rattle.debug_model.specs.States.{error, register, register_bytes, registers_text, register_text}
use Rattle.debug_model.specs.Answers.{answer_to}
use Rattle.debug_model.specs.StateLaws.{job_of, StateIsOfRun, EachIsAmongAll, RegistersAreRead, byte_at, AreBytesFrom, MemoryIsBytes}

pub of_run : StateIsOfRun
of_run program log fits s bytes = record {
  all = ap (answer_to (job_of program log fits) s bytes);
  one = λ n. ap (answer_to (job_of program log fits) s bytes);
  memory = λ place asked. ap (answer_to (job_of program log fits) s bytes);
}

-- ---- registers

eights : ℕ → ℕ
eights zero = 0
eights (suc n) = suc (suc (suc (suc (suc (suc (suc (suc (eights n))))))))

eights_are : (n : ℕ) → eights n ≡ n * 8
unfolding eights
eights_are zero = refl
eights_are (suc n) = let rest = eights_are n in omega (arith, rest)

register_among : (s : State) (n : ℕ) (ns : List ℕ) → n < length ns
    → take 8 (drop (eights n) (encode_lower (flat_map (register_bytes s) ns))) ≡ encode_lower (register_bytes s (get_or ns n 0))
unfolding eights encode_with
register_among s n [] below = absurd (omega arith)
register_among s zero (m ∷ ns) below = refl
register_among s (suc n) (m ∷ ns) below = register_among s n ns (omega arith)

register_is : (s : State) (n : ℕ) → n ≤ 32 → register_text s n ≡ encode_lower (register_bytes s n)
register_is s n low = ap (λ (b : Bool). if b then encode_lower (register_bytes s n) else error) (le-leb n 32 low)

pub among_all : EachIsAmongAll
among_all s n low =
    let there : n < 33 = omega arith in
    let size = length-range_with_len 0 33 in
    let number : get_or (range_with_len 0 33) n 0 ≡ n = get_or-range_with_len 0 33 n 0 there ∙ zero-add n in
    ap (λ (k : ℕ). take 8 (drop k (registers_text s))) (sym (eights_are n))
    ∙ register_among s n (range_with_len 0 33) (omega arith)
    ∙ ap (λ (k : ℕ). encode_lower (register_bytes s k)) number
    ∙ sym (register_is s n low)

four_bytes : (v : ℕ) → IsBytes (to_le_bytes w32 v)
four_bytes v zero = omega arith
four_bytes v (suc zero) = omega arith
four_bytes v (suc (suc zero)) = omega arith
four_bytes v (suc (suc (suc zero))) = omega arith
four_bytes v (suc (suc (suc (suc i)))) = omega arith

pub registers_read : RegistersAreRead
registers_read s n low fits = record {
  bytes = register_bytes s n;
  read = rw (register_is s n low) (decode_of-encode_lower (register_bytes s n) (four_bytes (register s n)));
  is = from_le_bytes-to_le_bytes_4 (register s n) fits;
}

-- ---- memory

abbrev shown : Bool → State → ℕ → Option ℕ
shown b s place = if b then Some (get_or s.memory (place - s.base) 0) else None

inside : (s : State) (place : ℕ) → s.base ≤ place → place + 1 ≤ s.base + length s.memory → in_window s place 1 ≡ true
inside s place above below =
    let first = le-leb s.base place above in
    let last = le-leb (place + 1) (s.base + length s.memory) below in
    rw (first, last) refl

module _ (s : State) (place n : ℕ) where
  size : length (bytes_at s place n) ≡ min n (length s.memory - (place - s.base))
  size =
      let taken = length-take n (drop (place - s.base) s.memory) in
      let rest = length-drop (place - s.base) s.memory in
      taken ∙ ap (min n) rest

  each : s.base ≤ place → (k : ℕ) → k < length (bytes_at s place n) → byte_at s (place + k) ≡ Some (get_or (bytes_at s place n) k 0)
  each above k below =
      let count = size in
      let low : k < n = omega arith in
      let there : place + k + 1 ≤ s.base + length s.memory = omega arith in
      let same : place + k - s.base ≡ place - s.base + k = omega arith in
      ap (λ (b : Bool). shown b s (place + k)) (inside s (place + k) (omega arith) there)
      ∙ ap (λ (i : ℕ). Some (get_or s.memory i 0)) same
      ∙ ap (λ (byte : ℕ). Some byte) (sym (get_or-take n (drop (place - s.base) s.memory) k 0 low ∙ get_or-drop (place - s.base) s.memory k 0))

pub memory_bytes : MemoryIsBytes
memory_bytes s place asked = by (nat_le s.base place) refl where
  held : s.base ≤ place → (c : Bool) → nat_le (place + 1) (s.base + length s.memory) ≡ c
      → length (bytes_at s place (min asked 8000)) ≡ (if c then min (min asked 8000) (s.base + length s.memory - place) else 0)
  held above true e =
      let room : length s.memory - (place - s.base) ≡ s.base + length s.memory - place = omega arith in
      size s place (min asked 8000) ∙ ap (min (min asked 8000)) room
  held above false e =
      let behind = leb-false (place + 1) (s.base + length s.memory) e in
      let room : length s.memory - (place - s.base) ≡ 0 = omega (arith, behind) in
      size s place (min asked 8000) ∙ ap (min (min asked 8000)) room ∙ none
    where
      none : min (min asked 8000) 0 ≡ 0
      none = omega arith

  by : (b : Bool) → nat_le s.base place ≡ b → AreBytesFrom s place asked (if b then bytes_at s place (min asked 8000) else [])
  by true e =
      let above = leb-true s.base place e in
      record {
        count = held above (nat_le (place + 1) (s.base + length s.memory)) refl
            ∙ ap (λ (b : Bool). if b && nat_le (place + 1) (s.base + length s.memory) then min (min asked 8000) (s.base + length s.memory - place) else 0) (sym e);
        each = each s place (min asked 8000) above;
      }
  by false e = record {
    count = ap (λ (b : Bool). if b && nat_le (place + 1) (s.base + length s.memory) then min (min asked 8000) (s.base + length s.memory - place) else 0) (sym e);
    each = λ k below. absurd (omega arith);
  }
