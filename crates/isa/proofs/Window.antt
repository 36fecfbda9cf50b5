-- Bytes put into a window, and addresses in it. Crates above cite these lemmas.
use Rattle.std.proofs.Common.{◌≡◌, ℕ, ◌+◌, ◌^◌, ◌<◌, ◌≤◌, true, List, [], ◌++◌, arith, ap, ◌∙◌, length, take, drop, length-append, length-drop, length-take-le, append-nil, take-append-drop}
use Rattle.std.specs.Prelude.{nat_le, IsTrue}
use Rattle.std.proofs.lemmas.Bool.{and_parts, leb-true}
use Rattle.isa.specs.Machine.{State, wrap, overwritten, in_window}

pub wrap-lt : (n : ℕ) → wrap n < 2 ^ 32
wrap-lt n = omega arith

-- where n bytes from a place on are in a window
pub record Holds (base size a n : ℕ) : Type 0 where
  pub above : base ≤ a
  pub below : a + n ≤ base + size

pub holds_by : (s : State) (a n : ℕ) → in_window s a n ≡ true → Holds s.base (length s.memory) a n
holds_by s a n e =
    let both = and_parts (nat_le s.base a) (nat_le (a + n) (s.base + length s.memory)) e in
    record { above = leb-true s.base a both.0; below = leb-true (a + n) (s.base + length s.memory) both.1 }

pub window_start : (s : State) (place n : ℕ) → IsTrue (in_window s place n) → s.base ≤ place
window_start s place n w = (holds_by s place n w).above

pub length-overwritten : (memory : List ℕ) (i : ℕ) (bytes : List ℕ) → i + length bytes ≤ length memory → length (overwritten memory i bytes) ≡ length memory
length-overwritten memory i bytes h =
    let front = length-append (take i memory) bytes ∙ ap (λ (n : ℕ). n + length bytes) (length-take-le i memory (omega arith)) in
    omega (arith, front, length-append (take i memory ++ bytes) (drop (i + length bytes) memory), length-drop (i + length bytes) memory)

pub overwritten-nil : (memory : List ℕ) (i : ℕ) → overwritten memory i [] ≡ memory
overwritten-nil memory i =
    let same : i + 0 ≡ i = omega arith in
    ap (λ (xs : List ℕ). xs ++ drop (i + 0) memory) (append-nil (take i memory)) ∙ ap (λ (n : ℕ). take i memory ++ drop n memory) same ∙ take-append-drop i memory
