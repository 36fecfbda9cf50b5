-- The marks of registers, by the bits of their word.
use Rattle.std.proofs.Common.{◌≡◌, ◌<◌, ◌^◌, ◌*◌, ◌%◌, ◌-◌, ◌==◌, ℕ, min, Bool, true, false, if◌then◌else◌, refl, arith, ap, sym, ◌∙◌, bit_and, bit_or}
use Rattle.std.specs.Int.{bit_at, bit_not, w32}
use Rattle.std.proofs.lemmas.Bool.{eqb-true, eqb-false}
use Rattle.std.proofs.lemmas.Nat.Bits.{bit_at_set_same, bit_at_set_other, bit_at_clear_same, bit_at_clear_other, bit_at_and, bit_at-zero, bit_at_mask_inside}
use Rattle.taint_shadow.specs.Marks.{has_mark, AllButFirst, SetsMark}

pub all_but_first : AllButFirst (2 ^ 32 - 2 ^ 1)
all_but_first = record { first = refl; other = λ r h k. ap (λ (b : ℕ). b == 1) (bit_at_mask_inside 1 32 r h k) }

-- where d's bit is b, and the others are as they were
set_bit : (old new d : ℕ) (b : Bool) → has_mark new d ≡ b → ((r : ℕ) → r < 32 → (d ≡ r → ⊥) → bit_at new r ≡ bit_at old r) → SetsMark old d b new
set_bit old new d b same other r h = by (d == r) refl where
  by : (t : Bool) → (d == r) ≡ t → has_mark new r ≡ (if t then b else has_mark old r)
  by true e = ap (has_mark new) (sym (eqb-true d r e)) ∙ same
  by false e = ap (λ (n : ℕ). n == 1) (other r h (eqb-false d r e))

pub marked : (n d : ℕ) → d < 32 → SetsMark n d true (bit_or n (1 * 2 ^ d % 2 ^ 32))
marked n d h = set_bit n (bit_or n (1 * 2 ^ d % 2 ^ 32)) d true (ap (λ (b : ℕ). b == 1) (bit_at_set_same w32 n d h)) (λ r k apart. bit_at_set_other w32 n d h r (λ e. apart (sym e)))

pub unmarked : (n d : ℕ) → d < 32 → SetsMark n d false (bit_and n (bit_not w32 (1 * 2 ^ d % 2 ^ 32)))
unmarked n d h = set_bit n (bit_and n (bit_not w32 (1 * 2 ^ d % 2 ^ 32))) d false (ap (λ (b : ℕ). b == 1) (bit_at_clear_same w32 n d h)) (λ r k apart. bit_at_clear_other w32 n d h r k (λ e. apart (sym e)))

pub none_of : (marks registers r : ℕ) → bit_and marks registers ≡ 0 → bit_at registers r ≡ 1 → has_mark marks r ≡ false
none_of marks registers r none has =
    let both : min (bit_at marks r) (bit_at registers r) ≡ 0 = sym (bit_at_and marks registers r) ∙ ap (λ (n : ℕ). bit_at n r) none ∙ bit_at-zero r in
    let zero : bit_at marks r ≡ 0 = omega (arith, both, has) in
    ap (λ (b : ℕ). b == 1) zero
