-- Numbers in a row, and the first of them that passes a test, from the front and from the end.
use Rattle.std.proofs.Common.{◌≡◌, ℕ, zero, suc, ◌+◌, ◌-◌, ◌<◌, Bool, true, false, if◌then◌else◌, List, [], ◌∷◌, ◌++◌, reverse, find, Option, Some, None, refl, ap, sym, ◌∙◌, subst, ◌==◌, eqb-true, arith}
use Rattle.std.specs.List.{range_with_len}
use Rattle.std.proofs.lemmas.Bool.{eqb-false}
use Rattle.std.proofs.lemmas.List.{reverse-append}
use Rattle.run_travel.specs.MoveLaws.{NonePasses, IsLeast, IsGreatest}

-- ---- one number more

pub from_first : (passes : ℕ → Bool) (k n : ℕ) → k < n
    → find passes (range_with_len k (n - k)) ≡ (if passes k then Some k else find passes (range_with_len (k + 1) (n - (k + 1))))
from_first passes k n h = by (n - k) (n - (k + 1)) (omega arith) where
  by : (m r : ℕ) → m ≡ r + 1 → find passes (range_with_len k m) ≡ (if passes k then Some k else find passes (range_with_len (k + 1) r))
  by zero r e = absurd (omega arith)
  by (suc m) r e =
      let same : m ≡ r = omega arith in
      ap (λ (n : ℕ). if passes k then Some k else find passes (range_with_len (k + 1) n)) same

row_more : (a n last : ℕ) → a + n ≡ last → range_with_len a (suc n) ≡ range_with_len a n ++ last ∷ []
row_more a zero last e = let same : a ≡ last = omega arith in ap (λ (k : ℕ). k ∷ []) same
row_more a (suc n) last e = ap (λ (ks : List ℕ). a ∷ ks) (row_more (a + 1) n last (omega arith))

pub from_last : (passes : ℕ → Bool) (k : ℕ)
    → find passes (reverse (range_with_len 0 (suc k))) ≡ (if passes k then Some k else find passes (reverse (range_with_len 0 k)))
from_last passes k =
    ap (λ (ks : List ℕ). find passes (reverse ks)) (row_more 0 k k (omega arith))
    ∙ ap (find passes) (reverse-append (range_with_len 0 k) (k ∷ []))

-- ---- the least and the greatest

none_more : (passes : ℕ → Bool) (k below : ℕ) → passes k ≡ false → NonePasses passes (k + 1) below → NonePasses passes k below
none_more passes k below here later j from below_j = by (j == k) refl where
  by : (b : Bool) → (j == k) ≡ b → passes j ≡ false
  by true e = ap passes (eqb-true j k e) ∙ here
  by false e = later j (let apart = eqb-false j k e in omega (arith, apart)) below_j

pub least : (passes : ℕ → Bool) (from n : ℕ) → IsLeast passes from (from + n) (find passes (range_with_len from n))
least passes from zero = λ k low high. absurd (omega arith)
least passes from (suc n) = by (passes from) refl (least passes (from + 1) n) where
  by : (b : Bool) → passes from ≡ b → IsLeast passes (from + 1) (from + 1 + n) (find passes (range_with_len (from + 1) n))
      → IsLeast passes from (from + suc n) (if b then Some from else find passes (range_with_len (from + 1) n))
  by true here later = (omega arith, omega arith, here, λ k low high. absurd (omega arith))
  by false here later = widened (find passes (range_with_len (from + 1) n)) later where
    widened : (o : Option ℕ) → IsLeast passes (from + 1) (from + 1 + n) o → IsLeast passes from (from + suc n) o
    widened None is = none_more passes from (from + suc n) here (λ k low high. is k low (omega arith))
    widened (Some m) is = (omega (arith, is.0), omega (arith, is.1), is.2, none_more passes from m here is.3)

pub greatest : (passes : ℕ → Bool) (n : ℕ) → IsGreatest passes 0 n (find passes (reverse (range_with_len 0 n)))
greatest passes zero = λ k low high. absurd (omega arith)
greatest passes (suc n) = subst (IsGreatest passes 0 (suc n)) (sym (from_last passes n)) (by (passes n) refl (greatest passes n)) where
  by : (b : Bool) → passes n ≡ b → IsGreatest passes 0 n (find passes (reverse (range_with_len 0 n)))
      → IsGreatest passes 0 (suc n) (if b then Some n else find passes (reverse (range_with_len 0 n)))
  by true here before = (omega arith, omega arith, here, λ k low high. absurd (omega arith))
  by false here before = widened (find passes (reverse (range_with_len 0 n))) before where
    up_to : (from : ℕ) → NonePasses passes from n → NonePasses passes from (suc n)
    up_to from none j low high = either (j == n) refl where
      either : (b : Bool) → (j == n) ≡ b → passes j ≡ false
      either true e = ap passes (eqb-true j n e) ∙ here
      either false e = none j low (let apart = eqb-false j n e in omega (arith, apart))

    widened : (o : Option ℕ) → IsGreatest passes 0 n o → IsGreatest passes 0 (suc n) o
    widened None is = up_to 0 is
    widened (Some m) is = (is.0, omega (arith, is.1), is.2, up_to (m + 1) is.3)
