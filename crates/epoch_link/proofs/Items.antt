-- Items by position, and the distance of two words.
use Rattle.std.proofs.Common.{◌≡◌, ℕ, zero, suc, ◌+◌, ◌-◌, ◌*◌, ◌/◌, ◌%◌, ◌^◌, ◌<◌, ◌≤◌, List, [], ◌∷◌, ◌++◌, length, Some, None, sym, refl, ap, ◌∙◌, mod-lt, div-add-mod', arith}
use Rattle.std.proofs.lemmas.Nat.{mod-mul-add}
use Rattle.std.proofs.lemmas.Option.{none-some, same_Some}
use native.Mathlib.Decide.{dec_le}
use Rattle.atomic_table.proofs.Lists.{one_turn}
use Rattle.epoch_link.specs.Words.{word_of, distance}
use Rattle.epoch_link.specs.Ring.{item_at}

module _ {T : Type 0} where
  pub item-append : (l m : List T) (p : ℕ) → p < length l → item_at (l ++ m) p ≡ item_at l p
  item-append [] m p h = absurd (omega arith)
  item-append (x ∷ xs) m zero h = refl
  item-append (x ∷ xs) m (suc p) h = item-append xs m p (omega arith)

  pub item-last : (l : List T) (x : T) (n : ℕ) → length l ≡ n → item_at (l ++ x ∷ []) n ≡ Some x
  item-last [] x zero e = refl
  item-last (y ∷ ys) x (suc n) e = item-last ys x n (omega arith)
  item-last l x n e = absurd (omega arith)

  pub item-past : (l : List T) (p : ℕ) → length l ≤ p → item_at l p ≡ None
  item-past [] p h = refl
  item-past (x ∷ xs) zero h = absurd (omega arith)
  item-past (x ∷ xs) (suc p) h = item-past xs p (omega arith)

  pub item-after : (l m : List T) (p k : ℕ) → p ≡ length l + k → item_at (l ++ m) p ≡ item_at m k
  item-after [] m p k e = let q : p ≡ k = omega (arith, e) in ap (item_at m) q
  item-after (x ∷ xs) m zero k e = absurd (omega (arith, e))
  item-after (x ∷ xs) m (suc p) k e = item-after xs m p k (omega (arith, e))

  pub front : (ahead : List T) (x : T) → item_at ahead 0 ≡ Some x → (rest : List T) × (ahead ≡ x ∷ rest)
  front [] x e = absurd (none-some x e)
  front (y ∷ ys) x e = (ys, ap (λ z. z ∷ ys) (same_Some y x e))

-- the distance of the words of two counts is the distance of the counts
sums : (x y d qa qg : ℕ) → x < 2 ^ 64 → y < 2 ^ 64 → d ≤ 65536 → qa * 2 ^ 64 + x ≡ qg * 2 ^ 64 + y + d → Dec (qa ≤ qg) → distance x y ≡ d
sums x y d qa qg a b c e (yes h) = let z : x + (2 ^ 64 - y) ≡ 1 * 2 ^ 64 + d = omega arith in ap (λ (k : ℕ). k % 2 ^ 64) z ∙ mod-mul-add 1 (2 ^ 64) d (omega arith)
sums x y d qa qg a b c e (no h) = let z : x + (2 ^ 64 - y) ≡ 0 * 2 ^ 64 + d = omega arith in ap (λ (k : ℕ). k % 2 ^ 64) z ∙ mod-mul-add 0 (2 ^ 64) d (omega arith)

pub distance_is : (a g d : ℕ) → a ≡ g + d → d ≤ 65536 → distance (word_of a) (word_of g) ≡ d
distance_is a g d e few = let p = div-add-mod' a (2 ^ 64) in let q = div-add-mod' g (2 ^ 64) in
    sums (a % 2 ^ 64) (g % 2 ^ 64) d (a / 2 ^ 64) (g / 2 ^ 64) (mod-lt a (omega arith)) (mod-lt g (omega arith)) few (p ∙ e ∙ ap (λ (k : ℕ). k + d) (sym q)) (dec_le (a / 2 ^ 64) (g / 2 ^ 64))

-- two positions in one window of n, with one slot, are one position
in_turn : (g n p q : ℕ) → g ≤ p → p < g + n → g ≤ q → q < g + n → p % n ≡ q % n → Dec (p ≤ q) → p ≡ q
in_turn g n p q a b c d e (yes h) = one_turn p q n h (omega arith) e
in_turn g n p q a b c d e (no h) = sym (one_turn q p n (omega arith) (omega arith) (sym e))

pub one_slot : (g n p q : ℕ) → g ≤ p → p < g + n → g ≤ q → q < g + n → p % n ≡ q % n → p ≡ q
one_slot g n p q a b c d e = in_turn g n p q a b c d e (dec_le p q)
