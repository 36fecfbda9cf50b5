-- Sums over lists: after a change of one element, and where one element has all.
use Rattle.std.proofs.Common.{◌≡◌, ◌≢◌, ℕ, zero, suc, ◌+◌, ◌≤◌, List, [], ◌∷◌, length, set, sym, refl, ap, ◌∙◌, arith}
use Rattle.std.proofs.lemmas.List.Sums.{sum_by-cons}
use Rattle.std.specs.List.{sum_by}
use mathlib.Core.Option.{some, some-injective, some-ne-none}
use lib.ListN.{get_elem?}
use Rattle.crossbeam_queue.proofs.Lists.{set_else}

module _ {V : Type 0} where
  -- the total after a change of one
  pub total_set : (f : V → ℕ) (views : List V) (port : ℕ) (v w : V) → get_elem? views port ≡ some v → sum_by f (set views port w) + f v ≡ sum_by f views + f w
  total_set f [] port v w e = absurd (some-ne-none v (sym e))
  total_set f (x ∷ xs) zero v w e = omega (arith, sum_by-cons f w xs, sum_by-cons f x xs, ap f (some-injective x v e))
  total_set f (x ∷ xs) (suc port) v w e = omega (arith, sum_by-cons f x (set xs port w), sum_by-cons f x xs, total_set f xs port v w e)

  pub part : (f : V → ℕ) (views : List V) (port : ℕ) (v : V) → get_elem? views port ≡ some v → f v ≤ sum_by f views
  part f [] port v e = absurd (some-ne-none v (sym e))
  part f (x ∷ xs) zero v e = omega (arith, sum_by-cons f x xs, ap f (some-injective x v e))
  part f (x ∷ xs) (suc port) v e = omega (arith, sum_by-cons f x xs, part f xs port v e)

  pub two_parts : (f : V → ℕ) (views : List V) (i j : ℕ) (u v z : V) → f z ≡ 0 → i ≢ j → get_elem? views i ≡ some u → get_elem? views j ≡ some v → f u + f v ≤ sum_by f views
  two_parts f views i j u v z none apart at_i at_j =
      let e : get_elem? (set views j z) i ≡ some u = set_else views j i z apart ∙ at_i in
      omega (arith, part f (set views j z) i u e, total_set f views j v z at_j, none)

  pub nothing : (f g : V → ℕ) (views : List V) → sum_by g views ≡ 0 → ((p : ℕ) (u : V) → get_elem? views p ≡ some u → g u ≡ 0 → f u ≡ 0) → sum_by f views ≡ 0
  nothing f g [] s h = refl
  nothing f g (x ∷ xs) s h =
      let c = sum_by-cons g x xs in
      let a : g x ≡ 0 = omega arith in
      let b : sum_by g xs ≡ 0 = omega arith in
      omega (arith, sum_by-cons f x xs, h 0 x refl a, nothing f g xs b (λ p u e. h (suc p) u e))

  -- where one view has all shares, it has all that any has
  pub alone : (f g : V → ℕ) (views : List V) (port : ℕ) (v : V) → get_elem? views port ≡ some v → sum_by g views ≡ g v → ((p : ℕ) (u : V) → get_elem? views p ≡ some u → g u ≡ 0 → f u ≡ 0) → sum_by f views ≡ f v
  alone f g [] port v e s h = absurd (some-ne-none v (sym e))
  alone f g (x ∷ xs) zero v e s h =
      let is = some-injective x v e in
      let c = sum_by-cons g x xs in
      let d : g x ≡ g v = ap g is in
      let b : sum_by g xs ≡ 0 = omega arith in
      omega (arith, sum_by-cons f x xs, ap f is, nothing f g xs b (λ p u e. h (suc p) u e))
  alone f g (x ∷ xs) (suc port) v e s h =
      let c = sum_by-cons g x xs in
      let d = part g xs port v e in
      let a : g x ≡ 0 = omega arith in
      let b : sum_by g xs ≡ g v = omega arith in
      omega (arith, sum_by-cons f x xs, h 0 x refl a, alone f g xs port v e b (λ p u e. h (suc p) u e))

-- each weighs one
pub ones : {X : Type 0} (xs : List X) → sum_by (λ _. 1) xs ≡ length xs
ones [] = refl
ones (x ∷ xs) = omega (arith, sum_by-cons (λ _. 1) x xs, ones xs)
