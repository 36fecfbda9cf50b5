-- A table of entries, read from the front.
use Rattle.std.proofs.Common.{◌≡◌, ℕ, suc, ◌+◌, ◌-◌, ◌<◌, Bool, true, false, not, ◌||◌, cond, List, [], ◌∷◌, length, refl, ap, sym, ◌∙◌, map, arith}
use Rattle.std.proofs.lemmas.Bool.Decides.{nat_tests}
use Rattle.std.specs.Prelude.{◌==◌}
use Rattle.std.specs.List.{filter, list_any, range_with_len}

-- the entries from a up to b begin with x, the one of number a
pub map_range_next : {X : Type 0} (f : ℕ → X) (a b : ℕ) (x : X) → a < b → x ≡ f a → map f (range_with_len a (b - a)) ≡ x ∷ map f (range_with_len (a + 1) (b - (a + 1)))
map_range_next f a b x below is =
    let n : b - a ≡ suc (b - (a + 1)) = omega arith in
    ap (λ k. map f (range_with_len a k)) n ∙ ap (λ y. y ∷ map f (range_with_len (a + 1) (b - (a + 1)))) (sym is)

-- no element passes where the list of those that pass is empty
pub length-filter-is_zero : {X : Type 0} (p : X → Bool) (xs : List X) → not (list_any p xs) ≡ (length (filter p xs) == 0)
length-filter-is_zero p [] = refl
length-filter-is_zero p (x ∷ xs) = by_head (p x) (length-filter-is_zero p xs) where
  is_none : (n : ℕ) → false ≡ (suc n == 0)
  is_none n = grind (arith, nat_tests)

  by_head : (b : Bool) → not (list_any p xs) ≡ (length (filter p xs) == 0) → not (b || list_any p xs) ≡ (length (cond b (x ∷ filter p xs) (filter p xs)) == 0)
  by_head true rest = is_none (length (filter p xs))
  by_head false rest = rest
