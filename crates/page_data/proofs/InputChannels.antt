-- Lists made channel by channel. Crates above cite `flat_map-one_more`.
use Rattle.std.proofs.Common.{◌≡◌, ◌∙◌, ap, arith, ℕ, zero, suc, ◌+◌, ◌++◌, List, [], ◌∷◌, append-nil}
use Rattle.std.specs.List.{flat_map, range_with_len}
use Rattle.std.proofs.lemmas.Grind.{flat_map-append}

one_more : (a n : ℕ) → range_with_len a (n + 1) ≡ range_with_len a n ++ (a + n) ∷ []
one_more a zero =
    let here : a ≡ a + 0 = omega arith in
    ap (λ (k : ℕ). k ∷ []) here
one_more a (suc n) =
    let there : a + 1 + n ≡ a + suc n = omega arith in
    let next : suc n + 1 ≡ suc (n + 1) = omega arith in
    ap (range_with_len a) next
    ∙ ap (λ (xs : List ℕ). a ∷ xs) (one_more (a + 1) n)
    ∙ ap (λ (k : ℕ). a ∷ range_with_len (a + 1) n ++ k ∷ []) there

-- what the first numbers give, and then what the next one does
pub flat_map-one_more : {X : Type 0} (f : ℕ → List X) (n : ℕ) → flat_map f (range_with_len 0 (n + 1)) ≡ flat_map f (range_with_len 0 n) ++ f n
flat_map-one_more {X} f n =
    let last : 0 + n ≡ n = omega arith in
    let before = flat_map f (range_with_len 0 n) in
    ap (flat_map f) (one_more 0 n ∙ ap (λ (k : ℕ). range_with_len 0 n ++ k ∷ []) last)
    ∙ flat_map-append f (range_with_len 0 n) (n ∷ [])
    ∙ ap (λ (xs : List X). before ++ xs) (append-nil (f n))
