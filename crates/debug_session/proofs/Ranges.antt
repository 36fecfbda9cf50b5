-- What a counting loop appends.
use Rattle.std.proofs.Common.{◌≡◌, ℕ, zero, suc, ◌+◌, List, [], ◌∷◌, ◌++◌, map, sym, ap, ◌∙◌, arith}
use Rattle.std.specs.List.{flat_map, range_with_len}
use Rattle.std.proofs.lemmas.List.{flat_map_more}
use Rattle.std.proofs.lemmas.List.FromFn.{map-range_with_len_more}

-- the numbers from a on end in the last of them
last : (n a : ℕ) → range_with_len a (suc n) ≡ range_with_len a n ++ (a + n) ∷ []
last zero a = let e : a ≡ a + 0 = omega arith in ap (λ (x : ℕ). x ∷ []) e
last (suc n) a =
    let e : a + 1 + n ≡ a + suc n = omega arith in
    ap (λ (xs : List ℕ). a ∷ xs) (last n (a + 1) ∙ ap (λ (x : ℕ). range_with_len (a + 1) n ++ x ∷ []) e)

one_more : (n : ℕ) → range_with_len 0 n ++ n ∷ [] ≡ range_with_len 0 (n + 1)
one_more n =
    let e : n + 1 ≡ suc n = omega arith in
    let this : 0 + n ≡ n = omega arith in
    sym (ap (range_with_len 0) e ∙ last n 0 ∙ ap (λ (x : ℕ). range_with_len 0 n ++ x ∷ []) this)

-- what the next number gives goes behind what those before it give
pub flat_map_next : (f : ℕ → List ℕ) (n : ℕ) (items more : List ℕ) → items ≡ flat_map f (range_with_len 0 n)
    → more ≡ items ++ f n → more ≡ flat_map f (range_with_len 0 (n + 1))
flat_map_next f n items more before this =
    this ∙ ap (λ (bytes : List ℕ). bytes ++ f n) before ∙ flat_map_more f [] (range_with_len 0 n) n
    ∙ ap (flat_map f) (one_more n)

-- the same, behind what was there, of what numbers are mapped to
pub flat_map_next_of : (f : List ℕ → List ℕ) (g : ℕ → List ℕ) (n : ℕ) (front items more : List ℕ)
    → items ≡ front ++ flat_map f (map g (range_with_len 0 n)) → more ≡ items ++ f (g n)
    → more ≡ front ++ flat_map f (map g (range_with_len 0 (n + 1)))
flat_map_next_of f g n front items more before this =
    this ∙ ap (λ (bytes : List ℕ). bytes ++ f (g n)) before ∙ flat_map_more f front (map g (range_with_len 0 n)) (g n)
    ∙ ap (λ (texts : List (List ℕ)). front ++ flat_map f texts)
    (let this : 0 + n ≡ n = omega arith in sym (map-range_with_len_more g 0 n n this))
