-- Slices in a vector, as the lists that they show.
use Rattle.std.proofs.Common.{◌≡◌, ℕ, ◌-◌, ◌<◌, true, false, List, [], length, get_or, set, map, take, drop, min, Bor, sym, ap, subst, ◌∙◌, arith}
use Rattle.std.proofs.lemmas.List.{map-set, get_or-map, length-map, take_rest, drop_min}
use Rattle.std.proofs.lemmas.List.Folds.{list_any_at}
use Rattle.std.proofs.lemmas.Bool.{eqb-false, lt-ltb}
use Rattle.std.specs.Prelude.{nat_lt, ◌==◌}
use Rattle.log_model.specs.Faults.{are_left}

-- what a slice shows
abbrev pub shown : Bor (List ℕ) → List ℕ
shown s = s.now

pub skip_is : (items : List (Bor (List ℕ))) (left : List (List ℕ)) (k n m : ℕ) (x y : Bor (List ℕ)) → map shown items ≡ left → k < length items → x ≡ get_or items k x → m ≡ min n (length x.now)
    → y.now ≡ take (length x.now - m) (drop m x.now) → map shown (set items k y) ≡ set left k (drop n (get_or left k []))
skip_is items left k n m x y view below here least is =
    let same : get_or (map shown items) k [] ≡ x.now = get_or-map shown items k x [] below ∙ ap shown (sym here) in
    let rest : y.now ≡ drop n x.now = is ∙ take_rest x.now m ∙ ap (λ (i : ℕ). drop i x.now) least ∙ drop_min n x.now in
    subst (λ (left : List (List ℕ)). map shown (set items k y) ≡ set left k (drop n (get_or left k []))) view
    (map-set shown items k y ∙ ap (set (map shown items) k) (rest ∙ ap (drop n) (sym same)))

-- a slice that shows something
pub some_left : (items : List (Bor (List ℕ))) (left : List (List ℕ)) (i : ℕ) (d : Bor (List ℕ)) → map shown items ≡ left → i < length items → false ≡ (length (get_or items i d).now == 0) → true ≡ are_left left
some_left items left i d view below some =
    let same : get_or (map shown items) i [] ≡ (get_or items i d).now = get_or-map shown items i d [] below in
    let long = eqb-false (length (get_or items i d).now) 0 (sym some) in
    let more : nat_lt 0 (length (get_or (map shown items) i [])) ≡ true = lt-ltb 0 (length (get_or (map shown items) i [])) (omega (arith, long, ap length same)) in
    let here : are_left (map shown items) ≡ true = list_any_at (λ bytes. nat_lt 0 (length bytes)) (map shown items) i [] (omega (arith, below, length-map items shown)) more in
    sym here ∙ ap are_left view
