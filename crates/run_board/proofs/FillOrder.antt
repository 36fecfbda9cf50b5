-- All tasks go into the queue in the order of their numbers.
use Rattle.std.proofs.Common.{◌≡◌, ℕ, zero, suc, ◌+◌, ◌<◌, List, [], ◌∷◌, ◌++◌, length, map, get_or, refl, sym, ap, ◌∙◌, arith}
use Rattle.std.specs.List.{range_with_len}
use Rattle.std.proofs.lemmas.List.{map_push, length-append, get_or_at, get_or-map}
use Rattle.std.proofs.lemmas.List.FromFn.{get_or-range_with_len}
use Rattle.run_board.specs.Tasks.{AreNumbered}

-- the next task to go has the number of those that went before it
pub next_to_fill : {T : Type 0} (number : T → ℕ) (all starts left : List T) (x : T) (rest : List T) → starts ++ left ≡ all → left ≡ x ∷ rest → AreNumbered number all → length starts ≡ number x
next_to_fill number all starts left x rest whole next numbered =
    let e : starts ++ x ∷ rest ≡ all = ap (λ l. starts ++ l) (sym next) ∙ whole in
    let k = length starts in
    let below : k < length all = omega (arith, ap length e, length-append starts (x ∷ rest)) in
    let here : get_or all k x ≡ x = ap (λ l. get_or l k x) (sym e) ∙ get_or_at starts x rest x k refl in
    omega (arith, get_or-map number all k x 0 below, ap number here, ap (λ l. get_or l k 0) numbered, get_or-range_with_len 0 (length all) k 0 below)

-- one more number, and one more task in the order of the numbers
pub range_push : (a n : ℕ) → range_with_len a (suc n) ≡ range_with_len a n ++ (a + n) ∷ []
range_push a zero = let e : a ≡ a + 0 = omega arith in ap (λ k. k ∷ []) e
range_push a (suc n) = let e : (a + 1) + n ≡ a + suc n = omega arith in ap (λ l. a ∷ l) (range_push (a + 1) n ∙ ap (λ k. range_with_len (a + 1) n ++ k ∷ []) e)

pub numbered_push : {T : Type 0} (number : T → ℕ) (xs : List T) (x : T) (n : ℕ) → map number xs ≡ range_with_len 0 n → number x ≡ n → map number (xs ++ x ∷ []) ≡ range_with_len 0 (n + 1)
numbered_push number xs x n e is =
    let z : n ≡ 0 + n = omega arith in
    let s : suc n ≡ n + 1 = omega arith in
    map_push number xs x ∙ ap (λ l. l ++ number x ∷ []) e ∙ ap (λ k. range_with_len 0 n ++ k ∷ []) (is ∙ z) ∙ sym (range_push 0 n) ∙ ap (range_with_len 0) s
