-- Calls in progress, the innermost last, as code keeps them.
use Rattle.std.proofs.Common.{◌≡◌, ℕ, ◌+◌, ◌-◌, ◌==◌, ◌<◌, Bool, true, false, List, [], ◌∷◌, ◌++◌, length, get_or, take, drop, reverse, refl, ap, sym, ◌∙◌, arith}
use Rattle.std.specs.Prelude.{Option, Some, None, unwrap_or, if◌then◌else◌}
use Rattle.std.proofs.lemmas.List.{take_more, take_all, reverse-append}
use Rattle.run_output.specs.Stack.{return_address, outside_of, after_return}

pub one_inside : (calls : List ℕ) (call : ℕ) → reverse (calls ++ call ∷ []) ≡ call ∷ reverse calls
one_inside calls call = reverse-append calls (call ∷ [])

pub front : (calls : List ℕ) (i : ℕ) → i < length calls → reverse (take (i + 1) calls) ≡ get_or calls i 0 ∷ reverse (take i calls)
front calls i h = ap reverse (take_more calls i 0 h) ∙ one_inside (take i calls) (get_or calls i 0)

-- no call from the i-th on returns to the address
pub none_more : (address : ℕ) (calls : List ℕ) (i j : ℕ) → j + 1 ≡ i → j < length calls → (return_address (get_or calls j 0) == address) ≡ false
    → outside_of address (reverse calls) ≡ outside_of address (reverse (take i calls)) → outside_of address (reverse calls) ≡ outside_of address (reverse (take j calls))
none_more address calls i j e h apart none =
    none ∙ ap (λ (k : ℕ). outside_of address (reverse (take k calls))) (sym e) ∙ ap (outside_of address) (front calls j h)
    ∙ ap (λ (b : Bool). if b then Some (reverse (take j calls)) else outside_of address (reverse (take j calls))) apart

-- the j-th call returns to the address, and none after it
pub left_at : (address : ℕ) (calls : List ℕ) (i j : ℕ) → j + 1 ≡ i → j < length calls → (return_address (get_or calls j 0) == address) ≡ true
    → outside_of address (reverse calls) ≡ outside_of address (reverse (take i calls)) → reverse (take j calls) ≡ after_return address (reverse calls)
left_at address calls i j e h here none =
    sym (ap (λ (o : Option (List ℕ)). unwrap_or o (drop 1 (reverse calls)))
    (none ∙ ap (λ (k : ℕ). outside_of address (reverse (take k calls))) (sym e) ∙ ap (outside_of address) (front calls j h)
    ∙ ap (λ (b : Bool). if b then Some (reverse (take j calls)) else outside_of address (reverse (take j calls))) here))

without_innermost : (calls : List ℕ) → reverse (take (length calls - 1) calls) ≡ drop 1 (reverse calls)
without_innermost [] = refl
without_innermost (call ∷ calls) =
    let k = length (call ∷ calls) - 1 in
    let all : take (k + 1) (call ∷ calls) ≡ call ∷ calls = take_all (k + 1) (call ∷ calls) (omega arith) in
    ap (λ (xs : List ℕ). drop 1 xs) (sym (front (call ∷ calls) k (omega arith)) ∙ ap reverse all)

-- none returns to the address
pub left_of_all : (address : ℕ) (calls : List ℕ) → outside_of address (reverse calls) ≡ None → reverse (take (length calls - 1) calls) ≡ after_return address (reverse calls)
left_of_all address calls none = without_innermost calls ∙ sym (ap (λ (o : Option (List ℕ)). unwrap_or o (drop 1 (reverse calls))) none)
