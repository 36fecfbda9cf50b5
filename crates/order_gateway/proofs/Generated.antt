-- The bytes of an input, one after another.
use Rattle.std.proofs.Common.{◌≡◌, ℕ, zero, suc, ◌+◌, ◌-◌, ◌<◌, ◌≤◌, ◌^◌, List, [], ◌∷◌, ◌++◌, length, refl, ap, ap₂, ◌∙◌, arith}
use Rattle.std.proofs.lemmas.List.{append_assoc}
use Rattle.order_gateway.specs.Input.{next_state, byte_of, bytes_after, input_length, input}

-- one more byte goes from those that are left to those so far
pub one_more : (n i s state byte : ℕ) (front items whole : List ℕ) → i < n
    → state ≡ next_state s → byte ≡ byte_of state → items ≡ front ++ byte ∷ []
    → front ++ bytes_after (n - i) s ≡ whole → items ++ bytes_after (n - (i + 1)) state ≡ whole
one_more n i s state byte front items whole inside state_is byte_is items_is before =
    let left : suc (n - (i + 1)) ≡ n - i = omega arith in
    let next = byte_of (next_state s) in
    ap₂ (λ xs t. xs ++ bytes_after (n - (i + 1)) t) (items_is ∙ ap (λ b. front ++ b ∷ []) (byte_is ∙ ap byte_of state_is)) state_is
    ∙ append_assoc front (next ∷ []) (bytes_after (n - (i + 1)) (next_state s))
    ∙ ap (λ k. front ++ bytes_after k s) left
    ∙ before

length-bytes_after : (n s : ℕ) → length (bytes_after n s) ≡ n
length-bytes_after zero s = refl
length-bytes_after (suc n) s = let rest = length-bytes_after n (next_state s) in omega (arith, rest)

-- an input is short
pub length-input : (seed steps : ℕ) → steps ≤ 2000000 → length (input seed steps) ≤ 2 ^ 26
length-input seed steps few = let all = length-bytes_after (input_length steps) seed in omega (arith, all)
