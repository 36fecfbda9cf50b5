-- Epochs that get shorter: how many they are, when the k-th ends, and that they are a cutting.
use Rattle.std.proofs.Common.{◌≡◌, ℕ, zero, suc, ◌+◌, ◌-◌, ◌*◌, ◌/◌, ◌<◌, ◌≤◌, ◌⊎◌, inl, inr, min, max, Some, ◌∷◌, [], length, slice_get, refl, ap, ◌∙◌, arith}
use Rattle.std.specs.Int.{div_ceil}
use Rattle.std.proofs.lemmas.Grind.{div_ceil_times}
use Rattle.std.proofs.lemmas.Nat.{le-div, mul-le}
use Rattle.std.proofs.lemmas.List.FromFn.{length-map-range_with_len, get_or-map-range_with_len}
use Rattle.std.proofs.lemmas.Option.{slice_get-get_or}
use Rattle.epoch_model.specs.Cutting.{RisesTo, IsCutting}
use Rattle.epoch_model.specs.ByLength.{cut_at, lengths_of_last, shrinking_times}
use Rattle.epoch_cut.specs.CutLaws.{ShrinkingTimesAreCutting}

pub shrinking-counted : (epochs steps by : ℕ) → length (shrinking_times epochs steps by) ≡ epochs
unfolding shrinking_times
shrinking-counted epochs steps by =
    length-map-range_with_len (λ k. cut_at steps by (lengths_of_last epochs - lengths_of_last (epochs - k))) 1 epochs

pub shrinking-multiples : (epochs steps by k : ℕ) → 1 ≤ k → k ≤ epochs
    → slice_get (0 ∷ shrinking_times epochs steps by) k ≡ Some (cut_at steps by (lengths_of_last epochs - lengths_of_last (epochs - k)))
unfolding shrinking_times
shrinking-multiples epochs steps by zero some few = absurd (omega (arith, some))
shrinking-multiples epochs steps by (suc j) some few =
    slice_get-get_or (shrinking_times epochs steps by) j 0 (omega (arith, shrinking-counted epochs steps by, few))
    ∙ ap Some (get_or-map-range_with_len (λ k. cut_at steps by (lengths_of_last epochs - lengths_of_last (epochs - k))) 1 epochs j (suc j) 0 (omega (arith, few)) (omega arith))

-- by the number of epochs: where the length is the steps by all lengths, rounded up, and there are steps for more than one epoch
rises : (n s q : ℕ) → 1 ≤ n → n ≤ 8 → 0 < s → min 1 (n - 1) * 16384 ≤ s → s ≤ q * lengths_of_last n → q * lengths_of_last n < s + lengths_of_last n
    → RisesTo 0 (shrinking_times n s (max 1 q)) s
unfolding shrinking_times
rises zero s q some most some_steps least above below = absurd (omega (arith, some))
rises (suc zero) s q some most some_steps least above below = (omega (arith, some_steps, least, above, below), omega (arith, some_steps, least, above, below))
rises (suc (suc zero)) s q some most some_steps least above below = (omega (arith, some_steps, least, above, below), (omega (arith, some_steps, least, above, below), omega (arith, some_steps, least, above, below)))
rises (suc (suc (suc zero))) s q some most some_steps least above below = (omega (arith, some_steps, least, above, below), (omega (arith, some_steps, least, above, below), (omega (arith, some_steps, least, above, below), omega (arith, some_steps, least, above, below))))
rises (suc (suc (suc (suc zero)))) s q some most some_steps least above below = (omega (arith, some_steps, least, above, below), (omega (arith, some_steps, least, above, below), (omega (arith, some_steps, least, above, below), (omega (arith, some_steps, least, above, below), omega (arith, some_steps, least, above, below)))))
rises (suc (suc (suc (suc (suc zero))))) s q some most some_steps least above below = (omega (arith, some_steps, least, above, below), (omega (arith, some_steps, least, above, below), (omega (arith, some_steps, least, above, below), (omega (arith, some_steps, least, above, below), (omega (arith, some_steps, least, above, below), omega (arith, some_steps, least, above, below))))))
rises (suc (suc (suc (suc (suc (suc zero)))))) s q some most some_steps least above below = (omega (arith, some_steps, least, above, below), (omega (arith, some_steps, least, above, below), (omega (arith, some_steps, least, above, below), (omega (arith, some_steps, least, above, below), (omega (arith, some_steps, least, above, below), (omega (arith, some_steps, least, above, below), omega (arith, some_steps, least, above, below)))))))
rises (suc (suc (suc (suc (suc (suc (suc zero))))))) s q some most some_steps least above below = (omega (arith, some_steps, least, above, below), (omega (arith, some_steps, least, above, below), (omega (arith, some_steps, least, above, below), (omega (arith, some_steps, least, above, below), (omega (arith, some_steps, least, above, below), (omega (arith, some_steps, least, above, below), (omega (arith, some_steps, least, above, below), omega (arith, some_steps, least, above, below))))))))
rises (suc (suc (suc (suc (suc (suc (suc (suc zero)))))))) s q some most some_steps least above below = (omega (arith, some_steps, least, above, below), (omega (arith, some_steps, least, above, below), (omega (arith, some_steps, least, above, below), (omega (arith, some_steps, least, above, below), (omega (arith, some_steps, least, above, below), (omega (arith, some_steps, least, above, below), (omega (arith, some_steps, least, above, below), (omega (arith, some_steps, least, above, below), omega (arith, some_steps, least, above, below)))))))))
rises (suc (suc (suc (suc (suc (suc (suc (suc (suc n))))))))) s q some most some_steps least above below = absurd (omega (arith, most))

least_steps : (n s : ℕ) → (n ≡ 1) ⊎ (16384 ≤ s) → min 1 (n - 1) * 16384 ≤ s
least_steps n s (inl one) = rw one (omega arith)
least_steps n s (inr many) = omega (arith, many)

some_lengths : (n : ℕ) → 1 ≤ n → 1 ≤ lengths_of_last n
some_lengths n some =
    let two : 2 ≤ n * (n + 1) = omega (arith, mul-le 1 2 n (n + 1) some (omega (arith, some))) in
    le-div 1 (n * (n + 1) * (n + 2)) 6 (omega arith) (omega (arith, mul-le 2 3 (n * (n + 1)) (n + 2) two (omega (arith, some))))

pub shrinking_times_cutting : ShrinkingTimesAreCutting
unfolding shrinking_times
shrinking_times_cutting epochs zero some most (inl one) = rw one (ap (λ t. t ∷ []) (omega arith))
shrinking_times_cutting epochs zero some most (inr many) = absurd (omega (arith, many))
shrinking_times_cutting epochs (suc n) some most more =
    let ceil = div_ceil_times (suc n) (lengths_of_last epochs) (some_lengths epochs some) in
    rises epochs (suc n) (div_ceil (suc n) (lengths_of_last epochs)) some most (omega arith) (least_steps epochs (suc n) more) ceil.0 ceil.1
