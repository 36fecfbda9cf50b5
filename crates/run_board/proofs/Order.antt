-- Finished tasks that have all numbers below n, each once, stand in the order of their numbers once they are sorted.
use Rattle.std.proofs.Common.{◌≡◌, ℕ, zero, suc, ◌+◌, ◌-◌, ◌<◌, ◌≤◌, List, [], ◌∷◌, length, map, get_or, refl, sym, ap, ◌∙◌, subst, arith, All}
use Rattle.std.specs.List.{sum_by, range_with_len, slice_get, AllZip}
use Rattle.std.specs.List.Sorted.{IsPermutation, IsNonDecreasingBy}
use Rattle.std.proofs.lemmas.List.Sums.{sum_by-cons}
use Rattle.std.proofs.lemmas.List.Sorted.{sum_by-IsPermutation, All-permutation}
use Rattle.std.proofs.lemmas.List.Elements.{All-head, All-tail}
use Rattle.std.proofs.lemmas.Option.{same_Some}
use Rattle.lists.proofs.Lists.{same-heads, same-tails}
use Rattle.run_board.specs.declared.view.WorkerView.{WorkerView}
use Rattle.run_board.specs.Tasks.{TaskWords, AreNumbered, IsLed}
use Rattle.run_board.specs.Rule.{view_weight, whole_weight}
use Rattle.run_board.specs.Workers.{Keeps}

-- no number of a range lies below its start
none_below : (c a n : ℕ) → c ≤ a → sum_by (λ z. c - z) (range_with_len a n) ≡ 0
none_below c a zero h = refl
none_below c a (suc n) h = omega (arith, sum_by-cons (λ z. c - z) a (range_with_len (a + 1) n), none_below c (a + 1) n (omega arith))

module _ {T : Type 0} (number : T → ℕ) where
  sum_by-numbers : (h : ℕ → ℕ) (xs : List T) → sum_by h (map number xs) ≡ sum_by (λ t. h (number t)) xs
  sum_by-numbers h [] = refl
  sum_by-numbers h (x ∷ xs) = omega (arith, sum_by-cons h (number x) (map number xs), sum_by-cons (λ t. h (number t)) x xs, sum_by-numbers h xs)

  none_low : (c : ℕ) (xs : List T) → ((k : ℕ) (d : T) → k < length xs → c ≤ number (get_or xs k d)) → sum_by (λ t. c - number t) xs ≡ 0
  none_low c [] h = refl
  none_low c (x ∷ xs) h = let a : c ≤ number x = h 0 x (omega arith) in omega (arith, sum_by-cons (λ t. c - number t) x xs, none_low c xs (λ k d lt. h (suc k) d (omega arith)))

  -- sorted tasks whose numbers weigh as much as a range, however a number is weighed, have the numbers of that range
  numbers_in_order : (xs : List T) (a n : ℕ) → IsNonDecreasingBy number xs → ((h : ℕ → ℕ) → sum_by (λ t. h (number t)) xs ≡ sum_by h (range_with_len a n)) → map number xs ≡ range_with_len a n
  numbers_in_order [] a zero up w = refl
  numbers_in_order [] a (suc n) up w = let e = w (λ _. 1) in absurd (omega (arith, sum_by-cons (λ (z : ℕ). 1) a (range_with_len (a + 1) n)))
  numbers_in_order (x ∷ xs) a zero up w = let e = w (λ _. 1) in absurd (omega (arith, sum_by-cons (λ (t : T). 1) x xs))
  numbers_in_order (x ∷ xs) a (suc n) up w =
      let low = w (λ z. a - z) in
      let l1 = none_below a a (suc n) (omega arith) in
      let l2 = sum_by-cons (λ t. a - number t) x xs in
      let above : a ≤ number x = omega arith in
      let high = w (λ z. suc a - z) in
      let h1 = sum_by-cons (λ z. suc a - z) a (range_with_len (a + 1) n) in
      let h2 = none_below (suc a) (a + 1) n (omega arith) in
      let below : suc a ≤ number x → ⊥ = λ far. let z = none_low (suc a) (x ∷ xs) (λ k d lt. let u : number x ≤ number (get_or (x ∷ xs) k d) = up 0 k d (omega arith) lt in omega arith) in omega arith in
      let is : number x ≡ a = omega (arith, below) in
      let rest = numbers_in_order xs (a + 1) n (λ i j d le lt. up (suc i) (suc j) d (omega arith) (omega arith))
      (λ h. let e = w h in let e1 = sum_by-cons (λ t. h (number t)) x xs in let e2 = sum_by-cons h a (range_with_len (a + 1) n) in let e3 = ap h is in omega arith) in
      λ k. is k ∷ rest k

module _ {T : Type 0} (words : TaskWords T) where
  -- tasks in the order of their numbers are led from the starts one by one
  led_in_order : (starts news olds : List T) (a : ℕ) → map words.number news ≡ range_with_len a (length olds) → ((i : ℕ) → slice_get starts (a + i) ≡ slice_get olds i)
      → All (IsLed words starts) news → AllZip words.led_from news olds
  led_in_order starts [] [] a e at all = tt
  led_in_order starts (x ∷ xs) (y ∷ ys) a e at all =
      let range = range_with_len (a + 1) (length ys) in
      let one = All-head (IsLed words starts) x xs all in
      let here : words.number x ≡ a + 0 = let h = same-heads (words.number x) a (map words.number xs) range e in omega arith in
      let start_is : one.0 ≡ y = same_Some one.0 y (sym one.1 ∙ ap (slice_get starts) here ∙ at 0) in (
        subst (λ s. words.led_from x s) start_is one.2,
        led_in_order starts xs ys (a + 1) (same-tails (words.number x) a (map words.number xs) range e) (λ i. let n : (a + 1) + i ≡ a + suc i = omega arith in ap (slice_get starts) n ∙ at (suc i)) (All-tail (IsLed words starts) x xs all),
      )
  led_in_order starts news olds a e at all = absurd cc

  -- what the board answers, of the tasks handed in
  pub record IsAnswer (starts tasks : List T) : Type 0 where
    pub order : map words.number tasks ≡ map words.number starts
    pub are_ended : All words.ended tasks
    pub are_led : AllZip words.led_from tasks starts

  pub is_answer : (v : WorkerView T) (finished tasks starts : List T) → Keeps words v finished → ((h : ℕ → ℕ) → view_weight h v ≡ whole_weight (length starts) h) → v.starts ≡ starts → AreNumbered words.number starts
      → IsPermutation finished tasks → IsNonDecreasingBy words.number tasks → IsAnswer starts tasks
  is_answer v finished tasks starts k whole same numbered p up =
      let weights : (h : ℕ → ℕ) → sum_by (λ t. h (words.number t)) tasks ≡ sum_by h (range_with_len 0 (length starts)) = λ h.
      let e0 = whole h in
      let e5 = ap (sum_by h) k.numbers in
      let e6 = sum_by-numbers words.number h finished in
      let e7 = sum_by-IsPermutation (λ t. h (words.number t)) finished tasks p in
      omega arith in
      let numbers = numbers_in_order words.number tasks 0 (length starts) up weights in
      let led = All-permutation (IsLed words v.starts) finished tasks p k.are_led in
      record {
        order = numbers ∙ sym numbered;
        are_ended = All-permutation words.ended finished tasks p k.are_ended;
        are_led = led_in_order starts tasks starts 0 numbers (λ i. let n : 0 + i ≡ i = omega arith in ap (slice_get starts) n) (subst (λ s. All (IsLed words s) tasks) same led);
      }
