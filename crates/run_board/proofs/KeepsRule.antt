-- Each step of a worker keeps the board's rule.
use Rattle.std.proofs.Common.{◌≡◌, ℕ, suc, ◌+◌, ◌<◌, ◌≤◌, Option, Some, None, List, [], ◌∷◌, ◌++◌, length, set, sym, refl, ap, ◌∙◌, subst, arith, length-append, ⊎_elim, inl, inr}
use Rattle.std.specs.List.{sum_by, range_with_len, slice_get}
use Rattle.std.proofs.lemmas.List.Sums.{sum_by-cons, sum_by-append}
use Rattle.std.proofs.lemmas.List.FromFn.{length-range_with_len}
use Rattle.std.proofs.lemmas.List.Elements.{All-nil, All-cons, All-head, All-tail, All-push, All-set, All-weaker}
use Rattle.crossbeam_queue.specs.Fifo.{Pushes, Pops, Forks, Merges, Learns}
use Rattle.run_board.specs.declared.view.WorkerView.{WorkerView}
use Rattle.run_board.specs.Tasks.{TaskWords, IsLed, IsWaiting}
use Rattle.run_board.specs.Views.{whole_share, list_of, taken, opening, after_fill, after_pop, after_put_back, after_split, newcomer, joined, spent}
use Rattle.run_board.specs.Rule.{view_weight, whole_weight, Knows, Holds, HasRoom, HasRest}
use Rattle.run_board.proofs.Lists.{get_longer, get_last, All-at, All-changed}
use Rattle.run_board.proofs.FillOrder.{range_push}
use Rattle.run_board.proofs.Sums.{total_set, part, two_parts, alone, ones}

-- the weight of a view, by its parts
weight_of : (h : ℕ → ℕ) (held : Option ℕ) (done : List ℕ) → sum_by h (done ++ list_of held) ≡ sum_by h done + sum_by h (list_of held)
weight_of h held done = sum_by-append h done (list_of held)

-- one number more
whole_push : (h : ℕ → ℕ) (n : ℕ) → whole_weight (n + 1) h ≡ whole_weight n h + h n
whole_push h n =
    let one : n + 1 ≡ suc n = omega arith in
    let last : 0 + n ≡ n = omega arith in
    omega (arith, ap (λ k. whole_weight k h) one, ap (sum_by h) (range_push 0 n), sum_by-append h (range_with_len 0 n) ((0 + n) ∷ []), sum_by-cons h (0 + n) [], ap h last)

abbrev share_count : {T : Type 0} → WorkerView T → ℕ
share_count v = v.shares

module _ {T : Type 0} where
  -- a worker with a share knows what it knew
  still_knows : (starts : List T) (v w : WorkerView T) → Knows starts v → 0 < v.shares → 0 < w.shares → w.starts ≡ v.starts → Knows starts w
  still_knows starts v w k was is same = record { without = λ none. absurd (omega arith); with_share = λ _. same ∙ k.with_share was }

module _ {T : Type 0} (words : TaskWords T) where
  abbrev Rule : List T → List (WorkerView T) → Type 0
  Rule = Holds words

  abbrev Waiting : List T → T → Type 0
  Waiting = IsWaiting words

  abbrev number : T → ℕ
  number = words.number

  pub begins : Rule [] (opening ∷ [])
  begins = record {
    starts = [];
    each_once = λ h. sum_by-cons (view_weight {T = T} h) (opening {T = T}) [];
    all_shares = omega (arith, sum_by-cons share_count (opening {T = T}) []);
    waiting = All-nil (Waiting []);
    known = All-cons (Knows {T = T} []) opening [] (record { without = λ none. absurd (omega arith); with_share = λ _. refl }) (All-nil (Knows []));
  }

  -- a task that was handed in goes into the queue
  pub fills : (n port : ℕ) (v : WorkerView T) (x : T) → v.shares ≡ whole_share → length v.starts ≡ number x → words.led_from x x
      → Pushes Rule n port v x (λ w. w ≡ after_fill v x)
  fills n port v x all next led queue views space r at =
      let w : WorkerView T = after_fill v x in
      let more : List T = r.starts ++ x ∷ [] in
      let same : v.starts ≡ r.starts = (All-at (Knows r.starts) views port v at r.known).with_share (omega arith) in
      let place : length r.starts ≡ number x = ap length (sym same) ∙ next in
      let last = get_last r.starts (number x) x place in
      let older : (t : T) → Waiting r.starts t → Waiting more t = λ t l. record {
        is_led = (l.is_led.0, get_longer r.starts (x ∷ []) (number t) l.is_led.0 l.is_led.1, l.is_led.2);
        is_open = ⊎_elim (λ (unturned : slice_get r.starts (number t) ≡ Some t). inl (get_longer r.starts (x ∷ []) (number t) t unturned)) (λ (open' : ¬ words.ended t). inr open') l.is_open;
      } in (
        w,
        record {
          starts = more;
          each_once = λ h.
              let a = r.each_once h in
              let s = total_set (view_weight h) views port v w at in
              let i = sum_by-append (λ t. h (number t)) queue (x ∷ []) in
              let k = sum_by-cons (λ t. h (number t)) x [] in
              let longer = ap (λ m. whole_weight m h) (length-append r.starts (x ∷ [])) in
              let one = whole_push h (length r.starts) in
              let own = ap h place in
              omega arith;
          all_shares = (let s = total_set share_count views port v w at in let a = r.all_shares in omega arith);
          waiting = All-push (Waiting more) queue x (All-weaker (Waiting r.starts) (Waiting more) older queue r.waiting) (record { is_led = (x, last, led); is_open = inl last });
          known = All-changed (Knows more) views port w (record { without = λ none. absurd (omega arith); with_share = λ _. ap (λ l. l ++ x ∷ []) same }) (λ j u other e.
              let apart = two_parts share_count views j port u v spent refl other e at in
              let a = r.all_shares in
              record { without = (All-at (Knows r.starts) views j u e r.known).without; with_share = λ some_share. absurd (omega arith) });
        },
        refl,
      )

  -- there is room for the tasks that a worker has
  pub has_room : (port : ℕ) (v : WorkerView T) → 0 < v.shares → Learns Rule port v (HasRoom v)
  has_room port v works queue views r at =
      let a = r.each_once (λ _. 1) in
      let i : sum_by (λ (t : T). 1) queue ≡ length queue = ones queue in
      let m = part (view_weight (λ _. 1)) views port v at in
      let k = ones (taken v) in
      let n = ones (range_with_len 0 (length r.starts)) in
      let l = length-range_with_len 0 (length r.starts) in
      let known = ap length ((All-at (Knows r.starts) views port v at r.known).with_share works) in
      omega arith

  -- the worker with all shares has all numbers that aren't in the queue
  pub has_rest : (port : ℕ) (v : WorkerView T) → Learns Rule port v (HasRest number v)
  has_rest port v queue views r at all h =
      let mine = alone (view_weight h) share_count views port v at (r.all_shares ∙ sym all) (λ p u e none. ap (sum_by h) ((All-at (Knows r.starts) views p u e r.known).without none)) in
      let a = r.each_once h in
      let known = ap (λ (l : List T). whole_weight (length l) h) ((All-at (Knows r.starts) views port v at r.known).with_share (omega arith)) in
      omega arith

  -- a task leaves the queue
  pub takes : (port : ℕ) (v : WorkerView T) → 0 < v.shares
      → Pops Rule port v (λ x w. (w ≡ after_pop v (number x)) × IsLed words v.starts x × (length (taken w) ≤ length v.starts))
  takes port v works x queue views r at =
      let w : WorkerView T = after_pop v (number x) in
      let mine = All-at (Knows r.starts) views port v at r.known in
      let led : IsLed words r.starts x = (All-head (Waiting r.starts) x queue r.waiting).is_led in
      let before = has_room port v works (x ∷ queue) views r at in
      let longer = length-append (taken v) (list_of (Some (number x))) in (
        w,
        record {
          starts = r.starts;
          each_once = λ h.
              let a = r.each_once h in
              let s = total_set (view_weight h) views port v w at in
              let i = sum_by-cons (λ t. h (number t)) x queue in
              let after = weight_of h (Some (number x)) (taken v) in
              let c = sum_by-cons h (number x) [] in
              omega arith;
          all_shares = (let s = total_set share_count views port v w at in let a = r.all_shares in omega arith);
          waiting = All-tail (Waiting r.starts) x queue r.waiting;
          known = All-set (Knows r.starts) views port w (still_knows r.starts v w mine works works refl) r.known;
        },
        (refl, subst (λ s. IsLed words s x) (sym (mine.with_share works)) led, omega arith),
      )

  -- the task that a worker holds goes back into the queue
  pub puts_back : (n port : ℕ) (v : WorkerView T) (x : T) → v.held ≡ Some (number x) → 0 < v.shares → IsLed words v.starts x → ¬ words.ended x
      → Pushes Rule n port v x (λ w. w ≡ after_put_back v)
  puts_back n port v x held works led open' queue views space r at =
      let w : WorkerView T = after_put_back v in
      let mine = All-at (Knows r.starts) views port v at r.known in (
        w,
        record {
          each_once = λ h.
              let a = r.each_once h in
              let s = total_set (view_weight h) views port v w at in
              let i = sum_by-append (λ t. h (number t)) queue (x ∷ []) in
              let k = sum_by-cons (λ t. h (number t)) x [] in
              let before = weight_of h v.held v.done in
              let after = weight_of h None v.done in
              let g = ap (λ o. sum_by h (list_of o)) held in
              let c = sum_by-cons h (number x) [] in
              omega arith;
          all_shares = (let s = total_set share_count views port v w at in let a = r.all_shares in omega arith);
          starts = r.starts;
          waiting = All-push (Waiting r.starts) queue x r.waiting (record { is_led = subst (λ s. IsLed words s x) (mine.with_share works) led; is_open = inr open' });
          known = All-set (Knows r.starts) views port w (still_knows r.starts v w mine works works refl) r.known;
        },
        refl,
      )

  -- a share goes to a new worker
  pub splits : (port : ℕ) (v : WorkerView T) → 1 < v.shares → Forks Rule port v (after_split v) (newcomer v)
  splits port v more queue views r at =
      let w : WorkerView T = after_split v in
      let n : WorkerView T = newcomer v in
      let vs : List (WorkerView T) = set views port w in
      let mine = All-at (Knows r.starts) views port v at r.known in
      let works : 0 < v.shares = omega arith in
      record {
        each_once = λ h.
            let a = r.each_once h in
            let s = total_set (view_weight h) views port v w at in
            let i = sum_by-append (view_weight h) vs (n ∷ []) in
            let k = sum_by-cons (view_weight h) n [] in
            omega arith;
        all_shares = (let s = total_set share_count views port v w at in
            let i = sum_by-append share_count vs (n ∷ []) in
            let k = sum_by-cons share_count n [] in
            let a = r.all_shares in
            omega arith);
        starts = r.starts;
        waiting = r.waiting;
        known = All-push (Knows r.starts) vs n (All-set (Knows r.starts) views port w (still_knows r.starts v w mine works (omega arith) refl) r.known) (still_knows r.starts v n mine works (omega arith) refl);
      }

  -- one worker takes over what another has
  pub joins : (port : ℕ) (v : WorkerView T) (other : ℕ) (u : WorkerView T) → 0 < v.shares → Merges Rule port v other u (joined v u) spent
  joins port v other u works queue views r at two at' =
      let w : WorkerView T = joined v u in
      let vs : List (WorkerView T) = set views port w in
      let mine = All-at (Knows r.starts) views port v at r.known in
      record {
        each_once = λ h.
            let e = r.each_once h in
            let s = total_set (view_weight h) views port v w at in
            let s' = total_set (view_weight h) vs other u spent at' in
            let k : view_weight h (spent {T = T}) ≡ 0 = refl in
            let a = weight_of h None (taken v ++ taken u) in
            let b = sum_by-append h (taken v) (taken u) in
            omega arith;
        all_shares = (let s = total_set share_count views port v w at in
            let s' = total_set share_count vs other u spent at' in
            let a = r.all_shares in
            omega arith);
        starts = r.starts;
        waiting = r.waiting;
        known = All-set (Knows r.starts) vs other spent (record { without = λ _. refl; with_share = λ some_share. absurd (omega arith) }) (All-set (Knows r.starts) views port w (still_knows r.starts v w mine works (omega arith) refl) r.known);
      }
