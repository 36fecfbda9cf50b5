-- What a worker keeps, from step to step.
use Rattle.std.proofs.Common.{◌≡◌, ℕ, ◌+◌, ◌<◌, ◌≤◌, Some, None, List, [], ◌∷◌, ◌++◌, length, map, All, sym, refl, ap, ◌∙◌, subst, arith, length-append, append-nil}
use Rattle.std.specs.List.{slice_get}
use Rattle.std.proofs.lemmas.List.{map-append, map_push, length-map}
use Rattle.std.proofs.lemmas.List.Elements.{All-nil, All-push, All-append}
use Rattle.run_board.specs.declared.view.WorkerView.{WorkerView}
use Rattle.run_board.specs.Tasks.{TaskWords, IsLed}
use Rattle.run_board.specs.Views.{list_of, taken, filled, after_pop, joined}
use Rattle.run_board.specs.Workers.{Keeps, HasTaken}

-- the laws of a task's relation
abbrev pub IsTransitive : {T : Type 0} → (T → T → Type 0) → Type 0
IsTransitive led_from = (a b c : _) → led_from b a → led_from c b → led_from c a

module _ {T : Type 0} (words : TaskWords T) where
  -- a turn leads on from the start
  led_on : (starts : List T) (old new : T) → IsTransitive words.led_from → words.number new ≡ words.number old → words.led_from new old → IsLed words starts old → IsLed words starts new
  led_on starts old new transitive same led was = (was.0, subst (λ n. slice_get starts n ≡ Some was.0) (sym same) was.1, transitive was.0 old new was.2 led)

  -- a worker that took a task has taken it after a turn too
  pub has_turned : (v : WorkerView T) (finished : List T) (old new : T) → IsTransitive words.led_from → words.number new ≡ words.number old → words.led_from new old → HasTaken words v finished old → HasTaken words v finished new
  has_turned v finished old new transitive same led h = record { keeps = h.keeps; holds = h.holds ∙ ap (λ n. Some n) (sym same); is_led = led_on v.starts old new transitive same led h.is_led }

  -- a task that is ended is kept
  pub keeps_ended : (v : WorkerView T) (finished : List T) (task : T) → HasTaken words v finished task → words.ended task → Keeps words v (finished ++ task ∷ [])
  keeps_ended v finished task h e =
      let k = h.keeps in
      let nil : v.done ++ [] ≡ v.done = append-nil v.done in
      record {
        working = k.working;
        numbers = map_push words.number finished task ∙ ap (λ l. l ++ words.number task ∷ []) (k.numbers ∙ nil) ∙ ap (λ o. v.done ++ list_of o) (sym h.holds);
        are_ended = All-push words.ended finished task k.are_ended e;
        are_led = All-push (IsLed words v.starts) finished task k.are_led h.is_led;
      }

  -- a task was taken from the queue
  pub takes_one : (v w : WorkerView T) (finished : List T) (x : T) → Keeps words v finished → w ≡ after_pop v (words.number x) → IsLed words v.starts x → HasTaken words w finished x
  takes_one v w finished x k is led =
      let nil : taken v ++ [] ≡ taken v = append-nil (taken v) in
      subst (λ (u : WorkerView T). HasTaken words u finished x) (sym is) (record {
        keeps = record { working = k.working; numbers = k.numbers ∙ sym nil; are_ended = k.are_ended; are_led = k.are_led };
        holds = refl;
        is_led = led;
      })

  -- and there is room to keep it
  pub can_keep : (v w : WorkerView T) (finished : List T) (x : T) (tasks : ℕ) → Keeps words v finished → w ≡ after_pop v (words.number x) → length (taken w) ≤ tasks → length finished < tasks
  can_keep v w finished x tasks k is short =
      let a : length (taken (after_pop v (words.number x))) ≤ tasks = subst (λ (u : WorkerView T). length (taken u) ≤ tasks) is short in
      let l = length-append (taken v) (list_of (Some (words.number x))) in
      let m = ap length k.numbers in
      let n = length-map finished words.number in
      omega arith

  -- a worker that took no task yet
  pub keeps_none : (v : WorkerView T) (finished : List T) (shares : ℕ) (starts : List T) → v ≡ filled shares starts → 0 < shares → finished ≡ [] → Keeps words v finished
  keeps_none v finished shares starts is some none =
      subst (λ (x : WorkerView T × List T). Keeps words x.0 x.1) (λ i. (sym is i, sym none i)) (record { working = some; numbers = refl; are_ended = All-nil words.ended; are_led = All-nil (IsLed words starts) })

  -- two workers in one keep what both kept
  pub keeps_both : (v w : WorkerView T) (xs ys : List T) → Keeps words v xs → Keeps words w ys → w.starts ≡ v.starts → Keeps words (joined v w) (xs ++ ys)
  keeps_both v w xs ys a b same = record {
    working = omega (arith, a.working);
    numbers = map-append words.number xs ys ∙ ap (λ l. l ++ map words.number ys) a.numbers ∙ ap (λ l. taken v ++ l) b.numbers ∙ sym (append-nil (taken v ++ taken w));
    are_ended = All-append words.ended xs ys a.are_ended b.are_ended;
    are_led = All-append (IsLed words v.starts) xs ys a.are_led (subst (λ s. All (IsLed words s) ys) same b.are_led);
  }

  -- and one list has room for it
  pub both_fit : (v w : WorkerView T) (xs ys : List T) (tasks : ℕ) → Keeps words v xs → Keeps words w ys → length (taken (joined v w)) ≤ tasks → length xs + length ys ≤ tasks
  both_fit v w xs ys tasks a b short =
      let l1 = length-append (taken v ++ taken w) (list_of None) in
      let l2 = length-append (taken v) (taken w) in
      let l3 = ap length a.numbers in
      let l4 = ap length b.numbers in
      let l5 = length-map xs words.number in
      let l6 = length-map ys words.number in
      omega arith
