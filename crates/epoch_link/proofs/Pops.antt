-- The consumer's steps keep the rule of the ring.
use Rattle.std.proofs.Common.{◌≡◌, ◌≢◌, ℕ, suc, ◌+◌, ◌%◌, ◌^◌, ◌<◌, ◌≤◌, List, [], ◌∷◌, ◌++◌, length, get_or, set, Option, Some, None, Bool, true, sym, refl, ap, ap₂, ◌∙◌, subst, ⊎_elim, mod-lt, arith, length-append, length-set, get_or-set_other, get_or-set_same}
use Rattle.std.proofs.lemmas.List.{append_assoc, set-get_or}
use native.Mathlib.Nat.{add-mod_right}
use mathlib.Core.Option.{some, none}
use mathlib.Core.Logic.{dite}
use native.Mathlib.Decide.{ℕ_discrete}
use lib.ListN.{get_elem?}
use Rattle.std.proofs.lemmas.Option.{none-some}
use Rattle.atomic_table.specs.Table.{State, Me, step, keeps, takes, gives, Allows}
use Rattle.atomic_table.proofs.Lists.{at_set, set_here, set_else, one_turn}
use Rattle.epoch_link.specs.declared.ring_link.view.View.{View}
use Rattle.epoch_link.specs.Words.{word_of}
use Rattle.epoch_link.specs.Ring.{item_at, Produces, Consumes, Seats, Ring, listed, Remains, seen_tail, saw_tail, got_one}
use Rattle.epoch_link.proofs.Items.{item-past, item-after, front, one_slot}
use Rattle.epoch_link.proofs.Pushes.{long, lt_of_le_ne, keeps_part, stays}

module _ {T : Type 0} where
  -- the seats after a step of the consumer
  seats_popped : (views : List (View T)) (pseat cseat id : ℕ) (sent : List T) (out : Bool) (got got' : List T) (next next' : Option T) (v w : View T)
      → Seats pseat sent out cseat got next views → get_elem? views id ≡ some v → v.consumes ≡ true
      → w.got ≡ got' → w.next ≡ next' → w.produces ≡ v.produces → w.sent ≡ v.sent → w.lends ≡ v.lends
      → Seats pseat sent out cseat got' next' (set views id w)
  seats_popped views pseat cseat id sent out got got' next next' v w seats at mine a b c d e j u here =
      let me = (seats id v at).1 mine in
      ⊎_elim
      (λ t. subst (λ (z : View T). (z.produces ≡ true → Produces z j pseat sent out) × (z.consumes ≡ true → Consumes z j cseat got' next')) t.1
      ((λ f. let them = (seats id v at).0 (sym c ∙ f) in (t.0 ∙ them.0, d ∙ them.1, e ∙ them.2)), (λ _. (t.0 ∙ me.0, a, b))))
      (λ t. ((seats j u t.1).0, (λ f. absurd (t.0 (((seats j u t.1).1 f).0 ∙ sym me.0)))))
      (at_set views id j w u here)

  first_of_some : (l : List T) → 0 < length l → (x : T) × (item_at l 0 ≡ Some x)
  first_of_some [] h = absurd (omega arith)
  first_of_some (x ∷ xs) h = (x, refl)

  -- the item at the next position to get
  first_is : (n : ℕ) (s : State (Option T) (View T)) (r : Ring n s) → item_at r.sent (length r.got) ≡ item_at r.delivered.held 0
  first_is n s r = ap (λ (l : List T). item_at l (length r.got)) r.delivered.in_order ∙ item-after r.got r.delivered.held (length r.got) 0 (omega arith)

  pub sees_tail : (n id : ℕ) (me : Me (Option T) (View T)) → me.0.consumes ≡ true → me.0.next ≡ None → Allows (Ring n) n id me 0 (λ y. y) (saw_tail (step n 0 0 0 none) me)
  sees_tail n id me mine idle s r wide at small =
      let y : ℕ = get_or s.words 0 0 in let l = long n s r in let me_is = (r.seats id me.0 at).1 mine in let within : length r.delivered.held ≤ n = r.delivered.fits in let few : n ≤ 65536 = r.few_slots in let two : length s.words ≡ 2 = r.word_count in
      let pos : 0 < n = r.some_slot in
      let mine_is : word_of (length me.0.got) ≡ word_of (length r.got) = ap (λ (a : List T). word_of (length a)) me_is.1 in
      let told : (next : Option T) → item_at r.delivered.held 0 ≡ next → me.0.produces ≡ true → Remains n me.0 next = (λ next is f. let p_is = (r.seats id me.0 at).0 f in
      (record { held = r.delivered.held; in_order = p_is.1 ∙ r.delivered.in_order ∙ ap (λ (a : List T). a ++ r.delivered.held) (sym me_is.1); fits = r.delivered.fits }, is)) in
      let idle' : r.next ≡ None = sym me_is.2 ∙ idle in
      dite (ℕ_discrete (length r.delivered.held) 0)
      (λ none_left. (
        seen_tail me.0 y None,
        keeps,
        tt,
        stays n s r r.lends r.next r.producer r.consumer (set-get_or s.words 0 0) r.slot_count r.at_home r.room r.first
            (seats_popped s.views r.producer r.consumer id r.sent r.lends r.got r.got r.next r.next me.0 (seen_tail me.0 y None) r.seats at mine me_is.1 (sym idle') refl refl refl)
            (keeps_part (λ z. z.produces) s.views r.producer id me.0 (seen_tail me.0 y None) at refl r.has_producer)
            (keeps_part (λ z. z.consumes) s.views r.consumer id me.0 (seen_tail me.0 y None) at refl r.has_consumer),
        ((λ _. refl), (λ ne. absurd (ne (r.tail_is ∙ ap word_of (let q : length r.sent ≡ length r.got = omega arith in q) ∙ sym mine_is))), told None (item-past r.delivered.held 0 (omega arith))),
      ))
      (λ ne. let some_left : 0 < length r.delivered.held = lt_of_le_ne 0 (length r.delivered.held) (omega arith) (λ e. ne (sym e)) in let it = first_of_some r.delivered.held some_left in let x : T = it.0 in
      let k : ℕ = length me.0.got % n in let k_is : k ≡ length r.got % n = ap (λ (a : List T). length a % n) me_is.1 in
      let differs : y ≢ word_of (length me.0.got) = (λ e. let same : length r.got ≡ length r.sent = one_turn (length r.got) (length r.sent) (2 ^ 64) (omega arith) (omega arith) (sym mine_is ∙ sym e ∙ r.tail_is) in absurd (omega arith)) in (
        seen_tail me.0 y (Some x),
        takes k (Some x),
        ap (λ (j : ℕ). get_elem? s.homes j) k_is
            ∙ r.at_home (length r.got) (omega arith) (omega arith) (λ e _. absurd (omega arith)) (λ u _ f. none-some u (sym idle' ∙ f))
            ∙ ap (λ (o : Option T). some (some o)) (first_is n s r ∙ it.1),
        stays n s r r.lends (Some x) r.producer r.consumer (set-get_or s.words 0 0) (length-set s.homes k none ∙ r.slot_count)
            (λ p lo hi not_sent not_next. set_else s.homes k (p % n) none (λ e. not_next x (one_slot (length r.got) n p (length r.got) lo hi (omega arith) (omega arith) (e ∙ k_is)) refl)
            ∙ r.at_home p lo hi not_sent (λ u e _. not_next x e refl))
            r.room (λ u f. it.1 ∙ f)
            (seats_popped s.views r.producer r.consumer id r.sent r.lends r.got r.got r.next (Some x) me.0 (seen_tail me.0 y (Some x)) r.seats at mine me_is.1 refl refl refl refl)
            (keeps_part (λ z. z.produces) s.views r.producer id me.0 (seen_tail me.0 y (Some x)) at refl r.has_producer)
            (keeps_part (λ z. z.consumes) s.views r.consumer id me.0 (seen_tail me.0 y (Some x)) at refl r.has_consumer),
        ((λ e. absurd (differs e)), (λ _. (x, refl)), told (Some x) it.1),
      ))

  pub gets : (n id : ℕ) (v : View T) (x : T) (new k : ℕ) → v.consumes ≡ true → v.next ≡ Some x → new ≡ word_of (length v.got + 1) → k ≡ length v.got % n
      → Allows (Ring n) n id (v, (k, None) ∷ []) 1 (λ _. new) (λ _ m. got_one (v, (k, None) ∷ []) m)
  gets n id v x new k mine holds_x new_is slot s r wide at small =
      let l = long n s r in let me_is = (r.seats id v at).1 mine in let two : length s.words ≡ 2 = r.word_count in let pos : 0 < n = r.some_slot in let within : length r.delivered.held ≤ n = r.delivered.fits in
      let k_is : k ≡ length r.got % n = slot ∙ ap (λ (a : List T). length a % n) me_is.1 in let got' : List T = r.got ++ x ∷ [] in let w : View T = record v { got = v.got ++ listed v.next; next = None } in
      let longer : length got' ≡ length r.got + 1 = length-append r.got (x ∷ []) in let homes_wide : length s.homes ≡ n = r.slot_count in let below : length r.got % n < n = mod-lt (length r.got) pos in
      let fr = front r.delivered.held x (r.first x (sym me_is.2 ∙ holds_x)) in let left : List T = fr.0 in let one : length r.delivered.held ≡ suc (length left) = ap length fr.1 in (
        w,
        gives,
        tt,
        record {
          sent = r.sent;
          got = got';
          lends = r.lends;
          next = None;
          producer = r.producer;
          consumer = r.consumer;
          some_slot = r.some_slot;
          few_slots = r.few_slots;
          slot_count = length-set s.homes k (some None) ∙ r.slot_count;
          word_count = length-set s.words 1 new ∙ r.word_count;
          tail_is = get_or-set_other s.words 1 0 new 0 (λ e. omega arith) ∙ r.tail_is;
          head_is = get_or-set_same s.words 1 new 0 (omega arith) ∙ new_is ∙ ap (λ (a : List T). word_of (length a + 1)) me_is.1 ∙ ap word_of (sym longer);
          delivered = record { held = left; in_order = r.delivered.in_order ∙ ap (λ (a : List T). r.got ++ a) fr.1 ∙ sym (append_assoc r.got (x ∷ []) left); fits = omega arith };
          at_home = λ p lo hi not_sent not_next. dite (ℕ_discrete p (length r.got + n))
              (λ e. ap (λ (q : ℕ). get_elem? (set s.homes k (some None)) (q % n)) e ∙ ap (λ (q : ℕ). get_elem? (set s.homes k (some None)) q) (add-mod_right (length r.got) n ∙ sym k_is)
              ∙ set_here s.homes k (some None) (omega arith) ∙ ap (λ (o : Option T). some (some o)) (sym (item-past r.sent p (omega arith))))
              (λ ne. let in_window : p < length r.got + n = lt_of_le_ne p (length r.got + n) (omega arith) ne in
              set_else s.homes k (p % n) (some None) (λ e. let same : p ≡ length r.got = one_slot (length r.got) n p (length r.got) (omega arith) in_window (omega arith) (omega arith) (e ∙ k_is) in absurd (omega arith))
              ∙ r.at_home p (omega arith) in_window not_sent (λ u e _. absurd (omega arith)));
          room = λ f. omega arith;
          first = λ u f. absurd (none-some u f);
          seats = seats_popped s.views r.producer r.consumer id r.sent r.lends r.got got' r.next None v w r.seats at mine (ap₂ (λ (a b : List T). a ++ b) me_is.1 (ap listed holds_x)) refl refl refl refl;
          has_producer = keeps_part (λ z. z.produces) s.views r.producer id v w at refl r.has_producer;
          has_consumer = keeps_part (λ z. z.consumes) s.views r.consumer id v w at refl r.has_consumer;
        },
        refl,
      )
