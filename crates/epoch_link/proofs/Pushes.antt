-- The producer's steps keep the rule of the ring.
use Rattle.std.proofs.Common.{◌≡◌, ◌≢◌, ℕ, zero, suc, ◌+◌, ◌%◌, ◌<◌, ◌≤◌, List, [], ◌∷◌, ◌++◌, length, get_or, set, Option, Some, None, Bool, true, false, sym, refl, ap, ap₂, ◌∙◌, subst, ⊎_elim, mod-lt, arith, length-append, length-set, lt_of_not-le, get_or-set_other, get_or-set_same}
use Rattle.std.proofs.lemmas.List.{append_assoc, set-get_or}
use mathlib.Core.Option.{some, none, some-injective, some-ne-none}
use mathlib.Core.Option as maybe
use mathlib.Core.Logic.{dite}
use native.Mathlib.Decide.{ℕ_discrete, dec_le}
use lib.ListN.{get_elem?}
use Rattle.std.proofs.lemmas.Option.{none-some}
use Rattle.std.proofs.lemmas.Bool.{false≢true}
use Rattle.atomic_table.specs.Table.{State, Me, step, keeps, takes, gives, Allows}
use Rattle.atomic_table.proofs.Lists.{at_set, set_here, set_else}
use Rattle.epoch_link.specs.declared.ring_link.view.View.{View}
use Rattle.epoch_link.specs.Words.{word_of, distance}
use Rattle.epoch_link.specs.Ring.{item_at, Produces, Consumes, Seats, HasProducer, HasConsumer, AtHome, Ring, seen_head, saw_head, sent_one}
use Rattle.epoch_link.proofs.Items.{item-append, item-last, item-past, front, distance_is, one_slot}

pub lt_of_le_ne : (a b : ℕ) → a ≤ b → a ≢ b → a < b
lt_of_le_ne a b h ne = dite (dec_le b a) (λ g. absurd (ne (omega arith))) (λ g. lt_of_not-le g)

pub is_there : {A : Type 0} (l : List A) (i : ℕ) (a : A) → get_elem? l i ≡ some a → i < length l
is_there [] i a e = absurd (some-ne-none a (sym e))
is_there (x ∷ xs) zero a e = omega arith
is_there (x ∷ xs) (suc i) a e = let h = is_there xs i a e in omega arith

module _ {T : Type 0} where
  -- where one view gives way to another with the same part, a seat still has its own
  pub keeps_part : (part : View T → Bool) (views : List (View T)) (seat id : ℕ) (v w : View T) → get_elem? views id ≡ some v → part w ≡ part v
      → (u : View T) × (get_elem? views seat ≡ some u) × (part u ≡ true) → (u : View T) × (get_elem? (set views id w) seat ≡ some u) × (part u ≡ true)
  keeps_part part views seat id v w at same (u, here, is) = dite (ℕ_discrete seat id)
      (λ e. (
        w,
        subst (λ (j : ℕ). get_elem? (set views id w) j ≡ some w) (sym e) (set_here views id w (is_there views id v at)),
        same ∙ ap part (some-injective v u (sym at ∙ subst (λ (j : ℕ). get_elem? views j ≡ some u) e here)) ∙ is,
      ))
      (λ ne. (u, set_else views id seat w ne ∙ here, is))

  -- the seats after a step of the producer
  seats_pushed : (views : List (View T)) (pseat cseat id : ℕ) (sent sent' : List T) (out out' : Bool) (got : List T) (next : Option T) (v w : View T)
      → Seats pseat sent out cseat got next views → get_elem? views id ≡ some v → v.produces ≡ true
      → w.sent ≡ sent' → w.lends ≡ out' → w.consumes ≡ v.consumes → w.got ≡ v.got → w.next ≡ v.next
      → Seats pseat sent' out' cseat got next (set views id w)
  seats_pushed views pseat cseat id sent sent' out out' got next v w seats at mine a b c d e j u here =
      let me = (seats id v at).0 mine in
      ⊎_elim
      (λ t. subst (λ (z : View T). (z.produces ≡ true → Produces z j pseat sent' out') × (z.consumes ≡ true → Consumes z j cseat got next)) t.1
      ((λ _. (t.0 ∙ me.0, a, b)), (λ f. let them = (seats id v at).1 (sym c ∙ f) in (t.0 ∙ them.0, d ∙ them.1, e ∙ them.2))))
      (λ t. ((λ f. absurd (t.0 (((seats j u t.1).0 f).0 ∙ sym me.0))), (seats j u t.1).1))
      (at_set views id j w u here)

  -- the rule after a step by which nothing is sent or got, and the words are as they were
  pub stays : (n : ℕ) (s : State (Option T) (View T)) (r : Ring n s) {words : List ℕ} {homes : List (maybe.Option (Option T))} {views : List (View T)}
      (lends : Bool) (next : Option T) (pseat cseat : ℕ) → words ≡ s.words → length homes ≡ n → AtHome n r.sent lends r.got next homes
      → (lends ≡ true → length r.delivered.held < n) → ((x : T) → next ≡ Some x → item_at r.delivered.held 0 ≡ Some x)
      → Seats pseat r.sent lends cseat r.got next views → HasProducer pseat views → HasConsumer cseat views
      → Ring n record { words = words; homes = homes; views = views }
  stays n s r lends next pseat cseat same count home room first seats producing consuming = record {
    sent = r.sent;
    got = r.got;
    lends = lends;
    next = next;
    producer = pseat;
    consumer = cseat;
    some_slot = r.some_slot;
    few_slots = r.few_slots;
    slot_count = count;
    word_count = ap length same ∙ r.word_count;
    tail_is = ap (λ (w : List ℕ). get_or w 0 0) same ∙ r.tail_is;
    head_is = ap (λ (w : List ℕ). get_or w 1 0) same ∙ r.head_is;
    delivered = r.delivered;
    at_home = home;
    room = room;
    first = first;
    seats = seats;
    has_producer = producing;
    has_consumer = consuming;
  }

  -- the length of what was sent
  pub long : (n : ℕ) (s : State (Option T) (View T)) (r : Ring n s) → length r.sent ≡ length r.got + length r.delivered.held
  long n s r = ap length r.delivered.in_order ∙ length-append r.got r.delivered.held

  -- where the producer has no slot out and the ring is not full, the next slot is at home and holds nothing
  free : (n : ℕ) (s : State (Option T) (View T)) (r : Ring n s) → r.lends ≡ false → length r.delivered.held < n → get_elem? s.homes (length r.sent % n) ≡ some (some None)
  free n s r idle room = let l = long n s r in
      r.at_home (length r.sent) (omega arith) (omega arith) (λ _ f. false≢true (sym idle ∙ f))
      (λ x e f. none-some x (sym (item-past r.delivered.held 0 (omega arith)) ∙ r.first x f))
      ∙ ap (λ (o : Option T). some (some o)) (item-past r.sent (length r.sent) (omega arith))

  pub sees_head : (n id : ℕ) (me : Me (Option T) (View T)) → me.0.produces ≡ true → me.0.lends ≡ false → Allows (Ring n) n id me 1 (λ y. y) (saw_head (step n 1 0 0 none) me)
  sees_head n id me mine idle s r wide at small =
      let y : ℕ = get_or s.words 1 0 in let l = long n s r in let me_is = (r.seats id me.0 at).0 mine in let within : length r.delivered.held ≤ n = r.delivered.fits in let few : n ≤ 65536 = r.few_slots in let two : length s.words ≡ 2 = r.word_count in
      let dist : distance (word_of (length me.0.sent)) y ≡ length r.delivered.held = ap₂ (λ (a : List T) (b : ℕ). distance (word_of (length a)) b) me_is.1 r.head_is ∙ distance_is (length r.sent) (length r.got) (length r.delivered.held) l (omega arith) in
      dite (ℕ_discrete (length r.delivered.held) n)
      (λ full. (
        seen_head me.0 y false,
        keeps,
        tt,
        stays n s r r.lends r.next r.producer r.consumer (set-get_or s.words 1 0) r.slot_count r.at_home r.room r.first
            (seats_pushed s.views r.producer r.consumer id r.sent r.sent r.lends r.lends r.got r.next me.0 (seen_head me.0 y false) r.seats at mine me_is.1 (sym idle ∙ me_is.2) refl refl refl)
            (keeps_part (λ z. z.produces) s.views r.producer id me.0 (seen_head me.0 y false) at refl r.has_producer)
            (keeps_part (λ z. z.consumes) s.views r.consumer id me.0 (seen_head me.0 y false) at refl r.has_consumer),
        ((λ _. refl), λ ne. absurd (ne (dist ∙ full))),
      ))
      (λ ne. let room : length r.delivered.held < n = lt_of_le_ne (length r.delivered.held) n within ne in let k : ℕ = length me.0.sent % n in let k_is : k ≡ length r.sent % n = ap (λ (a : List T). length a % n) me_is.1 in (
        seen_head me.0 y true,
        takes k None,
        ap (λ (j : ℕ). get_elem? s.homes j) k_is ∙ free n s r (sym me_is.2 ∙ idle) room,
        stays n s r true r.next r.producer r.consumer (set-get_or s.words 1 0) (length-set s.homes k none ∙ r.slot_count)
            (λ p lo hi not_sent not_next. set_else s.homes k (p % n) none (λ e. not_sent (one_slot (length r.got) n p (length r.sent) lo hi (omega arith) (omega arith) (e ∙ k_is)) refl)
            ∙ r.at_home p lo hi (λ e _. not_sent e refl) not_next)
            (λ _. room) r.first
            (seats_pushed s.views r.producer r.consumer id r.sent r.sent r.lends true r.got r.next me.0 (seen_head me.0 y true) r.seats at mine me_is.1 refl refl refl refl)
            (keeps_part (λ z. z.produces) s.views r.producer id me.0 (seen_head me.0 y true) at refl r.has_producer)
            (keeps_part (λ z. z.consumes) s.views r.consumer id me.0 (seen_head me.0 y true) at refl r.has_consumer),
        ((λ full. absurd (ne (sym dist ∙ full))), λ _. refl),
      ))

  -- an item that is sent is the last one
  item_sent : (sent : List T) (x : T) (p : ℕ) → p ≢ length sent → item_at sent p ≡ item_at (sent ++ x ∷ []) p
  item_sent sent x p ne = dite (dec_le (length sent) p)
      (λ h. let a : length sent < p = lt_of_le_ne (length sent) p h (λ e. ne (sym e)) in item-past sent p (omega arith) ∙ sym (item-past (sent ++ x ∷ []) p (omega (arith, length-append sent (x ∷ [])))))
      (λ h. sym (item-append sent (x ∷ []) p (lt_of_not-le h)))

  pub sends : (n id : ℕ) (v : View T) (x : T) (new k : ℕ) → v.produces ≡ true → v.lends ≡ true → new ≡ word_of (length v.sent + 1) → k ≡ length v.sent % n
      → Allows (Ring n) n id (v, (k, Some x) ∷ []) 0 (λ _. new) (λ _ m. sent_one (v, (k, Some x) ∷ []) m)
  sends n id v x new k mine lent new_is slot s r wide at small =
      let l = long n s r in let me_is = (r.seats id v at).0 mine in let two : length s.words ≡ 2 = r.word_count in let room : length r.delivered.held < n = r.room (sym me_is.2 ∙ lent) in let pos : 0 < n = r.some_slot in
      let k_is : k ≡ length r.sent % n = slot ∙ ap (λ (a : List T). length a % n) me_is.1 in let sent' : List T = r.sent ++ x ∷ [] in let w : View T = record v { sent = v.sent ++ x ∷ []; lends = false } in
      let longer : length sent' ≡ length r.sent + 1 = length-append r.sent (x ∷ []) in let homes_wide : length s.homes ≡ n = r.slot_count in let below : length r.sent % n < n = mod-lt (length r.sent) pos in (
        w,
        gives,
        tt,
        record {
          sent = sent';
          got = r.got;
          lends = false;
          next = r.next;
          producer = r.producer;
          consumer = r.consumer;
          some_slot = r.some_slot;
          few_slots = r.few_slots;
          slot_count = length-set s.homes k (some (Some x)) ∙ r.slot_count;
          word_count = length-set s.words 0 new ∙ r.word_count;
          tail_is = get_or-set_same s.words 0 new 0 (omega arith) ∙ new_is ∙ ap (λ (a : List T). word_of (length a + 1)) me_is.1 ∙ ap word_of (sym longer);
          head_is = get_or-set_other s.words 0 1 new 0 (λ e. omega arith) ∙ r.head_is;
          delivered = record { held = r.delivered.held ++ x ∷ []; in_order = ap (λ (a : List T). a ++ x ∷ []) r.delivered.in_order ∙ append_assoc r.got r.delivered.held (x ∷ []); fits = omega (arith, length-append r.delivered.held (x ∷ [])) };
          at_home = λ p lo hi not_sent not_next. dite (ℕ_discrete p (length r.sent))
              (λ e. ap (λ (q : ℕ). get_elem? (set s.homes k (some (Some x))) (q % n)) e ∙ ap (λ (q : ℕ). get_elem? (set s.homes k (some (Some x))) q) (sym k_is)
              ∙ set_here s.homes k (some (Some x)) (omega arith) ∙ ap (λ (o : Option T). some (some o)) (sym (item-last r.sent x p (sym e))))
              (λ ne. set_else s.homes k (p % n) (some (Some x)) (λ e. ne (one_slot (length r.got) n p (length r.sent) lo hi (omega arith) (omega arith) (e ∙ k_is)))
              ∙ r.at_home p lo hi (λ e _. ne e) not_next ∙ ap (λ (o : Option T). some (some o)) (item_sent r.sent x p ne));
          room = λ f. absurd (false≢true f);
          first = λ u f. let e = r.first u f in let fr = front r.delivered.held u e in item-append r.delivered.held (x ∷ []) 0 (omega (arith, ap length fr.1)) ∙ e;
          seats = seats_pushed s.views r.producer r.consumer id r.sent sent' r.lends false r.got r.next v w r.seats at mine (ap (λ (a : List T). a ++ x ∷ []) me_is.1) refl refl refl refl;
          has_producer = keeps_part (λ z. z.produces) s.views r.producer id v w at refl r.has_producer;
          has_consumer = keeps_part (λ z. z.consumes) s.views r.consumer id v w at refl r.has_consumer;
        },
        refl,
      )
