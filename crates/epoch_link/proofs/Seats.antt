-- How the ring begins, and how its two seats part and join.
use Rattle.std.proofs.Common.{◌≡◌, ℕ, zero, suc, ◌%◌, ◌<◌, ◌≤◌, ◌⊎◌, inl, inr, List, [], ◌∷◌, ◌++◌, map, replicate, length, set, Option, None, true, false, sym, refl, ◌∙◌, subst, ⊎_elim, mod-lt, arith}
use Rattle.std.proofs.lemmas.List.{length-map, length-replicate}
use mathlib.Core.Option.{some, some-injective, some-ne-none}
use lib.ListN.{get_elem?}
use Rattle.std.proofs.lemmas.Option.{none-some}
use Rattle.std.proofs.lemmas.Bool.{false≢true}
use Rattle.atomic_table.specs.Table.{opening, Splits, Joins}
use Rattle.atomic_table.proofs.Lists.{at_set, set_here, set_else, at_longer, at_last}
use Rattle.epoch_link.specs.declared.ring_link.view.View.{View}
use Rattle.epoch_link.specs.Ring.{Produces, Consumes, Seats, HasProducer, Ring, opening_view, producers_part, consumers_part, joined, spent_view}
use Rattle.epoch_link.proofs.Pushes.{is_there, keeps_part, stays}

at_end : {A : Type 0} (l : List A) (a b : A) (j : ℕ) → get_elem? (l ++ a ∷ []) j ≡ some b → (get_elem? l j ≡ some b) ⊎ ((j ≡ length l) × (a ≡ b))
at_end [] a b zero e = inr (refl, some-injective a b e)
at_end [] a b (suc j) e = absurd (some-ne-none b (sym e))
at_end (x ∷ xs) a b zero e = inl e
at_end (x ∷ xs) a b (suc j) e = ⊎_elim inl (λ t. inr (omega (arith, t.0), t.1)) (at_end xs a b j e)

vacant_at : {T : Type 0} (n i : ℕ) → i < n → get_elem? (map some (replicate {A = Option T} n None)) i ≡ some (some None)
vacant_at zero i h = absurd (omega arith)
vacant_at (suc n) zero h = refl
vacant_at (suc n) (suc i) h = vacant_at n i (omega arith)

module _ {T : Type 0} where
  first_seat : Seats {T = T} 0 [] false 0 [] None (opening_view ∷ [])
  first_seat zero v e = subst (λ (z : View T). (z.produces ≡ true → Produces z 0 0 [] false) × (z.consumes ≡ true → Consumes z 0 0 [] None)) (some-injective opening_view v e)
      ((λ _. (refl, refl, refl)), (λ _. (refl, refl, refl)))
  first_seat (suc j) v e = absurd (some-ne-none v (sym e))

  pub starts : (n : ℕ) → 0 < n → n ≤ 65536 → Ring {T = T} n (opening (0 ∷ 0 ∷ []) (replicate n None) opening_view)
  starts n pos few = record {
    sent = [];
    got = [];
    lends = false;
    next = None;
    producer = 0;
    consumer = 0;
    some_slot = pos;
    few_slots = few;
    slot_count = length-map (replicate n None) some ∙ length-replicate n None;
    word_count = refl;
    tail_is = refl;
    head_is = refl;
    delivered = record { held = []; in_order = refl; fits = omega arith };
    at_home = λ p lo hi _ _. vacant_at n (p % n) (mod-lt p pos);
    room = λ f. absurd (false≢true f);
    first = λ x f. absurd (none-some x f);
    seats = first_seat;
    has_producer = (opening_view, refl, refl);
    has_consumer = (opening_view, refl, refl);
  }

  pub splits : (n id : ℕ) (v : View T) → v.produces ≡ true → v.consumes ≡ true → Splits (Ring n) id v (producers_part v) (consumers_part v)
  splits n id v p c s r at = let vs : List (View T) = set s.views id (producers_part v) in let pm = (r.seats id v at).0 p in let cm = (r.seats id v at).1 c in
      let Good : ℕ → View T → Type 0 = λ j z. (z.produces ≡ true → Produces z j r.producer r.sent r.lends) × (z.consumes ≡ true → Consumes z j (length vs) r.got r.next) in
      stays n s r r.lends r.next r.producer (length vs) refl r.slot_count r.at_home r.room r.first (λ j u here. ⊎_elim
      (λ old. ⊎_elim
      (λ t. subst (Good j) t.1 ((λ _. (t.0 ∙ pm.0, pm.1, pm.2)), (λ f. absurd (false≢true f))))
      (λ t. ((λ f. absurd (t.0 (((r.seats j u t.1).0 f).0 ∙ sym pm.0))), (λ f. absurd (t.0 (((r.seats j u t.1).1 f).0 ∙ sym cm.0)))))
      (at_set s.views id j (producers_part v) u old))
      (λ t. subst (Good j) t.1 ((λ f. absurd (false≢true f)), (λ _. (t.0, cm.1, cm.2))))
      (at_end vs (consumers_part v) u j here))
      (still_produces (keeps_part (λ z. z.produces) s.views r.producer id v (producers_part v) at refl r.has_producer))
      (consumers_part v, at_last vs (consumers_part v) (length vs) refl, c)
    where
      still_produces : HasProducer r.producer (set s.views id (producers_part v)) → HasProducer r.producer (set s.views id (producers_part v) ++ consumers_part v ∷ [])
      still_produces (u, here, is) = (u, at_longer _ (consumers_part v ∷ []) r.producer u here, is)

  pub joins : (n id : ℕ) (v : View T) (other : ℕ) (w : View T) → v.produces ≡ true → w.consumes ≡ true → Joins (Ring n) id v other w (joined v w) spent_view
  joins n id v other w p c s r at two at' = let vs : List (View T) = set s.views id (joined v w) in let there = sym (set_else s.views id other (joined v w) two) ∙ at' in
      let pm = (r.seats id v at).0 p in let cm = (r.seats other w there).1 c in
      let Good : ℕ → View T → Type 0 = λ j z. (z.produces ≡ true → Produces z j r.producer r.sent r.lends) × (z.consumes ≡ true → Consumes z j id r.got r.next) in
      let both_there : get_elem? (set vs other spent_view) id ≡ some (joined v w) = set_else vs other id spent_view (λ e. two (sym e)) ∙ set_here s.views id (joined v w) (is_there s.views id v at) in
      stays n s r r.lends r.next r.producer id refl r.slot_count r.at_home r.room r.first (λ j u here. ⊎_elim
      (λ t. subst (Good j) t.1 ((λ f. absurd (false≢true f)), (λ f. absurd (false≢true f))))
      (λ o. ⊎_elim
      (λ t. subst (Good j) t.1 ((λ _. (t.0 ∙ pm.0, pm.1, pm.2)), (λ _. (t.0, cm.1, cm.2))))
      (λ t. ((λ f. absurd (t.0 (((r.seats j u t.1).0 f).0 ∙ sym pm.0))), (λ f. absurd (o.0 (((r.seats j u t.1).1 f).0 ∙ sym cm.0)))))
      (at_set s.views id j (joined v w) u o.1))
      (at_set vs other j spent_view u here))
      (joined v w, subst (λ (j : ℕ). get_elem? (set vs other spent_view) j ≡ some (joined v w)) pm.0 both_there, refl)
      (joined v w, both_there, refl)
