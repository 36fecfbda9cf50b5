-- What the ends' steps ask and tell, of an end that keeps its own count and slot.
use Rattle.std.proofs.Common.{◌≡◌, ℕ, ◌+◌, ◌*◌, ◌%◌, ◌^◌, ◌<◌, List, [], ◌∷◌, ◌++◌, length, Option, Some, None, true, false, sym, refl, ap, ◌∙◌, subst, length-append, arith}
use native.Mathlib.Nat.{mod-add-mod, mod_self}
use mathlib.Core.Option.{none}
use Rattle.std.proofs.lemmas.Nat.{mod-mul-add}
use Rattle.atomic_table.specs.Seated.{TableId}
use Rattle.atomic_table.specs.Table.{step, Allows, rest}
use Rattle.epoch_link.specs.Words.{word_of}
use Rattle.epoch_link.specs.Ring.{Ring, Seated, saw_head, in_hand, sent_one, saw_tail, listed, got_one}
use Rattle.epoch_link.specs.Ends.{AtPush, AtPop}
use Rattle.epoch_link.proofs.Pushes.{sees_head, sends}
use Rattle.epoch_link.proofs.Pops.{sees_tail, gets}

-- A table t with this key, found where the seat of an end says that its table is.
pub record IsOwnTable (seat t : TableId) (key capacity : ℕ) : Type 0 where
  pub same : seat ≡ t
  pub words : t.words ≡ 2
  pub slots : t.slots ≡ capacity
  pub keyed : t.slots ≡ key

pub found : (seat own t : TableId) (own_key key capacity : ℕ) → seat ≡ own → (seat.words ≡ 2) × (seat.slots ≡ capacity) × (own_key ≡ capacity) → t ≡ own → key ≡ own_key → IsOwnTable seat t key capacity
found seat own t own_key key capacity seated sized t_is key_is =
    let same : seat ≡ t = seated ∙ sym t_is in
    let slots : t.slots ≡ capacity = ap (λ (z : TableId). z.slots) (sym same) ∙ sized.1 in
    record { same = same; words = ap (λ (z : TableId). z.words) (sym same) ∙ sized.0; slots = slots; keyed = slots ∙ sym sized.2 ∙ sym key_is }

-- the slot after the last one is the first
pub wraps : (slot n : ℕ) → slot + 1 ≡ n → (slot + 1) % n ≡ 0
wraps slot n e = ap (λ (k : ℕ). k % n) e ∙ mod_self n

pub goes_on : (slot n : ℕ) → slot + 1 < n → (slot + 1) % n ≡ slot + 1
goes_on slot n h = let e : slot + 1 ≡ 0 * n + (slot + 1) = omega arith in ap (λ (k : ℕ). k % n) e ∙ mod-mul-add 0 n (slot + 1) h

-- a number after the next item, modulo n
next_number : (k n a b : ℕ) → a ≡ k % n → b ≡ (a + 1) % n → b ≡ (k + 1) % n
next_number k n a b e f = f ∙ ap (λ (i : ℕ). (i + 1) % n) e ∙ mod-add-mod k n 1

module _ {T : Type 0} where
  pub may_load_head : (key slots id capacity count slot : ℕ) (me : Seated T) → slots ≡ key → AtPush me capacity count slot false
      → Allows (Ring key) slots id me 1 (λ y. y) (saw_head (step slots 1 0 0 none) me)
  may_load_head key slots id capacity count slot me e p =
      subst (λ (k : ℕ). Allows (Ring k) slots id me 1 (λ y. y) (saw_head (step slots 1 0 0 none) me)) e (sees_head slots id me p.produces p.lends_is)

  pub may_load_tail : (key slots id capacity count slot : ℕ) (me : Seated T) → slots ≡ key → AtPop me capacity count slot None
      → Allows (Ring key) slots id me 0 (λ y. y) (saw_tail (step slots 0 0 0 none) me)
  may_load_tail key slots id capacity count slot me e p =
      subst (λ (k : ℕ). Allows (Ring k) slots id me 0 (λ y. y) (saw_tail (step slots 0 0 0 none) me)) e (sees_tail slots id me p.consumes p.next_is)

  -- the slot that was taken is the only one
  sole : (me at : Seated T) (slot : ℕ) (was now : Option T) → me.1 ≡ (slot, was) ∷ [] → at ≡ (me.0, (slot, now) ∷ rest me.1) → at ≡ (me.0, (slot, now) ∷ [])
  sole me at slot was now out is = is ∙ ap (λ (o : List (ℕ × Option T)). (me.0, (slot, now) ∷ rest o)) out

  follows : (l : List T) (x : T) (n a b : ℕ) → a ≡ length l % n → b ≡ (a + 1) % n → b ≡ length (l ++ x ∷ []) % n
  follows l x n a b e f = next_number (length l) n a b e f ∙ ap (λ (k : ℕ). k % n) (sym (length-append l (x ∷ [])))

  pub may_store_tail : (key slots capacity count slot new id : ℕ) (me at : Seated T) (x : T) → slots ≡ key → slots ≡ capacity → AtPush me capacity count slot true
      → at ≡ (me.0, (slot, Some x) ∷ rest me.1) → new ≡ word_of (count + 1) → Allows (Ring key) slots id at 0 (λ _. new) (λ _ m. sent_one at m)
  may_store_tail key slots capacity count slot new id me at x keyed sized p is new_is =
      let full : Seated T = (me.0, (slot, Some x) ∷ []) in
      subst (λ (m : Seated T). Allows (Ring key) slots id m 0 (λ _. new) (λ _ n. sent_one m n)) (sym (sole me at slot None (Some x) p.out is))
      (subst (λ (n : ℕ). Allows (Ring n) slots id full 0 (λ _. new) (λ _ m. sent_one full m)) keyed
      (sends slots id me.0 x new slot p.produces p.lends_is (next_number (length me.0.sent) (2 ^ 64) count new p.count_is new_is) (p.slot_is ∙ ap (λ (n : ℕ). length me.0.sent % n) (sym sized))))

  pub may_store_head : (key slots capacity count slot new id : ℕ) (me at : Seated T) (x : T) → slots ≡ key → slots ≡ capacity → AtPop me capacity count slot (Some x)
      → at ≡ (me.0, (slot, None) ∷ rest me.1) → new ≡ word_of (count + 1) → Allows (Ring key) slots id at 1 (λ _. new) (λ _ m. got_one at m)
  may_store_head key slots capacity count slot new id me at x keyed sized p is new_is =
      let empty : Seated T = (me.0, (slot, None) ∷ []) in
      subst (λ (m : Seated T). Allows (Ring key) slots id m 1 (λ _. new) (λ _ n. got_one m n)) (sym (sole me at slot (Some x) None p.out is))
      (subst (λ (n : ℕ). Allows (Ring n) slots id empty 1 (λ _. new) (λ _ m. got_one empty m)) keyed
      (gets slots id me.0 x new slot p.consumes p.next_is (next_number (length me.0.got) (2 ^ 64) count new p.count_is new_is) (p.slot_is ∙ ap (λ (n : ℕ). length me.0.got % n) (sym sized))))

  -- after a push the producer's end has no slot out, and its numbers are those of the next item
  pub pushed : (capacity capacity' count count' slot slot' : ℕ) (me at m' : Seated T) (x : T) → AtPush me capacity count slot true → at ≡ (me.0, (slot, Some x) ∷ rest me.1) → sent_one at m'
      → capacity' ≡ capacity → count' ≡ word_of (count + 1) → slot' ≡ (slot + 1) % capacity → AtPush m' capacity' count' slot' false
  pushed capacity capacity' count count' slot slot' me at m' x p is told c e f =
      let w : Seated T = (record me.0 { sent = me.0.sent ++ x ∷ []; lends = false }, []) in
      let m_is : m' ≡ w = told ∙ ap (λ (z : Seated T). (record z.0 { sent = z.0.sent ++ in_hand z.1; lends = false }, rest z.1)) (sole me at slot None (Some x) p.out is) in
      let good : AtPush w capacity count' slot' false = record { produces = p.produces; lends_is = refl; out = refl; count_is = follows me.0.sent x (2 ^ 64) count count' p.count_is e; slot_is = follows me.0.sent x capacity slot slot' p.slot_is f } in
      subst (λ (z : Seated T). AtPush z capacity' count' slot' false) (sym m_is) (subst (λ (k : ℕ). AtPush w k count' slot' false) (sym c) good)

  -- after a pop the consumer's
  pub popped : (capacity capacity' count count' slot slot' : ℕ) (me at m' : Seated T) (x : T) → AtPop me capacity count slot (Some x) → at ≡ (me.0, (slot, None) ∷ rest me.1) → got_one at m'
      → capacity' ≡ capacity → count' ≡ word_of (count + 1) → slot' ≡ (slot + 1) % capacity → AtPop m' capacity' count' slot' None
  popped capacity capacity' count count' slot slot' me at m' x p is told c e f =
      let w : Seated T = (record me.0 { got = me.0.got ++ x ∷ []; next = None }, []) in
      let m_is : m' ≡ w = told ∙ ap (λ (z : Seated T). (record z.0 { got = z.0.got ++ listed z.0.next; next = None }, rest z.1)) (sole me at slot (Some x) None p.out is) ∙ ap (λ (o : Option T). (record me.0 { got = me.0.got ++ listed o; next = None }, [])) p.next_is in
      let good : AtPop w capacity count' slot' None = record { consumes = p.consumes; next_is = refl; out = refl; count_is = follows me.0.got x (2 ^ 64) count count' p.count_is e; slot_is = follows me.0.got x capacity slot slot' p.slot_is f } in
      subst (λ (z : Seated T). AtPop z capacity' count' slot' None) (sym m_is) (subst (λ (k : ℕ). AtPop w k count' slot' None) (sym c) good)
