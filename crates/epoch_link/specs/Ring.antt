-- The rule of the ring, and what each of its steps tells.
-- The word 0, tail, shows how many items were sent, and the word 1, head, how many were got. The item at a position lies in the slot of this number modulo the number of slots.
use Rattle.std.specs.Prelude.{◌≡◌, ◌≢◌, ℕ, zero, suc, ◌+◌, ◌%◌, ◌<◌, ◌≤◌, List, [], ◌∷◌, ◌++◌, length, Option, Some, None, Bool, true, false, slice_index_or}
use mathlib.Core.Option.{some}
use mathlib.Core.Option as maybe
use lib.ListN.{get_elem?}
use Rattle.atomic_table.specs.Table.{State, Me, Step, rest}
use Rattle.epoch_link.specs.Link.{Delivered}
use Rattle.epoch_link.specs.Words.{word_of, distance}
use Rattle.epoch_link.specs.declared.ring_link.view.View.{View}

-- the item at a position, if there is one
abbrev pub item_at : {T : Type 0} → List T → ℕ → Option T
item_at [] p = None
item_at (x ∷ xs) zero = Some x
item_at (x ∷ xs) (suc p) = item_at xs p

module _ {T : Type 0} where
  -- the view v of the seat j has the producer's part
  abbrev pub Produces : View T → ℕ → ℕ → List T → Bool → Type 0
  Produces v j seat sent lends = (j ≡ seat) × (v.sent ≡ sent) × (v.lends ≡ lends)

  -- the view v of the seat j has the consumer's part
  abbrev pub Consumes : View T → ℕ → ℕ → List T → Option T → Type 0
  Consumes v j seat got next = (j ≡ seat) × (v.got ≡ got) × (v.next ≡ next)

  -- no other seat than these two has the producer's part, or the consumer's
  abbrev pub Seats : ℕ → List T → Bool → ℕ → List T → Option T → List (View T) → Type 0
  Seats producer sent lends consumer got next views = (j : ℕ) (v : View T) → get_elem? views j ≡ some v
      → (v.produces ≡ true → Produces v j producer sent lends) × (v.consumes ≡ true → Consumes v j consumer got next)

  -- the seat has a view with the producer's part
  abbrev pub HasProducer : ℕ → List (View T) → Type 0
  HasProducer seat views = (v : View T) × (get_elem? views seat ≡ some v) × (v.produces ≡ true)

  -- the seat has a view with the consumer's part
  abbrev pub HasConsumer : ℕ → List (View T) → Type 0
  HasConsumer seat views = (v : View T) × (get_elem? views seat ≡ some v) × (v.consumes ≡ true)

  -- Each slot at home has the item of its position, or nothing where none was sent there yet. Out may be the slot of the next item to send and the slot of the next item to get.
  abbrev pub AtHome : ℕ → List T → Bool → List T → Option T → List (maybe.Option (Option T)) → Type 0
  AtHome n sent lends got next homes = (p : ℕ) → length got ≤ p → p < length got + n
      → (p ≡ length sent → lends ≡ true → ⊥) → ((x : T) → p ≡ length got → next ≡ Some x → ⊥)
      → get_elem? homes (p % n) ≡ some (some (item_at sent p))

-- The rule, which holds between any two steps, for a ring of n slots.
pub record Ring {T : Type 0} (n : ℕ) (s : State (Option T) (View T)) : Type 0 where
  pub sent : List T
  pub got : List T
  -- whether the producer has a slot out, and the item in the slot that the consumer has out
  pub lends : Bool
  pub next : Option T
  pub producer : ℕ
  pub consumer : ℕ
  pub some_slot : 0 < n
  pub few_slots : n ≤ 65536
  pub slot_count : length s.homes ≡ n
  pub word_count : length s.words ≡ 2
  pub tail_is : slice_index_or s.words 0 0 ≡ word_of (length sent)
  pub head_is : slice_index_or s.words 1 0 ≡ word_of (length got)
  pub delivered : Delivered sent got n
  pub at_home : AtHome n sent lends got next s.homes
  pub room : lends ≡ true → length delivered.held < n
  pub first : (x : T) → next ≡ Some x → item_at delivered.held 0 ≡ Some x
  -- just one seat has the producer's part, and just one the consumer's
  pub seats : Seats producer sent lends consumer got next s.views
  pub has_producer : HasProducer producer s.views
  pub has_consumer : HasConsumer consumer s.views

abbrev pub Seated : Type 0 → Type 0
Seated T = Me (Option T) (View T)

module _ {T : Type 0} where
  abbrev pub view_of : Bool → Bool → List T → List T → ℕ → ℕ → ℕ → ℕ → Bool → Option T → View T
  view_of p c s g h t a b l n = record { produces = p; consumes = c; sent = s; got = g; head = h; tail = t; push_looks = a; pop_looks = b; lends = l; next = n }

  -- Before the split one view has both parts.
  abbrev pub opening_view : View T
  opening_view = view_of true true [] [] 0 0 0 0 false None

  abbrev pub producers_part : View T → View T
  producers_part v = record v { consumes = false }

  abbrev pub consumers_part : View T → View T
  consumers_part v = record v { produces = false }

  abbrev pub spent_view : View T
  spent_view = view_of false false [] [] 0 0 0 0 false None

  -- After the join one view has both parts again.
  abbrev pub joined : View T → View T → View T
  joined v w = view_of true true v.sent w.got v.head w.tail v.push_looks w.pop_looks v.lends w.next

  abbrev pub seen_head : View T → ℕ → Bool → View T
  seen_head v head lends = record v { head = head; push_looks = v.push_looks + 1; lends = lends }

  -- The producer loads the head, and takes the slot unless the ring is full.
  abbrev pub saw_head : Step (Option T) → Seated T → ℕ → Seated T → Type 0
  saw_head st m head m' =
      (distance (word_of (length m.0.sent)) head ≡ st.slots → m' ≡ (seen_head m.0 head false, m.1))
      × (distance (word_of (length m.0.sent)) head ≢ st.slots → m' ≡ (seen_head m.0 head true, (length m.0.sent % st.slots, None) ∷ m.1))

  abbrev pub listed : Option T → List T
  listed None = []
  listed (Some x) = x ∷ []

  -- what is in the slot that was taken last
  abbrev pub in_hand : List (ℕ × Option T) → List T
  in_hand [] = []
  in_hand (c ∷ cs) = listed c.1

  -- The producer stores the tail: the item in the slot is sent, and the slot goes home.
  abbrev pub sent_one : Seated T → Seated T → Type 0
  sent_one m m' = m' ≡ (record m.0 { sent = m.0.sent ++ in_hand m.1; lends = false }, rest m.1)

  abbrev pub seen_tail : View T → ℕ → Option T → View T
  seen_tail v tail next = record v { tail = tail; pop_looks = v.pop_looks + 1; next = next }

  -- What is left, which a view with both parts sees, begins with the item in the slot that was taken.
  abbrev pub Remains : ℕ → View T → Option T → Type 0
  Remains n v next = (d : Delivered v.sent v.got n) × (item_at d.held 0 ≡ next)

  -- The consumer loads the tail, and takes the slot unless the ring is empty.
  abbrev pub saw_tail : Step (Option T) → Seated T → ℕ → Seated T → Type 0
  saw_tail st m tail m' =
      (tail ≡ word_of (length m.0.got) → m' ≡ (seen_tail m.0 tail None, m.1))
      × (tail ≢ word_of (length m.0.got) → (x : T) × (m' ≡ (seen_tail m.0 tail (Some x), (length m.0.got % st.slots, Some x) ∷ m.1)))
      × (m.0.produces ≡ true → Remains st.slots m.0 m'.0.next)

  -- The consumer stores the head: the item is got, and the slot goes home.
  abbrev pub got_one : Seated T → Seated T → Type 0
  got_one m m' = m' ≡ (record m.0 { got = m.0.got ++ listed m.0.next; next = None }, rest m.1)
