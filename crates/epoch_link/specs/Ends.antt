-- What contracts see of the two ends of a ring, and what the ends keep.
use Rattle.std.specs.Prelude.{◌≡◌, ℕ, ◌%◌, List, [], ◌∷◌, ◌++◌, length, drop, Option, Some, None, Bool, true, false, is_some}
use Rattle.atomic_table.specs.Seated.{TableId}
use Rattle.epoch_link.specs.Link.{EndView}
use Rattle.epoch_link.specs.Words.{word_of}
use Rattle.epoch_link.specs.Ring.{Seated, item_at}
use Rattle.epoch_link.specs.declared.ring_link.view.View.{View}

-- the end that pushes: `head` is the word head as the last of its looks found it
pub record Producing (T : Type 0) : Type 0 where
  pub link : TableId
  pub capacity : ℕ
  pub sent : List T
  pub refusals : ℕ
  pub head : ℕ
  pub looks : ℕ

-- the end that pops: `tail` is the word tail as the last of its looks found it
pub record Consuming (T : Type 0) : Type 0 where
  pub link : TableId
  pub capacity : ℕ
  pub got : List T
  pub refusals : ℕ
  pub tail : ℕ
  pub looks : ℕ

module _ {T : Type 0} where
  abbrev pub new_producer : TableId → ℕ → Producing T
  new_producer link capacity = record { link = link; capacity = capacity; sent = []; refusals = 0; head = 0; looks = 0 }

  abbrev pub new_consumer : TableId → ℕ → Consuming T
  new_consumer link capacity = record { link = link; capacity = capacity; got = []; refusals = 0; tail = 0; looks = 0 }

  -- neither end sees what went through the other, or whether a call goes through
  abbrev pub producer_end : Producing T → EndView T
  producer_end p = record { link = p.link; capacity = p.capacity; passed = p.sent; other = []; refusals = p.refusals; ready = None }

  abbrev pub consumer_end : Consuming T → EndView T
  consumer_end c = record { link = c.link; capacity = c.capacity; passed = c.got; other = []; refusals = c.refusals; ready = None }

  -- the slot that the producer has out
  abbrev pub empty_slot : ℕ → Bool → List (ℕ × Option T)
  empty_slot slot false = []
  empty_slot slot true = (slot, None) ∷ []

  -- the slot that the consumer has out
  abbrev pub filled_slot : ℕ → Option T → List (ℕ × Option T)
  filled_slot slot None = []
  filled_slot slot (Some x) = (slot, Some x) ∷ []

  -- a seat with the producer's part, and the end's own count and slot
  pub record AtPush (me : Seated T) (capacity count slot : ℕ) (lends : Bool) : Type 0 where
    pub produces : me.0.produces ≡ true
    pub lends_is : me.0.lends ≡ lends
    pub out : me.1 ≡ empty_slot slot lends
    pub count_is : count ≡ word_of (length me.0.sent)
    pub slot_is : slot ≡ length me.0.sent % capacity

  -- a seat with the consumer's part, and the end's own count and slot
  pub record AtPop (me : Seated T) (capacity count slot : ℕ) (next : Option T) : Type 0 where
    pub consumes : me.0.consumes ≡ true
    pub next_is : me.0.next ≡ next
    pub out : me.1 ≡ filled_slot slot next
    pub count_is : count ≡ word_of (length me.0.got)
    pub slot_is : slot ≡ length me.0.got % capacity

  -- what was sent and not got
  abbrev pub left_of : View T → List T
  left_of v = drop (length v.got) v.sent

  -- a seat with both parts, which has looked at what is left
  pub record AtRest (me : Seated T) (capacity count slot : ℕ) (has_next : Bool) : Type 0 where
    pub produces : me.0.produces ≡ true
    pub pops : AtPop me capacity count slot (item_at (left_of me.0) 0)
    pub in_order : me.0.sent ≡ me.0.got ++ left_of me.0
    pub told : has_next ≡ is_some (item_at (left_of me.0) 0)
