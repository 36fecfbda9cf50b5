-- A link on one thread: what contracts see of it, and what its one seat knows.
use Rattle.std.specs.Prelude.{◌≡◌, ℕ, ◌-◌, ◌≤◌, nat_lt, Some, List, [], ◌++◌, length}
use Rattle.atomic_table.specs.Seated.{TableId}
use Rattle.atomic_table.specs.Table.{Me, Step}
use Rattle.epoch_link.specs.Link.{EndView}
use Rattle.epoch_link.specs.declared.list_link.History.{History}

pub record BothEnds (T : Type 0) : Type 0 where
  pub link : TableId
  pub capacity : ℕ
  pub sent : List T
  pub got : List T
  pub push_refusals : ℕ
  pub pop_refusals : ℕ

module _ {T : Type 0} where
  -- nothing was sent
  abbrev pub new_link : TableId → ℕ → BothEnds T
  new_link link capacity = record { link = link; capacity = capacity; sent = []; got = []; push_refusals = 0; pop_refusals = 0 }

  -- how many items the link holds
  abbrev pub held_count : BothEnds T → ℕ
  held_count l = length l.sent - length l.got

  -- its two ends
  abbrev pub outlet_end : BothEnds T → EndView T
  outlet_end l = record {
    link = l.link;
    capacity = l.capacity;
    passed = l.sent;
    other = l.got;
    refusals = l.push_refusals;
    ready = Some (nat_lt (held_count l) l.capacity);
  }

  abbrev pub inlet_end : BothEnds T → EndView T
  inlet_end l = record {
    link = l.link;
    capacity = l.capacity;
    passed = l.got;
    other = l.sent;
    refusals = l.pop_refusals;
    ready = Some (nat_lt 0 (held_count l));
  }

  abbrev pub history : List T → List T → History T
  history s g = record { sent = s; got = g }

  -- a step at which a seat gains what was sent and what was got
  abbrev pub Gains : List T → List T → Step (Unit {0}) → Me (Unit {0}) (History T) → ℕ → Me (Unit {0}) (History T) → Type 0
  Gains sent got st m n w = w ≡ (history (m.0.sent ++ sent) (m.0.got ++ got), m.1)

  -- What a link keeps: the view of its seat, the items that it holds, and the room for them.
  pub record Keeps (table seat : TableId) (view : History T) (items : List T) (capacity room : ℕ) : Type 0 where
    pub seated : seat ≡ table
    pub one_word : table.words ≡ 1
    pub in_order : view.sent ≡ view.got ++ items
    pub fits : length items ≤ capacity
    pub has_room : capacity ≤ room
