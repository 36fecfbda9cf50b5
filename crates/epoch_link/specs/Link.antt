-- What contracts see of an end of a link, what a push and a pop answer, and what a link delivers.
use Rattle.std.specs.Prelude.{◌≡◌, ℕ, ◌-◌, ◌^◌, ◌<◌, ◌≤◌, Bool, false, Option, IfSome, List, [], ◌∷◌, ◌++◌, length}
use Rattle.atomic_table.specs.Seated.{TableId}
use Rattle.epoch_link.specs.declared.link.Pushed.{Pushed}
use Rattle.epoch_link.specs.declared.link.Pushed.TheVariants.{Done, Full}
use Rattle.epoch_link.specs.declared.link.Popped.{Popped}
use Rattle.epoch_link.specs.declared.link.Popped.TheVariants.{Item, Empty}

-- the end of a link, by which items are pushed, or popped
pub record EndView (T : Type 0) : Type 0 where
  pub link : TableId
  -- how many items the link holds at most
  pub capacity : ℕ
  -- the items that went through this end, in order
  pub passed : List T
  -- those that went through the other end, where one value is both. Otherwise there are none
  pub other : List T
  -- how many calls were refused. The count stands still at 2 ^ 64 - 1
  pub refusals : ℕ
  -- whether a call goes through as the link stands, where the end can tell
  pub ready : Option Bool

-- the count rose, or it stood at its last value
abbrev pub Rose : ℕ → ℕ → Type 0
Rose before now = before < 2 ^ 64 - 1 → before < now

module _ {T : Type 0} where
  -- it is the same end, which a call may have used
  pub record IsSameEnd (old new : EndView T) : Type 0 where
    pub link : new.link ≡ old.link
    pub capacity : new.capacity ≡ old.capacity
    pub other : new.other ≡ old.other

  -- the item went through it
  pub record HasPassed (item : T) (old new : EndView T) : Type 0 where
    pub passed : new.passed ≡ old.passed ++ item ∷ []
    pub refusals : new.refusals ≡ old.refusals

  -- the call was refused
  pub record HasRefused (old new : EndView T) : Type 0 where
    pub passed : new.passed ≡ old.passed
    pub later : old.refusals ≤ new.refusals
    pub counted : Rose old.refusals new.refusals
    pub not_ready : IfSome old.ready (λ goes. goes ≡ false)

  -- a fact of a push that went through
  abbrev pub OnDone : Pushed T → Type 0 → Type 0
  OnDone Done P = P
  OnDone (Full x) P = Unit {0}

  -- a fact of a push that was refused
  abbrev pub OnFull : Pushed T → Type 0 → Type 0
  OnFull Done P = Unit {0}
  OnFull (Full x) P = P

  -- a fact of the item that comes back
  abbrev pub IfFull : Pushed T → (T → Type 0) → Type 0
  IfFull Done P = Unit {0}
  IfFull (Full x) P = P x

  -- a fact of a pop that went through
  abbrev pub OnItem : Popped T → Type 0 → Type 0
  OnItem (Item x) P = P
  OnItem Empty P = Unit {0}

  -- a fact of the item that was popped
  abbrev pub IfItem : Popped T → (T → Type 0) → Type 0
  IfItem (Item x) P = P x
  IfItem Empty P = Unit {0}

  -- a fact of a pop that was refused
  abbrev pub OnEmpty : Popped T → Type 0 → Type 0
  OnEmpty (Item x) P = Unit {0}
  OnEmpty Empty P = P

  -- What was got is a prefix of what was sent, and the link holds the rest, which is at most its capacity.
  pub record Delivered (sent got : List T) (capacity : ℕ) : Type 0 where
    pub held : List T
    pub in_order : sent ≡ got ++ held
    pub fits : length held ≤ capacity
