-- What a wire shows: what came over it and what went, in order.
use Rattle.std.specs.Prelude.{ℕ, zero, suc, Bool, true, false, List, [], ◌∷◌, ◌++◌, Option}

-- bytes that came, or that went, at once
pub data Passed : Type 0 where
  Came : List ℕ → Passed
  Went : List ℕ → Passed

pub record WireShown : Type 0 where
  -- what passed so far, if it tells it
  pub history : Option (List Passed)
  -- how often it failed
  pub faults : ℕ

-- all bytes that came
abbrev pub came : List Passed → List ℕ
came [] = []
came (Came bytes ∷ more) = bytes ++ came more
came (Went bytes ∷ more) = came more

-- all bytes that went
abbrev pub went : List Passed → List ℕ
went [] = []
went (Came bytes ∷ more) = went more
went (Went bytes ∷ more) = bytes ++ went more

-- the wire was found at its end: bytes were asked for, and none came
abbrev pub is_at_end : List Passed → Bool
is_at_end [] = false
is_at_end (Came [] ∷ more) = true
is_at_end (Came (byte ∷ bytes) ∷ more) = is_at_end more
is_at_end (Went bytes ∷ more) = is_at_end more

-- ---- what one call makes pass

-- bytes were received into a buffer of this room. Into nothing nothing passes
abbrev pub received : ℕ → List ℕ → List Passed
received zero bytes = []
received (suc room) bytes = Came bytes ∷ []

-- bytes were sent. Where there are none nothing passes
abbrev pub sent : List ℕ → List Passed
sent [] = []
sent (byte ∷ bytes) = Went (byte ∷ bytes) ∷ []
