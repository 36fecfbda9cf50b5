-- What passed over a wire in memory, and what is still to come.
use Rattle.std.specs.Prelude.{ℕ, ◌-◌, List, [], ◌∷◌, ◌++◌, length, take, drop}
use Rattle.outer_wire.specs.Wires.{Passed, Came, Went, received, sent}
use Rattle.memory_wire.specs.declared.step.Step.{Step}
use Rattle.memory_wire.specs.declared.step.Step.TheVariants.{Received, Sent}

-- ---- as it is kept

-- what passed at these calls, of bytes that come and of bytes that went
abbrev pub passed_in : List ℕ → List ℕ → List Step → List Passed
passed_in coming gone [] = []
passed_in coming gone (Received n ∷ steps) = Came (take n coming) ∷ passed_in (drop n coming) gone steps
passed_in coming gone (Sent n ∷ steps) = Went (take n gone) ∷ passed_in coming (drop n gone) steps

-- which way it passed, and how many bytes
abbrev pub step_of : Passed → Step
step_of (Came bytes) = Received (length bytes)
step_of (Went bytes) = Sent (length bytes)

-- ---- as it is seen

pub record PassingAt : Type 0 where
  -- the bytes that come from now on
  pub coming : List ℕ
  -- what passed so far
  pub history : List Passed
  -- how many bytes can go, and how many calls can be made
  pub room : ℕ
  pub calls_left : ℕ

-- so many bytes were received into a buffer of this room
abbrev pub after_receive : ℕ → ℕ → PassingAt → PassingAt
after_receive room n p = record p {
  coming = drop n p.coming;
  history = p.history ++ received room (take n p.coming);
  calls_left = p.calls_left - 1;
}

abbrev pub after_send : List ℕ → PassingAt → PassingAt
after_send piece p = record p {
  history = p.history ++ sent piece;
  room = p.room - length piece;
  calls_left = p.calls_left - 1;
}
