-- The first fault that a table of tests finds.
use Rattle.std.specs.Prelude.{Bool, if◌then◌else◌, List, [], ◌∷◌, Option, Some, None}

-- the name beside the first test that is true; none where all are false
abbrev pub first_true : {X : Type 0} → List (Bool × X) → Option X
first_true [] = None
first_true (row ∷ rows) = if row.0 then Some row.1 else first_true rows
