-- What a value of the outside tells, where it tells anything.
use Rattle.std.specs.Prelude.{◌≡◌, List, ◌++◌, length, take, Option, Some, None}

-- where it still tells after the calls, it told before them, and the two states are so related
abbrev pub Tells : {A : Type 0} → Option A → Option A → (A → A → Type 0) → Type 0
Tells old None R = Unit {0}
Tells None (Some new) R = ⊥
Tells (Some old) (Some new) R = R old new

-- the list gained these at its end
abbrev pub Gains : {A : Type 0} → List A → List A → List A → Type 0
Gains more old new = new ≡ old ++ more

abbrev pub IsPrefix : {A : Type 0} → List A → List A → Type 0
IsPrefix front whole = take (length front) whole ≡ front

-- the list gained the first of these
pub record GainsPrefix {A : Type 0} (more old new : List A) : Type 0 where
  pub gained : List A
  pub is_prefix : IsPrefix gained more
  pub gains : new ≡ old ++ gained
