-- Sets, as ascending lists without repeats, of any element type and by any order of it.
use Rattle.std.specs.Prelude.{◌≡◌, Bool, List, [], ◌∷◌}
use Rattle.std.specs.List.{list_any, list_all}
use Rattle.std.specs.Ordering.{eq_by_cmp}
use Rattle.std.specs.declared.cmp.Ordering.{Ordering}
use Rattle.std.specs.declared.cmp.Ordering.TheVariants.{Less, Equal, Greater}

-- x before y, in its place, or further on
abbrev pub placed : {X : Type 0} → Ordering → X → X → List X → List X → List X
placed Less x y ys deeper = x ∷ y ∷ ys
placed Equal x y ys deeper = y ∷ ys
placed Greater x y ys deeper = y ∷ deeper

-- the set with one more: x at its place in the order, or the set itself where it has x
abbrev pub inserted : {X : Type 0} → (X → X → Ordering) → X → List X → List X
inserted R x [] = x ∷ []
inserted R x (y ∷ ys) = placed (R x y) x y ys (inserted R x ys)

-- the set of what one of both has
abbrev pub union : {X : Type 0} → (X → X → Ordering) → List X → List X → List X
union R [] ys = ys
union R (x ∷ xs) ys = inserted R x (union R xs ys)

-- the set of the members of a list in any order
abbrev pub set_of : {X : Type 0} → (X → X → Ordering) → List X → List X
set_of R [] = []
set_of R (x ∷ xs) = inserted R x (set_of R xs)

-- x is a member: the order has one of the list equal to it
abbrev pub has : {X : Type 0} → (X → X → Ordering) → X → List X → Bool
has R x xs = list_any (eq_by_cmp R x) xs

-- each of the first list is a member of the second
abbrev pub is_within : {X : Type 0} → (X → X → Ordering) → List X → List X → Bool
is_within R xs ys = list_all (λ x. has R x ys) xs

-- x is below each of the list
abbrev pub IsBelow : {X : Type 0} → (X → X → Ordering) → X → List X → Type 0
IsBelow R x [] = Unit {0}
IsBelow R x (y ∷ ys) = (R x y ≡ Less) × IsBelow R x ys

-- the list ascends, and so has no repeats
abbrev pub Ascends : {X : Type 0} → (X → X → Ordering) → List X → Type 0
Ascends R [] = Unit {0}
Ascends R (x ∷ xs) = IsBelow R x xs × Ascends R xs
