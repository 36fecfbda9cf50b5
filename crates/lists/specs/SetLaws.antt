-- What the definitions of sets come to, by any total order.
use Rattle.std.specs.Prelude.{◌≡◌, ◌↔◌, true, ◌||◌, List, Contains}
use Rattle.std.specs.Cmp.{IsTotalOrder}
use Rattle.std.specs.FinMap.{IsAntisymmetric}
use Rattle.std.specs.Ordering.{eq_by_cmp}
use Rattle.std.specs.declared.cmp.Ordering.{Ordering}
use Rattle.lists.specs.Sets.{inserted, union, set_of, has, is_within, Ascends}

-- a set with one more, a union of sets and the set of a list ascend
abbrev pub InsertedAscends : Type 0 → Type 0
InsertedAscends X = (R : X → X → Ordering) → IsTotalOrder R → (x : X) (ys : List X) → Ascends R ys → Ascends R (inserted R x ys)

abbrev pub UnionAscends : Type 0 → Type 0
UnionAscends X = (R : X → X → Ordering) → IsTotalOrder R → (xs ys : List X) → Ascends R ys → Ascends R (union R xs ys)

abbrev pub SetOfAscends : Type 0 → Type 0
SetOfAscends X = (R : X → X → Ordering) → IsTotalOrder R → (xs : List X) → Ascends R (set_of R xs)

-- q is in a set with one more exactly where it is that one or was there, in a union exactly where it is in one of both,
-- in the set of a list exactly where it is in the list
abbrev pub InsertedHas : Type 0 → Type 0
InsertedHas X = (R : X → X → Ordering) → IsTotalOrder R → (x : X) (ys : List X) (q : X) → has R q (inserted R x ys) ≡ (eq_by_cmp R q x || has R q ys)

abbrev pub UnionHas : Type 0 → Type 0
UnionHas X = (R : X → X → Ordering) → IsTotalOrder R → (xs ys : List X) (q : X) → has R q (union R xs ys) ≡ (has R q xs || has R q ys)

abbrev pub SetOfHas : Type 0 → Type 0
SetOfHas X = (R : X → X → Ordering) → IsTotalOrder R → (xs : List X) (q : X) → has R q (set_of R xs) ≡ has R q xs

-- where only the same tie, the members by the order are the elements of the list
abbrev pub MembersAreElements : Type 0 → Type 0
MembersAreElements X = (R : X → X → Ordering) → IsTotalOrder R → IsAntisymmetric R → (xs : List X) (q : X)
    → (has R q xs ≡ true) ↔ Contains xs q

-- where only the same tie, ascending lists with the same members are equal: a set has one list
abbrev pub HaveOneList : Type 0 → Type 0
HaveOneList X = (R : X → X → Ordering) → IsTotalOrder R → IsAntisymmetric R → (xs ys : List X) → Ascends R xs → Ascends R ys
    → ((q : X) → has R q xs ≡ has R q ys) → xs ≡ ys

-- where only the same tie, the order and the grouping of a union make no difference
abbrev pub UnionCommutes : Type 0 → Type 0
UnionCommutes X = (R : X → X → Ordering) → IsTotalOrder R → IsAntisymmetric R → (xs ys : List X) → Ascends R xs → Ascends R ys
    → union R xs ys ≡ union R ys xs

abbrev pub UnionAssociates : Type 0 → Type 0
UnionAssociates X = (R : X → X → Ordering) → IsTotalOrder R → IsAntisymmetric R → (xs ys zs : List X) → Ascends R ys → Ascends R zs
    → union R xs (union R ys zs) ≡ union R (union R xs ys) zs

-- a set within another adds nothing to it
abbrev pub UnionWithin : Type 0 → Type 0
UnionWithin X = (R : X → X → Ordering) → IsTotalOrder R → (xs ys : List X) → Ascends R ys
    → is_within R xs ys ≡ true → union R xs ys ≡ ys
