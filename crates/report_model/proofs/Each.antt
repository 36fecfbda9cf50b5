-- Each element of a list, by recursion, and what that comes to of lists that are mapped, filtered and joined.
use Rattle.std.proofs.Common.{List, [], ◌∷◌}
use Rattle.std.specs.List.{AllByRecursion, flat_map}
use Rattle.lists.proofs.Lists.{all-append}

module _ {X : Type 0} where
  pub each-both : (P Q : X → Type 0) (xs : List X) → AllByRecursion P xs → AllByRecursion Q xs → AllByRecursion (λ x. P x × Q x) xs
  each-both P Q [] p q = tt
  each-both P Q (x ∷ xs) p q = ((p.0, q.0), each-both P Q xs p.1 q.1)

  pub each-trivial : (xs : List X) → AllByRecursion (λ x. Unit {0}) xs
  each-trivial [] = tt
  each-trivial (x ∷ xs) = (tt, each-trivial xs)

pub all-flat : {X Y : Type 0} (P : Y → Type 0) (f : X → List Y) (xs : List X) → AllByRecursion (λ x. AllByRecursion P (f x)) xs → AllByRecursion P (flat_map f xs)
all-flat P f [] a = tt
all-flat P f (x ∷ xs) a = all-append P (f x) (flat_map f xs) a.0 (all-flat P f xs a.1)
