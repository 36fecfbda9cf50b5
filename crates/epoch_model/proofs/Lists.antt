-- What holds of each element of lists that are joined, filtered and mapped.
use Rattle.std.proofs.Common.{◌≡◌, List, [], ◌∷◌, ◌++◌, Bool, ◌||◌, refl, ap₂}
use Rattle.std.specs.List.{flat_map, list_any, AllByRecursion}
use Rattle.lists.proofs.Lists.{all-append}

module _ {X : Type 0} where
  pub any_agreeing : (f g : X → Bool) (xs : List X) → AllByRecursion (λ x. f x ≡ g x) xs → list_any f xs ≡ list_any g xs
  any_agreeing f g [] h = refl
  any_agreeing f g (x ∷ xs) h = ap₂ (λ (a b : Bool). a || b) h.0 (any_agreeing f g xs h.1)

module _ {X Y : Type 0} where
  pub flat_agreeing : (f g : X → List Y) (xs : List X) → AllByRecursion (λ x. f x ≡ g x) xs → flat_map f xs ≡ flat_map g xs
  flat_agreeing f g [] h = refl
  flat_agreeing f g (x ∷ xs) h = ap₂ (◌++◌) h.0 (flat_agreeing f g xs h.1)
