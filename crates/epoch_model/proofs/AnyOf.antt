-- What `list_any` answers over the lists that the definitions build. Two sets are equal where it answers alike.
-- Crates above cite these lemmas.
use Rattle.std.proofs.Common.{◌≡◌, List, [], ◌∷◌, refl, ap, sym, ◌∙◌, Bool, true, false, ◌||◌}
use Rattle.std.specs.List.{list_any, flat_map}
use Rattle.std.specs.FinMap.{IsAntisymmetric}
use Rattle.std.specs.declared.cmp.Ordering.{Ordering}
use Rattle.std.specs.declared.cmp.Ordering.TheVariants.{Less, Equal, Greater}
use Rattle.std.proofs.lemmas.List.Folds.{list_any-append}
use Rattle.std.proofs.Math.Bool.{or-false, or_assoc, or_self_left}
use Rattle.flow_model.specs.declared.Loc.{Loc}
use Rattle.flow_model.specs.declared.SourceByte.{SourceByte}
use Rattle.lists.specs.Sets.{union, inserted, placed}
use Rattle.lists.proofs.Tests.{or-swapped}
use Rattle.flow_model.specs.Origins.{union_over}
use Rattle.flow_model.proofs.Orders.{loc_same, source_same}
use Rattle.epoch_model.specs.Stretch.{locations_over}

or_crossed : (a b c d : Bool) → ((a || b) || (c || d)) ≡ ((a || c) || (b || d))
or_crossed false true true d = refl
or_crossed a b c d = refl

-- either of two tests
pub any_either : {X : Type 0} (f g : X → Bool) (xs : List X) → list_any (λ x. f x || g x) xs ≡ (list_any f xs || list_any g xs)
any_either f g [] = refl
any_either f g (x ∷ xs) = ap (λ (b : Bool). (f x || g x) || b) (any_either f g xs) ∙ or_crossed (f x) (g x) (list_any f xs) (list_any g xs)

pub any_flat : {X Y : Type 0} (f : Y → Bool) (g : X → List Y) (xs : List X) → list_any f (flat_map g xs) ≡ list_any (λ x. list_any f (g x)) xs
any_flat f g [] = refl
any_flat f g (x ∷ xs) = list_any-append f (g x) (flat_map g xs) ∙ ap (λ (b : Bool). list_any f (g x) || b) (any_flat f g xs)

module _ {K : Type 0} {R : K → K → Ordering} (same : IsAntisymmetric R) (f : K → Bool) where
  any_inserted : (x : K) (ys : List K) → list_any f (inserted R x ys) ≡ (f x || list_any f ys)
  any_inserted x [] = refl
  any_inserted x (y ∷ ys) = by (any_inserted x ys) (R x y) refl where
    by : list_any f (inserted R x ys) ≡ (f x || list_any f ys) → (r : Ordering) → R x y ≡ r → list_any f (placed r x y ys (inserted R x ys)) ≡ (f x || (f y || list_any f ys))
    by ih Less e = refl
    by ih Equal e = sym (or_self_left (f y) (list_any f ys)) ∙ ap (λ (z : K). f z || (f y || list_any f ys)) (sym (same x y e))
    by ih Greater e = ap (λ (b : Bool). f y || b) ih ∙ or-swapped (f y) (f x) (list_any f ys)

  pub any_union : (xs ys : List K) → list_any f (union R xs ys) ≡ (list_any f xs || list_any f ys)
  any_union [] ys = refl
  any_union (x ∷ xs) ys = any_inserted x (union R xs ys) ∙ ap (λ (b : Bool). f x || b) (any_union xs ys) ∙ sym (or_assoc (f x) (list_any f xs) (list_any f ys))

pub any_union_over : (f : SourceByte → Bool) (before : Loc → List SourceByte) (ls : List Loc) → list_any f (union_over before ls) ≡ list_any (λ l. list_any f (before l)) ls
any_union_over f before [] = refl
any_union_over f before (l ∷ []) = sym (or-false (list_any f (before l)))
any_union_over f before (l ∷ m ∷ ls) = any_union source_same f (before l) (union_over before (m ∷ ls)) ∙ ap (λ (b : Bool). list_any f (before l) || b) (any_union_over f before (m ∷ ls))

pub any_locations_over : (f : Loc → Bool) (before : Loc → List Loc) (ls : List Loc) → list_any f (locations_over before ls) ≡ list_any (λ l. list_any f (before l)) ls
any_locations_over f before [] = refl
any_locations_over f before (l ∷ []) = sym (or-false (list_any f (before l)))
any_locations_over f before (l ∷ m ∷ ls) = any_union loc_same f (before l) (locations_over before (m ∷ ls)) ∙ ap (λ (b : Bool). list_any f (before l) || b) (any_locations_over f before (m ∷ ls))
