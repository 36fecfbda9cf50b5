-- Lists, and what holds of each of their elements.
use Rattle.std.proofs.Common.{◌≡◌, ◌≢◌, ℕ, zero, suc, Some, List, [], ◌∷◌, ◌++◌, length, set, ap, sym, refl, subst, ◌∙◌, append-nil, arith, All}
use Rattle.std.specs.List.{slice_get}
use Rattle.std.proofs.lemmas.List.{nil_from_length}
use Rattle.std.proofs.lemmas.List.Elements.{All-nil, All-cons, All-head, All-tail}
use mathlib.Core.Option.{some, some-injective, some-ne-none}
use lib.ListN.{get_elem?}

-- what stands in a list stands at the same place of a longer one
pub get_longer : {X : Type 0} (xs ys : List X) (i : ℕ) (x : X) → slice_get xs i ≡ Some x → slice_get (xs ++ ys) i ≡ Some x
get_longer [] ys i x e = absurd cc
get_longer (y ∷ xs) ys zero x e = e
get_longer (y ∷ xs) ys (suc i) x e = get_longer xs ys i x e

pub get_last : {X : Type 0} (xs : List X) (n : ℕ) (x : X) → length xs ≡ n → slice_get (xs ++ x ∷ []) n ≡ Some x
get_last [] zero x e = refl
get_last (y ∷ xs) (suc n) x e = get_last xs n x (omega arith)
get_last xs n x e = absurd (omega arith)

-- what comes before no more elements is all
pub all_before : {X : Type 0} (xs rest ys : List X) → length rest ≡ 0 → xs ++ rest ≡ ys → xs ≡ ys
all_before xs rest ys none is = sym (append-nil xs) ∙ ap (λ l. xs ++ l) (sym (nil_from_length rest none)) ∙ is

module _ {X : Type 0} (P : X → Type 0) where
  pub All-at : (xs : List X) (i : ℕ) (x : X) → get_elem? xs i ≡ some x → All P xs → P x
  All-at [] i x e all = absurd (some-ne-none x (sym e))
  All-at (y ∷ ys) zero x e all = subst P (some-injective y x e) (All-head P y ys all)
  All-at (y ∷ ys) (suc i) x e all = All-at ys i x e (All-tail P y ys all)

  pub All-from_at : (xs : List X) → ((i : ℕ) (x : X) → get_elem? xs i ≡ some x → P x) → All P xs
  All-from_at [] each = All-nil P
  All-from_at (y ∷ ys) each = All-cons P y ys (each 0 y refl) (All-from_at ys (λ i x e. each (suc i) x e))

  -- after a change of one
  pub All-changed : (xs : List X) (i : ℕ) (y : X) → P y → ((j : ℕ) (x : X) → j ≢ i → get_elem? xs j ≡ some x → P x) → All P (set xs i y)
  All-changed [] i y one others = All-nil P
  All-changed (x ∷ xs) zero y one others = All-cons P y xs one (All-from_at xs (λ j z e. others (suc j) z (λ h. omega arith) e))
  All-changed (x ∷ xs) (suc i) y one others = All-cons P x (set xs i y) (others 0 x (λ h. omega arith) refl) (All-changed xs i y one (λ j z apart e. others (suc j) z (λ h. apart (omega arith)) e))
