-- What holds of the items of lists, of lists that are appended, and of lists from the last to the first.
use Rattle.std.proofs.Common.{inl, inr, ◌≡◌, ◌⊎◌, suc, List, [], ◌∷◌, ◌++◌, reverse, length, refl, ap, subst, subst₂, sym, ◌∙◌, append_assoc, arith}
use Rattle.std.specs.Prelude.{All, Any, zip}
use Rattle.std.specs.List.{AllZip}
use Rattle.std.proofs.lemmas.List.{reverse-append, reverse-reverse, length-reverse}
use Rattle.std.proofs.lemmas.List.Elements.{All-nil, All-cons, All-head, All-tail, All-push, AllZip-push}
use Rattle.std.proofs.lemmas.Grind.{reverse_onto}

pub one_before : {X : Type 0} (x : X) (xs : List X) → reverse xs ++ x ∷ [] ≡ reverse (x ∷ xs)
one_before x xs = sym (reverse_onto xs x [])

-- the last of these goes on top of a stack, and all stay in order
pub goes_on_top : {X : Type 0} (items items' stack stack' all : List X) (x : X) → items ≡ items' ++ x ∷ [] → stack' ≡ stack ++ x ∷ []
    → items ++ reverse stack ≡ all → items' ++ reverse stack' ≡ all
goes_on_top items items' stack stack' all x i s h =
    ap (λ xs. items' ++ reverse xs) s ∙ ap (λ xs. items' ++ xs) (reverse-append stack (x ∷ []))
    ∙ sym (append_assoc items' (x ∷ []) (reverse stack)) ∙ ap (λ xs. xs ++ reverse stack) (sym i) ∙ h

module _ {X : Type 0} (P : X → Type 0) where
  pub all_front : (xs ys : List X) → All P (xs ++ ys) → All P xs
  all_front [] ys h = All-nil P
  all_front (x ∷ xs) ys h = All-cons P x xs (All-head P x (xs ++ ys) h) (all_front xs ys (All-tail P x (xs ++ ys) h))

  pub all_rest : (xs ys : List X) → All P (xs ++ ys) → All P ys
  all_rest [] ys h = h
  all_rest (x ∷ xs) ys h = all_rest xs ys (All-tail P x (xs ++ ys) h)

  pub all_last : (xs : List X) (y : X) → All P (xs ++ y ∷ []) → P y
  all_last [] y h = All-head P y [] h
  all_last (x ∷ xs) y h = all_last xs y (All-tail P x (xs ++ y ∷ []) h)

  pub all_reverse : (xs : List X) → All P xs → All P (reverse xs)
  all_reverse [] h = h
  all_reverse (x ∷ xs) h =
      subst (All P) (one_before x xs) (All-push P (reverse xs) x (all_reverse xs (All-tail P x xs h)) (All-head P x xs h))

  pub all_back : (xs : List X) → All P (reverse xs) → All P xs
  all_back xs h = subst (All P) (reverse-reverse xs) (all_reverse (reverse xs) h)

module _ {X : Type 0} (R : X → X → Type 0) where
  pub all_zip_append : (xs ys vs ws : List X) → AllZip R xs ys → AllZip R vs ws → AllZip R (xs ++ vs) (ys ++ ws)
  all_zip_append [] [] vs ws h k = k
  all_zip_append (x ∷ xs) (y ∷ ys) vs ws h k = (h.0, all_zip_append xs ys vs ws h.1 k)
  all_zip_append xs ys vs ws h k = absurd h

  pub all_zip_reverse : (xs ys : List X) → AllZip R xs ys → AllZip R (reverse xs) (reverse ys)
  all_zip_reverse [] [] h = h
  all_zip_reverse (x ∷ xs) (y ∷ ys) h =
      subst₂ (AllZip R) (one_before x xs) (one_before y ys) (AllZip-push R (reverse xs) (reverse ys) x y (all_zip_reverse xs ys h.1) h.0)
  all_zip_reverse xs ys h = absurd h

  -- it holds somewhere
  abbrev pub AnyZip : List X → List X → Type 0
  AnyZip [] ys = ⊥
  AnyZip (x ∷ xs) [] = ⊥
  AnyZip (x ∷ xs) (y ∷ ys) = R x y ⊎ AnyZip xs ys

  pub any_before : (xs ys : List X) (x y : X) → AnyZip xs ys → AnyZip (xs ++ x ∷ []) (ys ++ y ∷ [])
  any_before (a ∷ xs) (b ∷ ys) x y (inl h) = inl h
  any_before (a ∷ xs) (b ∷ ys) x y (inr h) = inr (any_before xs ys x y h)
  any_before xs ys x y h = absurd h

  pub any_last : (xs ys : List X) (x y : X) → length xs ≡ length ys → R x y → AnyZip (xs ++ x ∷ []) (ys ++ y ∷ [])
  any_last [] [] x y n h = inl h
  any_last (a ∷ xs) (b ∷ ys) x y n h = inr (any_last xs ys x y (omega (arith, n)) h)
  any_last xs ys x y n h = absurd (omega (arith, n))

  pub any_reverse : (xs ys : List X) → length xs ≡ length ys → AnyZip xs ys → AnyZip (reverse xs) (reverse ys)
  any_reverse (x ∷ xs) (y ∷ ys) n h = subst₂ AnyZip (one_before x xs) (one_before y ys) (by (any_reverse xs ys (omega (arith, n))) h) where
    by : (AnyZip xs ys → AnyZip (reverse xs) (reverse ys)) → R x y ⊎ AnyZip xs ys → AnyZip (reverse xs ++ x ∷ []) (reverse ys ++ y ∷ [])
    by back (inl h) = let same : length xs ≡ length ys = omega (arith, n) in any_last (reverse xs) (reverse ys) x y (length-reverse xs ∙ same ∙ sym (length-reverse ys)) h
    by back (inr h) = any_before (reverse xs) (reverse ys) x y (back h)
  any_reverse xs ys n h = absurd h

  pub any_in_zip : (xs ys : List X) → AnyZip xs ys → Any (λ (p : X × X). R p.0 p.1) (zip xs ys)
  any_in_zip (x ∷ xs) (y ∷ ys) (inl h) = (0, (x, y), omega arith, refl, h)
  any_in_zip (x ∷ xs) (y ∷ ys) (inr h) = let r = any_in_zip xs ys h in (suc r.0, r.1, omega (arith, r.2), r.3, r.4)
  any_in_zip xs ys h = absurd h
