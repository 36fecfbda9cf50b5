-- The place of one more member in a set.
use Rattle.std.proofs.Common.{◌≡◌, ℕ, zero, suc, ◌-◌, ◌<◌, ◌≤◌, List, [], ◌∷◌, ◌++◌, length, take, drop, get_or, refl, ap, ap₂, sym, ◌∙◌, subst, arith, ⊎_elim}
use Rattle.std.specs.Prelude.{Result, Ok, Err, OnOk, OnErr, Some, slice_get}
use Rattle.std.specs.List.Sorted.{IsBinarySearchResult}
use Rattle.std.specs.Cmp.{IsTotalOrder, tied_back}
use Rattle.std.specs.Ordering.{eq_by_cmp, is_eq}
use Rattle.std.specs.declared.cmp.Ordering.{Ordering}
use Rattle.std.specs.declared.cmp.Ordering.TheVariants.{Less, Greater}
use Rattle.std.proofs.lemmas.Bool.{cases_lt}
use Rattle.std.proofs.lemmas.List.{take_all, drop_all}
use Rattle.std.proofs.lemmas.List.Folds.{list_any_at}
use Rattle.std.proofs.lemmas.Option.{slice_get-get_or}
use Rattle.lists.specs.Sets.{inserted, placed, Ascends}
use Rattle.lists.proofs.Algebra.{less_turned, greater_turned, Ascends-at, inserted_member, Ascends-inserted}
use Rattle.no_memory.specs.declared.NoMemory.{NoMemory}
use Rattle.flow_model.specs.declared.SourceByte.{SourceByte}
use Rattle.flow_model.specs.Orders.{source_cmp}
use Rattle.flow_model.proofs.Orders.{source_total}
use Rattle.lists.proofs.Places.{rising}
use Rattle.answer_sets.proofs.Members.{compared, order_is}

module _ {K : Type 0} {R : K → K → Ordering} (o : IsTotalOrder R) where
  -- it comes before the member at i, and after all that stand before that
  pub inserted_at : (x : K) (xs : List K) (i : ℕ) → i ≤ length xs
      → ((j : ℕ) (d : K) → j < i → R (get_or xs j d) x ≡ Less)
      → ((d : K) → i < length xs → R (get_or xs i d) x ≡ Greater)
      → inserted R x xs ≡ take i xs ++ x ∷ drop i xs
  inserted_at x [] zero h before after = refl
  inserted_at x [] (suc i) h before after = absurd (omega arith)
  inserted_at x (y ∷ ys) zero h before after = ap (λ (r : Ordering). placed r x y ys (inserted R x ys)) (greater_turned o y x (after x (omega arith)))
  inserted_at x (y ∷ ys) (suc i) h before after =
      ap (λ (r : Ordering). placed r x y ys (inserted R x ys)) (less_turned o y x (before 0 x (omega arith)))
      ∙ ap (λ (zs : List K). y ∷ zs) (inserted_at x ys i (omega arith) (λ j d k. before (suc j) d (omega arith)) (λ d k. after d (omega arith)))

  -- after the last member, it comes after all
  pub inserted_last : (x last : K) (xs : List K) → Ascends R xs → slice_get xs (length xs - 1) ≡ Some last → R last x ≡ Less
      → inserted R x xs ≡ xs ++ x ∷ []
  inserted_last x last xs a at less =
      inserted_at x xs (length xs) (omega arith) before (λ d h. absurd (omega (arith, h)))
      ∙ ap₂ (λ (ys zs : List K). ys ++ x ∷ zs) (take_all (length xs) xs (omega arith)) (drop_all (length xs) xs (omega arith)) where
        before : (j : ℕ) (d : K) → j < length xs → R (get_or xs j d) x ≡ Less
        before j d h =
            let within : length xs - 1 < length xs = omega (arith, h) in
            let is_last : get_or xs (length xs - 1) d ≡ last =
            (let same : Some (get_or xs (length xs - 1) d) ≡ Some last = sym (slice_get-get_or xs (length xs - 1) d within) ∙ at in cc) in
            ⊎_elim
            (λ inner. o.trans (get_or xs j d) (get_or xs (length xs - 1) d) x (Ascends-at o xs j (length xs - 1) d a inner within) (ap (λ (y : K). R y x) is_last ∙ less))
            (λ outer.
            let same : j ≡ length xs - 1 = omega (arith, h, outer) in
            ap (λ (n : ℕ). R (get_or xs n d) x) same ∙ ap (λ (y : K). R y x) is_last ∙ less)
            (cases_lt j (length xs - 1))

  -- ---- what a binary search finds

  -- of the members, as they were searched
  module _ (xs members : List K) (x : K) (same : xs ≡ members) (a : Ascends R members) (i : ℕ) where
    ascends : Ascends R xs
    ascends = subst (Ascends R) (sym same) a

    -- a member stays as it is
    pub stands : i < length xs → IsBinarySearchResult (λ y. R y x) xs (Ok i) → members ≡ inserted R x members
    stands h at =
        subst (λ ys. ys ≡ inserted R x ys) same (sym (inserted_member o x xs ascends (list_any_at (eq_by_cmp R x) xs i x h (ap is_eq (tied_back o _ x (at x))))))

    -- any other comes to its place
    pub takes_place : i ≤ length xs → IsBinarySearchResult (λ y. R y x) xs (Err i) → (new : List K) → new ≡ take i members ++ x ∷ drop i members → new ≡ inserted R x members
    takes_place h at new e =
        let parted = at (rising o xs x ascends) in
        e ∙ subst (λ ys. take i ys ++ x ∷ drop i ys ≡ inserted R x ys) same (sym (inserted_at x xs i h (λ j d k. parted.0 j d (omega arith) k) (λ d k. parted.1 i d (omega arith) k)))

-- source bytes ascend with one more, and without it where there is no memory for it
pub ascends_after : (b : SourceByte) (r : Result (Unit {0}) NoMemory) (old new : List SourceByte) → Ascends source_cmp old
    → OnOk r (new ≡ inserted compared b old) → OnErr r (new ≡ old) → Ascends source_cmp new
ascends_after b (Ok u) old new a added same =
    subst (Ascends source_cmp) (sym (added ∙ ap (λ (R : SourceByte → SourceByte → Ordering). inserted R b old) order_is)) (Ascends-inserted source_total b old a)
ascends_after b (Err e) old new a added same = subst (Ascends source_cmp) (sym same) a
