-- Answers by the numbers of their sets, as a set and an answer more come.
use Rattle.std.proofs.Common.{◌≡◌, ℕ, ◌<◌, List, [], ◌∷◌, ◌++◌, map, length, get_or, refl, ap, ap₂, sym, subst, ◌∙◌, arith}
use Rattle.std.specs.Prelude.{All}
use Rattle.std.specs.List.{AllByRecursion}
use Rattle.std.proofs.lemmas.List.{map-append, get_or_append_left, get_or_push, length-append, length-map}
use Rattle.std.proofs.lemmas.List.Elements.{recursion_from_All, All-push}
use Rattle.flow_model.specs.declared.SourceByte.{SourceByte}
use Rattle.flow_model.specs.Orders.{source_cmp}
use Rattle.lists.specs.Sets.{Ascends}
use Rattle.answer_sets.specs.Kept.{AreKept, answers_in}

module _ (sets : List (List SourceByte)) (set : List SourceByte) where
  unchanged : (numbers : List ℕ) → AllByRecursion (λ n. n < length sets) numbers → answers_in (sets ++ set ∷ []) numbers ≡ answers_in sets numbers
  unchanged [] h = refl
  unchanged (n ∷ ns) h =
      ap₂ (λ (x : List SourceByte) (xs : List (List SourceByte)). x ∷ xs) (get_or_append_left sets (set ∷ []) [] n h.0) (unchanged ns h.1)

  module _ (numbers : List ℕ) (kept : AreKept sets numbers) where
    same_answers : answers_in (sets ++ set ∷ []) numbers ≡ answers_in sets numbers
    same_answers = unchanged numbers (recursion_from_All (λ n. n < length sets) numbers kept.within)

    still_kept : AreKept (sets ++ set ∷ []) numbers
    still_kept = record {
      within = λ i d below. let high = kept.within i d below in omega (arith, high, length-append sets (set ∷ []));
      ascending = subst (All (Ascends source_cmp)) (sym same_answers) kept.ascending;
    }

    one_answer_more : answers_in (sets ++ set ∷ []) (numbers ++ length sets ∷ []) ≡ answers_in sets numbers ++ set ∷ []
    one_answer_more =
        map-append (λ n. get_or (sets ++ set ∷ []) n []) numbers (length sets ∷ [])
        ∙ ap₂ (λ (xs : List (List SourceByte)) (x : List SourceByte). xs ++ x ∷ []) same_answers (get_or_push sets set [] (length sets) refl)

    more_kept : Ascends source_cmp set → AreKept (sets ++ set ∷ []) (numbers ++ length sets ∷ [])
    more_kept a = record {
      within = All-push (λ n. n < length (sets ++ set ∷ [])) numbers (length sets) still_kept.within (omega (arith, length-append sets (set ∷ [])));
      ascending = subst (All (Ascends source_cmp)) (sym one_answer_more) (All-push (Ascends source_cmp) (answers_in sets numbers) set kept.ascending a);
    }

-- as the sets are kept
module _ {X : Type 0} (f : X → List SourceByte) (xs more : List X) (x : X) (grown : more ≡ xs ++ x ∷ []) (numbers : List ℕ) (kept : AreKept (map f xs) numbers) where
  sets_grown : map f more ≡ map f xs ++ f x ∷ []
  sets_grown = ap (map f) grown ∙ map-append f xs (x ∷ [])

  -- a set more, which is no answer yet
  pub set_noted : (same : List ℕ) → same ≡ numbers → AreKept (map f more) same
  set_noted same is =
      subst (AreKept (map f more)) (sym is) (subst (λ (sets : List (List SourceByte)). AreKept sets numbers) (sym sets_grown) (still_kept (map f xs) (f x) numbers kept))

  module _ (n : ℕ) (all : List ℕ) (number : n ≡ length xs) (listed : all ≡ numbers ++ n ∷ []) where
    numbers_grown : all ≡ numbers ++ length (map f xs) ∷ []
    numbers_grown = listed ∙ ap (λ (k : ℕ). numbers ++ k ∷ []) (number ∙ sym (length-map xs f))

    pub answer_noted : Ascends source_cmp (f x) → AreKept (map f more) all
    answer_noted a =
        subst (AreKept (map f more)) (sym numbers_grown)
        (subst (λ (sets : List (List SourceByte)). AreKept sets (numbers ++ length (map f xs) ∷ [])) (sym sets_grown) (more_kept (map f xs) (f x) numbers kept a))

    pub answers_grown : answers_in (map f more) all ≡ answers_in (map f xs) numbers ++ f x ∷ []
    answers_grown = ap₂ answers_in sets_grown numbers_grown ∙ one_answer_more (map f xs) (f x) numbers kept
