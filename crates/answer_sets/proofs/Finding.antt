-- The answer that stands at the place of what was asked.
use Rattle.std.proofs.Common.{◌≡◌, ℕ, zero, suc, List, [], ◌∷◌, get_or, slice_get, Some, refl, ap, sym, ◌∙◌, subst, Bool, true, false, ◌||◌, cond}
use Rattle.std.specs.List.{AllByRecursion, IsDistinct, All}
use Rattle.std.specs.Ordering.{eq_by_cmp}
use Rattle.std.proofs.lemmas.Map.Keys.{IsDistinct-head, IsDistinct-tail}
use Rattle.std.proofs.lemmas.Option.{slice_get_within, get_or_from_slice_get}
use Rattle.std.proofs.lemmas.List.Elements.{recursion_from_All, All-from_recursion}
use Rattle.std.proofs.lemmas.Cmp.{eq_by_cmp_equiv}
use Rattle.flow_model.specs.declared.Loc.{Loc}
use Rattle.flow_model.specs.declared.SourceByte.{SourceByte}
use Rattle.flow_model.specs.Orders.{loc_cmp, source_cmp}
use Rattle.flow_model.proofs.Orders.{loc_total}
use Rattle.lists.specs.Sets.{Ascends, has}
use Rattle.epoch_model.specs.Join.{answer_to}
use Rattle.epoch_model.proofs.Adding.{Ascends-answer}

all_at : (P : Loc → Type 0) (ls : List Loc) (i : ℕ) (l : Loc) → AllByRecursion P ls → slice_get ls i ≡ Some l → P l
all_at P ls i l a e = subst P (get_or_from_slice_get ls i l l e) (All-from_recursion P ls a i l (slice_get_within ls i l e))

-- where it isn't asked there is none
pub answer_none : (asked : List Loc) (answers : List (List SourceByte)) (l : Loc) → has loc_cmp l asked ≡ false → answer_to asked answers l ≡ []
answer_none [] answers l e = refl
answer_none (m ∷ ms) [] l e = refl
answer_none (m ∷ ms) (a ∷ rest) l e = by (answer_none ms rest l) (eq_by_cmp loc_cmp l m) e where
  by : (has loc_cmp l ms ≡ false → answer_to ms rest l ≡ []) → (b : Bool) → (b || has loc_cmp l ms) ≡ false → cond b a (answer_to ms rest l) ≡ []
  by ih true h = cc
  by ih false h = ih h

-- each is asked once, so it is the one at the place of what was asked
pub answer_at : (asked : List Loc) (answers : List (List SourceByte)) (i : ℕ) (l : Loc) → IsDistinct (eq_by_cmp loc_cmp) asked → slice_get asked i ≡ Some l
    → answer_to asked answers l ≡ get_or answers i []
answer_at [] answers i l d e = cc
answer_at (m ∷ ms) [] i l d e = refl
answer_at (m ∷ ms) (a ∷ rest) zero l d e =
    let same : m ≡ l = cc in
    ap (λ (b : Bool). cond b a (answer_to ms rest l)) (subst (λ (k : Loc). eq_by_cmp loc_cmp l k ≡ true) (sym same) ((eq_by_cmp_equiv loc_total).refl l))
answer_at (m ∷ ms) (a ∷ rest) (suc i) l d e =
    ap (λ (b : Bool). cond b a (answer_to ms rest l))
    ((eq_by_cmp_equiv loc_total).symm l m ∙ all_at (λ k. eq_by_cmp loc_cmp m k ≡ false) ms i l (IsDistinct-head (eq_by_cmp loc_cmp) m ms d) e)
    ∙ answer_at ms rest i l (IsDistinct-tail (eq_by_cmp loc_cmp) m ms d) e

-- where all answers ascend, each does
pub ascends_answer : (asked : List Loc) (answers : List (List SourceByte)) → All (Ascends source_cmp) answers → (l : Loc) → Ascends source_cmp (answer_to asked answers l)
ascends_answer asked answers h l = Ascends-answer asked answers l (recursion_from_All (Ascends source_cmp) answers h)
