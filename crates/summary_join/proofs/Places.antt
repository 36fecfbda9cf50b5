-- Locations in lists, and the labels of those that were asked.
use Rattle.std.proofs.Common.{◌≡◌, ℕ, zero, suc, List, [], ◌∷◌, map, get_or, slice_get, refl, ap, sym, subst, ◌∙◌, Bool, true, false, ◌||◌, cond}
use Rattle.std.specs.Prelude.{Some}
use Rattle.std.specs.List.{AllByRecursion, IsDistinct, list_any}
use Rattle.std.specs.Ordering.{eq_by_cmp}
use Rattle.std.proofs.lemmas.Bool.{or_parts, or_left, or_right}
use Rattle.std.proofs.lemmas.Cmp.{eq_by_cmp_equiv}
use Rattle.std.proofs.lemmas.List.Elements.{All-from_recursion}
use Rattle.std.proofs.lemmas.Map.Keys.{IsDistinct-head, IsDistinct-tail}
use Rattle.std.proofs.lemmas.Option.{slice_get_within, get_or_from_slice_get}
use Rattle.lists.specs.Sets.{has}
use Rattle.lists.proofs.Algebra.{tied_by}
use Rattle.lists.proofs.Tests.{true-false, same-tests}
use Rattle.flow_model.specs.declared.Loc.{Loc}
use Rattle.flow_model.specs.Orders.{loc_cmp}
use Rattle.flow_model.proofs.Orders.{loc_total, loc_same}
use Rattle.taint_shadow.specs.declared.labels.Label.{Label}
use Rattle.taint_shadow.specs.Labels.{nothing_label}
use Rattle.source_labels.specs.declared.labels.SourceLabels.{SourceLabels}
use Rattle.source_labels.specs.Laws.{label_laws}
use Rattle.source_labels.specs.Words.{label_words}
use Rattle.summary_join.specs.Labels.{label_at}

-- ---- lists of locations

pub loc_is : (l m : Loc) → eq_by_cmp loc_cmp l m ≡ true → l ≡ m
loc_is l m e = loc_same l m (tied_by (loc_cmp l m) e)

pub itself : (l : Loc) → eq_by_cmp loc_cmp l l ≡ true
itself l = (eq_by_cmp_equiv loc_total).refl l

pub has_itself : (l : Loc) → has loc_cmp l (l ∷ []) ≡ true
has_itself l = or_left (eq_by_cmp loc_cmp l l) false (itself l)

-- what holds of all in a list holds of each that it has
pub at_had : (P : Loc → Type 0) (ls : List Loc) (l : Loc) → AllByRecursion P ls → has loc_cmp l ls ≡ true → P l
at_had P [] l a e = true-false (sym e)
at_had P (m ∷ ms) l a e = by (at_had P ms l a.1) (eq_by_cmp loc_cmp l m) refl e where
  by : (has loc_cmp l ms ≡ true → P l) → (b : Bool) → eq_by_cmp loc_cmp l m ≡ b → (b || has loc_cmp l ms) ≡ true → P l
  by ih true same h = subst P (sym (loc_is l m same)) a.0
  by ih false other h = ih h

-- a test that one of the locations passes
pub any_had : (f : Loc → Bool) (ls : List Loc) (l : Loc) → has loc_cmp l ls ≡ true → f l ≡ true → list_any f ls ≡ true
any_had f [] l e p = true-false (sym e)
any_had f (m ∷ ms) l e p = by (any_had f ms l) (eq_by_cmp loc_cmp l m) refl e where
  by : (has loc_cmp l ms ≡ true → f l ≡ true → list_any f ms ≡ true) → (b : Bool) → eq_by_cmp loc_cmp l m ≡ b → (b || has loc_cmp l ms) ≡ true → list_any f (m ∷ ms) ≡ true
  by ih true same h = or_left (f m) (list_any f ms) (subst (λ (k : Loc). f k ≡ true) (loc_is l m same) p)
  by ih false other h = or_right (f m) (list_any f ms) (ih h p)

-- is passed by one of each list that has all of these
any_within : (f : Loc → Bool) (xs ys : List Loc) → ((l : Loc) → has loc_cmp l xs ≡ true → has loc_cmp l ys ≡ true) → list_any f xs ≡ true → list_any f ys ≡ true
any_within f [] ys h e = true-false (sym e)
any_within f (x ∷ xs) ys h e = by (any_within f xs ys (λ l k. h l (or_right (eq_by_cmp loc_cmp l x) (has loc_cmp l xs) k))) (f x) refl e where
  by : (list_any f xs ≡ true → list_any f ys ≡ true) → (b : Bool) → f x ≡ b → (b || list_any f xs) ≡ true → list_any f ys ≡ true
  by ih true p k = any_had f ys x (h x (or_left (eq_by_cmp loc_cmp x x) (has loc_cmp x xs) (itself x))) p
  by ih false p k = ih k

pub any_same : (f : Loc → Bool) (xs ys : List Loc) → ((l : Loc) → has loc_cmp l xs ≡ has loc_cmp l ys) → list_any f xs ≡ list_any f ys
any_same f xs ys h = same-tests (list_any f xs) (list_any f ys) (any_within f xs ys (λ l k. sym (h l) ∙ k)) (any_within f ys xs (λ l k. h l ∙ k))

-- ---- labels of what was asked

all_at : (P : Loc → Type 0) (ls : List Loc) (i : ℕ) (l : Loc) → AllByRecursion P ls → slice_get ls i ≡ Some l → P l
all_at P ls i l a e = subst P (get_or_from_slice_get ls i l l e) (All-from_recursion P ls a i l (slice_get_within ls i l e))

pub label_none : (asked : List Loc) (ks : List Label) (l : Loc) → has loc_cmp l asked ≡ false → label_at asked ks l ≡ nothing_label
label_none [] ks l e = refl
label_none (m ∷ ms) [] l e = refl
label_none (m ∷ ms) (k ∷ ks) l e =
    let parts = or_parts (eq_by_cmp loc_cmp l m) (has loc_cmp l ms) e in
    ap (λ (b : Bool). cond b k (label_at ms ks l)) parts.0 ∙ label_none ms ks l parts.1

-- each is asked once, so its label stands at its place
pub label_placed : (asked : List Loc) (ks : List Label) (i : ℕ) (l : Loc) → IsDistinct (eq_by_cmp loc_cmp) asked → slice_get asked i ≡ Some l
    → label_at asked ks l ≡ get_or ks i nothing_label
label_placed [] ks i l d e = cc
label_placed (m ∷ ms) [] i l d e = refl
label_placed (m ∷ ms) (k ∷ ks) zero l d e =
    let same : m ≡ l = cc in
    ap (λ (b : Bool). cond b k (label_at ms ks l)) (subst (λ (j : Loc). eq_by_cmp loc_cmp l j ≡ true) (sym same) (itself l))
label_placed (m ∷ ms) (k ∷ ks) (suc i) l d e =
    ap (λ (b : Bool). cond b k (label_at ms ks l))
    ((eq_by_cmp_equiv loc_total).symm l m ∙ all_at (λ j. eq_by_cmp loc_cmp m j ≡ false) ms i l (IsDistinct-head (eq_by_cmp loc_cmp) m ms d) e)
    ∙ label_placed ms ks i l (IsDistinct-tail (eq_by_cmp loc_cmp) m ms d) e

-- where each label is that of what was asked, it is found there
pub label_is : (g : Loc → Label) (asked : List Loc) (l : Loc) → has loc_cmp l asked ≡ true → label_at asked (map g asked) l ≡ g l
label_is g [] l e = true-false (sym e)
label_is g (m ∷ ms) l e = by (label_is g ms l) (eq_by_cmp loc_cmp l m) refl e where
  by : (has loc_cmp l ms ≡ true → label_at ms (map g ms) l ≡ g l) → (b : Bool) → eq_by_cmp loc_cmp l m ≡ b → (b || has loc_cmp l ms) ≡ true → cond b (g m) (label_at ms (map g ms) l) ≡ g l
  by ih true same h = ap g (sym (loc_is l m same))
  by ih false other h = ih h

pub no_labels : (asked : List Loc) (l : Loc) → label_at asked [] l ≡ nothing_label
no_labels [] l = refl
no_labels (m ∷ ms) l = refl

-- where all stand, it stands
pub label_stands : (labels : SourceLabels) (asked : List Loc) (ks : List Label) (l : Loc) → AllByRecursion (label_words.stands labels) ks → label_words.stands labels (label_at asked ks l)
label_stands labels [] ks l a = (label_laws.of_nothing labels).stands
label_stands labels (m ∷ ms) [] l a = (label_laws.of_nothing labels).stands
label_stands labels (m ∷ ms) (k ∷ ks) l a = by (label_stands labels ms ks l a.1) (eq_by_cmp loc_cmp l m) where
  by : label_words.stands labels (label_at ms ks l) → (b : Bool) → label_words.stands labels (cond b k (label_at ms ks l))
  by rest true = a.0
  by rest false = rest
