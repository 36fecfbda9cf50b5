-- Lists to which each location is added once, and answers that stand in their order. Crates above cite these lemmas.
use Rattle.std.proofs.Common.{◌≡◌, List, [], ◌∷◌, ◌++◌, map, refl, ap, ap₂, sym, subst, ◌∙◌, Bool, true, false, ◌||◌, cond}
use Rattle.std.specs.List.{list_any, AllByRecursion, IsDistinct}
use Rattle.std.specs.Ordering.{eq_by_cmp}
use Rattle.std.proofs.lemmas.List.Folds.{list_any-append}
use Rattle.flow_model.specs.declared.Loc.{Loc}
use Rattle.flow_model.specs.declared.SourceByte.{SourceByte}
use Rattle.lists.specs.Sets.{union, has, Ascends}
use Rattle.flow_model.specs.Orders.{loc_cmp, source_cmp}
use Rattle.flow_model.specs.Origins.{union_over}
use Rattle.std.proofs.lemmas.Bool.{or_parts, or_right}
use Rattle.std.proofs.Math.Bool.{or-false, or_assoc}
use Rattle.std.proofs.lemmas.Cmp.{eq_by_cmp_equiv}
use Rattle.flow_model.proofs.Orders.{loc_total, loc_same}
use Rattle.lists.proofs.Algebra.{tied_by}
use Rattle.lists.proofs.Lists.{all-append}
use Rattle.epoch_model.specs.Crossing.{added, added_all}
use Rattle.epoch_model.specs.Join.{answer_to}

-- ---- equal locations

loc_is : (l m : Loc) → eq_by_cmp loc_cmp l m ≡ true → l ≡ m
loc_is l m e = loc_same l m (tied_by (loc_cmp l m) e)

-- ---- adding

kept_test : (a b : Bool) → ((a || b) || a) ≡ (a || b)
kept_test true b = refl
kept_test false b = or-false b

-- a test that one of the locations passes is passed in the list
any_with : (f : Loc → Bool) (l : Loc) (ls : List Loc) → has loc_cmp l ls ≡ true → (list_any f ls || f l) ≡ list_any f ls
any_with f l [] e = cc
any_with f l (m ∷ ms) e = by (any_with f l ms) (eq_by_cmp loc_cmp l m) refl e where
  by : (has loc_cmp l ms ≡ true → (list_any f ms || f l) ≡ list_any f ms) → (b : Bool) → eq_by_cmp loc_cmp l m ≡ b → (b || has loc_cmp l ms) ≡ true → ((f m || list_any f ms) || f l) ≡ (f m || list_any f ms)
  by ih true same h = subst (λ (k : Loc). ((f m || list_any f ms) || f k) ≡ (f m || list_any f ms)) (sym (loc_is l m same)) (kept_test (f m) (list_any f ms))
  by ih false other h = or_assoc (f m) (list_any f ms) (f l) ∙ ap (λ (b : Bool). f m || b) (ih h)

any_added : (f : Loc → Bool) (asked : List Loc) (l : Loc) → list_any f (added asked l) ≡ (list_any f asked || f l)
any_added f asked l = by (has loc_cmp l asked) refl where
  by : (b : Bool) → has loc_cmp l asked ≡ b → list_any f (cond b asked (asked ++ l ∷ [])) ≡ (list_any f asked || f l)
  by true e = sym (any_with f l asked e)
  by false e = list_any-append f asked (l ∷ []) ∙ ap (λ (b : Bool). list_any f asked || b) (or-false (f l))

pub any_added_all : (f : Loc → Bool) (asked ls : List Loc) → list_any f (added_all asked ls) ≡ (list_any f asked || list_any f ls)
any_added_all f asked [] = sym (or-false (list_any f asked))
any_added_all f asked (l ∷ ls) = any_added_all f (added asked l) ls ∙ ap (λ (b : Bool). b || list_any f ls) (any_added f asked l) ∙ or_assoc (list_any f asked) (f l) (list_any f ls)

-- what holds of each location of both lists
module _ (P : Loc → Type 0) where
  all-added : (asked : List Loc) (l : Loc) → AllByRecursion P asked → P l → AllByRecursion P (added asked l)
  all-added asked l a p = by (has loc_cmp l asked) where
    by : (b : Bool) → AllByRecursion P (cond b asked (asked ++ l ∷ []))
    by true = a
    by false = all-append P asked (l ∷ []) a (p, tt)

  pub all-added_all : (asked ls : List Loc) → AllByRecursion P asked → AllByRecursion P ls → AllByRecursion P (added_all asked ls)
  all-added_all asked [] a b = a
  all-added_all asked (l ∷ ls) a b = all-added_all (added asked l) ls (all-added asked l a b.0) b.1

-- ---- each once

pub none_distinct : IsDistinct (eq_by_cmp loc_cmp) []
unfolding IsDistinct
none_distinct = tt

once_more : (asked : List Loc) (l : Loc) → has loc_cmp l asked ≡ false → IsDistinct (eq_by_cmp loc_cmp) asked → IsDistinct (eq_by_cmp loc_cmp) (asked ++ l ∷ [])
unfolding IsDistinct
once_more [] l e a = (tt, tt)
once_more (m ∷ ms) l e a =
    let parts = or_parts (eq_by_cmp loc_cmp l m) (has loc_cmp l ms) e in
    (all-append (λ k. eq_by_cmp loc_cmp m k ≡ false) ms (l ∷ []) a.0 ((eq_by_cmp_equiv loc_total).symm m l ∙ parts.0, tt), once_more ms l parts.1 a.1)

once_added : (asked : List Loc) (l : Loc) → IsDistinct (eq_by_cmp loc_cmp) asked → IsDistinct (eq_by_cmp loc_cmp) (added asked l)
once_added asked l a = by (has loc_cmp l asked) refl where
  by : (b : Bool) → has loc_cmp l asked ≡ b → IsDistinct (eq_by_cmp loc_cmp) (cond b asked (asked ++ l ∷ []))
  by true e = a
  by false e = once_more asked l e a

pub once_added_all : (asked ls : List Loc) → IsDistinct (eq_by_cmp loc_cmp) asked → IsDistinct (eq_by_cmp loc_cmp) (added_all asked ls)
once_added_all asked [] a = a
once_added_all asked (l ∷ ls) a = once_added_all (added asked l) ls (once_added asked l a)

-- ---- answers

-- where each answer is the value of what was asked, it is found there
pub answer_is : (f : Loc → List SourceByte) (asked : List Loc) (l : Loc) → has loc_cmp l asked ≡ true → answer_to asked (map f asked) l ≡ f l
answer_is f [] l e = cc
answer_is f (m ∷ ms) l e = by (answer_is f ms l) (eq_by_cmp loc_cmp l m) refl e where
  by : (has loc_cmp l ms ≡ true → answer_to ms (map f ms) l ≡ f l) → (b : Bool) → eq_by_cmp loc_cmp l m ≡ b → (b || has loc_cmp l ms) ≡ true → cond b (f m) (answer_to ms (map f ms) l) ≡ f l
  by ih true same h = ap f (sym (loc_is l m same))
  by ih false other h = ih h

-- what holds of each location that the list has holds of all in it
pub all_had : (P : Loc → Type 0) (ls : List Loc) → ((l : Loc) → has loc_cmp l ls ≡ true → P l) → AllByRecursion P ls
all_had P [] h = tt
all_had P (l ∷ ls) h = (h l (ap (λ (b : Bool). b || has loc_cmp l ls) ((eq_by_cmp_equiv loc_total).refl l)), all_had P ls (λ k e. h k (or_right (eq_by_cmp loc_cmp k l) (has loc_cmp k ls) e)))

-- the union is the same where both give the same at each location
pub union_over_same : (f g : Loc → List SourceByte) (ls : List Loc) → AllByRecursion (λ l. f l ≡ g l) ls → union_over f ls ≡ union_over g ls
union_over_same f g [] h = refl
union_over_same f g (l ∷ []) h = h.0
union_over_same f g (l ∷ m ∷ ls) h = ap₂ (union source_cmp) h.0 (union_over_same f g (m ∷ ls) h.1)

-- ---- some locations, and then some more; an answer among answers

pub added_all-append : (asked xs ys : List Loc) → added_all asked (xs ++ ys) ≡ added_all (added_all asked xs) ys
added_all-append asked [] ys = refl
added_all-append asked (x ∷ xs) ys = added_all-append (added asked x) xs ys

pub Ascends-answer : (asked : List Loc) (answers : List (List SourceByte)) (l : Loc) → AllByRecursion (Ascends source_cmp) answers → Ascends source_cmp (answer_to asked answers l)
Ascends-answer (m ∷ asked) (x ∷ xs) l a = by (Ascends-answer asked xs l a.1) (eq_by_cmp loc_cmp l m) where
  by : Ascends source_cmp (answer_to asked xs l) → (b : Bool) → Ascends source_cmp (cond b x (answer_to asked xs l))
  by ih true = a.0
  by ih false = ih
Ascends-answer asked answers l a = tt
