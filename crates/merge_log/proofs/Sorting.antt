-- A list that was sorted, and has each member once, is a set, and so is what was found of leaves.
use Rattle.std.proofs.Common.{◌≡◌, List, [], ◌∷◌, refl, ap, ap₂, sym, ◌∙◌, subst, Bool, true, false, ◌||◌, cond}
use Rattle.std.specs.List.{dedup, dedup_from, AllByRecursion}
use Rattle.std.specs.List.Sorted.{IsSorted, IsStrictlySortedBy, IsPermutation}
use Rattle.std.specs.Ordering.{eq_by_cmp, is_eq}
use Rattle.std.specs.Cmp.{IsTotalOrder, alike_right}
use Rattle.std.specs.declared.cmp.Ordering.{Ordering}
use Rattle.std.specs.declared.cmp.Ordering.TheVariants.{Less}
use Rattle.std.proofs.lemmas.List.Kept.{IsStrictlySortedBy-dedup}
use Rattle.std.proofs.lemmas.List.Sorted.{list_any-IsPermutation}
use Rattle.std.proofs.Math.Bool.{or_self_left}
use Rattle.lists.specs.Sets.{Ascends, IsBelow, has}
use Rattle.lists.proofs.Algebra.{same_list, tied_by}
use Rattle.flow_model.specs.Orders.{loc_cmp, source_cmp}
use Rattle.flow_model.specs.declared.Loc.{Loc}
use Rattle.flow_model.specs.declared.SourceByte.{SourceByte}
use Rattle.flow_model.proofs.Derived.{loc_compared, loc_order_is}
use Rattle.flow_model.proofs.Orders.{loc_total, loc_same, source_total, source_same}
use Rattle.merge_log.specs.declared.reader.Leaf.{Leaf}
use Rattle.merge_log.specs.declared.reader.Leaf.TheVariants as leaf
use Rattle.merge_log.specs.Log.{Terms, AreSets, no_terms}
use Rattle.merge_log.specs.Walk.{has_leaf}

-- ---- sorted, and each once

module _ {K : Type 0} (R : K → K → Ordering) where
  below_all : (x : K) (xs : List K) → AllByRecursion (λ y. R x y ≡ Less) xs → IsBelow R x xs
  below_all x [] h = tt
  below_all x (y ∷ ys) h = (h.0, below_all x ys h.1)

  ascending : (xs : List K) → IsStrictlySortedBy R xs → Ascends R xs
  unfolding IsStrictlySortedBy
  ascending [] h = tt
  ascending (x ∷ xs) h = (below_all x xs h.0, ascending xs h.1)

module _ {K : Type 0} {R : K → K → Ordering} (o : IsTotalOrder R) (E : K → K → Bool) (ties : (x y : K) → E x y ≡ eq_by_cmp R x y) where
  pub Ascends-dedup : (xs ys : List K) → IsSorted R xs → ys ≡ dedup E xs → Ascends R ys
  Ascends-dedup xs ys h is = subst (Ascends R) (sym is) (ascending R (dedup E xs) (IsStrictlySortedBy-dedup o ties xs h))

  has-dedup_from : (q k : K) (xs : List K) → has R q (dedup_from E k xs) ≡ (eq_by_cmp R q k || has R q xs)
  has-dedup_from q k [] = refl
  has-dedup_from q k (x ∷ xs) = by (has-dedup_from q k xs) (has-dedup_from q x xs) (E x k) refl where
    by : has R q (dedup_from E k xs) ≡ (eq_by_cmp R q k || has R q xs) → has R q (dedup_from E x xs) ≡ (eq_by_cmp R q x || has R q xs)
        → (b : Bool) → E x k ≡ b → has R q (cond b (dedup_from E k xs) (k ∷ dedup_from E x xs)) ≡ (eq_by_cmp R q k || (eq_by_cmp R q x || has R q xs))
    by ih later true e =
        let alike : eq_by_cmp R q k ≡ eq_by_cmp R q x = sym (ap is_eq (alike_right o x k q (tied_by (R x k) (sym (ties x k) ∙ e)))) in
        ih ∙ sym (or_self_left (eq_by_cmp R q k) (has R q xs)) ∙ ap (λ (b : Bool). eq_by_cmp R q k || (b || has R q xs)) alike
    by ih later false e = ap (λ (b : Bool). eq_by_cmp R q k || b) later

  has-dedup : (q : K) (xs : List K) → has R q (dedup E xs) ≡ has R q xs
  has-dedup q [] = refl
  has-dedup q (x ∷ xs) = has-dedup_from q x xs

  pub has-sorted : (q : K) (xs ys zs : List K) → IsPermutation xs ys → zs ≡ dedup E ys → has R q zs ≡ has R q xs
  has-sorted q xs ys zs p is = ap (has R q) is ∙ has-dedup q ys ∙ sym (list_any-IsPermutation (eq_by_cmp R q) xs ys p)

-- ---- what a reader has at the end

-- the set of a list
pub record IsSetOf {K : Type 0} (R : K → K → Ordering) (set items : List K) : Type 0 where
  pub members : (x : K) → has R x set ≡ has R x items
  pub ascending : Ascends R set

of_starts : (starts starts1 : List Loc) → IsSetOf loc_compared starts1 starts → IsSetOf loc_cmp starts1 starts
of_starts starts starts1 l = subst (λ (R : Loc → Loc → Ordering). IsSetOf R starts1 starts) (sym loc_order_is) l

-- sets of what was found have its leaves
pub found_members : (sources sources1 : List SourceByte) (starts starts1 : List Loc) → ((b : SourceByte) → has source_cmp b sources1 ≡ has source_cmp b sources) → IsSetOf loc_compared starts1 starts → (q : Leaf)
    → has_leaf q (record { sources = sources1; starts = starts1 }) ≡ has_leaf q (record { sources = sources; starts = starts })
found_members sources sources1 starts starts1 s l (leaf.Source b) = s b
found_members sources sources1 starts starts1 s l (leaf.Start p) = (of_starts starts starts1 l).members p

pub found_sets : (sources : List SourceByte) (starts starts1 : List Loc) → Ascends source_cmp sources → IsSetOf loc_compared starts1 starts → AreSets (record { sources = sources; starts = starts1 })
found_sets sources starts starts1 s l = record { sources = s; starts = (of_starts starts starts1 l).ascending }

-- the other terms are the sets of these
pub record IsSetWith (these other : Terms) : Type 0 where
  pub members : (q : Leaf) → has_leaf q other ≡ has_leaf q these
  pub ascending : AreSets other

pub none_is_set : IsSetWith no_terms no_terms
none_is_set = record { members = λ q. refl; ascending = record { sources = tt; starts = tt } }

-- sets with the same leaves are the same
pub same_terms : (a b : Terms) → AreSets a → AreSets b → ((q : Leaf) → has_leaf q a ≡ has_leaf q b) → a ≡ b
same_terms a b h k same =
    let make : List SourceByte → List Loc → Terms = λ xs ys. record { sources = xs; starts = ys } in
    ap₂ make (same_list source_total source_same a.sources b.sources h.sources k.sources (λ q. same (leaf.Source q))) (same_list loc_total loc_same a.starts b.starts h.starts k.starts (λ q. same (leaf.Start q)))
