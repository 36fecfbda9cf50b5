-- Which leaves are among terms, and leaves in a list.
use Rattle.std.proofs.Common.{◌≡◌, ℕ, ◌+◌, ◌<◌, ◌≤◌, List, [], ◌∷◌, ◌++◌, length, map, take, get_or, ap, sym, ◌∙◌, ◌||◌, append_assoc}
use Rattle.std.proofs.lemmas.List.{map_more, take_all}
use Rattle.std.specs.Ordering.{eq_by_cmp}
use Rattle.std.proofs.lemmas.List.Folds.{list_any-append}
use Rattle.std.proofs.Math.Bool.{or-false}
use Rattle.lists.specs.Sets.{has}
use Rattle.lists.proofs.Algebra.{has-union}
use Rattle.flow_model.specs.Orders.{loc_cmp, source_cmp}
use Rattle.flow_model.proofs.Orders.{loc_total, source_total}
use Rattle.merge_log.specs.declared.reader.Leaf.{Leaf}
use Rattle.merge_log.specs.declared.reader.Leaf.TheVariants as leaf
use Rattle.source_runs.specs.Runs.{bytes_of}
use Rattle.merge_log.specs.declared.finding.Leaves.{Leaves}
use Rattle.merge_log.specs.declared.finding.Leaves.TheVariants.{Run, Start}
use Rattle.merge_log.specs.Log.{Terms, joined, run_term, start_term}
use Rattle.merge_log.specs.Masks.{and_leaves}
use Rattle.merge_log.specs.Walk.{has_leaf}

-- ---- leaves of terms

pub has-joined : (q : Leaf) (a b : Terms) → has_leaf q (joined a b) ≡ (has_leaf q a || has_leaf q b)
has-joined (leaf.Source q) a b = has-union source_total a.sources b.sources q
has-joined (leaf.Start q) a b = has-union loc_total a.starts b.starts q

-- the terms of leaves
abbrev pub leaves_terms : Leaves → Terms
leaves_terms (Run r) = run_term r
leaves_terms (Start l) = start_term l

-- terms with more leaves have these too
pub has-more : (q : Leaf) (u : Leaves) (t : Terms) → has_leaf q (and_leaves u t) ≡ (has_leaf q t || has_leaf q (leaves_terms u))
has-more (leaf.Source q) (Run r) t = list_any-append (eq_by_cmp source_cmp q) t.sources (bytes_of r)
has-more (leaf.Start q) (Run r) t = sym (or-false (has loc_cmp q t.starts))
has-more (leaf.Source q) (Start l) t = sym (or-false (has source_cmp q t.sources))
has-more (leaf.Start q) (Start l) t = list_any-append (eq_by_cmp loc_cmp q) t.starts (l ∷ [])

-- ---- leaves that are pushed one by one

module _ {X : Type 0} (make : X → Leaf) (before now : List Leaf) (xs : List X) (i : ℕ) (so_far : now ≡ before ++ map make (take i xs)) where
  pub one_pushed : (new : List Leaf) (d : X) → i < length xs → new ≡ now ++ make (get_or xs i d) ∷ [] → new ≡ before ++ map make (take (i + 1) xs)
  one_pushed new d h e =
      e ∙ ap (λ (ls : List Leaf). ls ++ make (get_or xs i d) ∷ []) so_far ∙ append_assoc before (map make (take i xs)) (make (get_or xs i d) ∷ [])
      ∙ ap (λ (ls : List Leaf). before ++ ls) (sym (map_more make xs i d h))

  pub all_pushed : length xs ≤ i → now ≡ before ++ map make xs
  all_pushed h = so_far ∙ ap (λ (ys : List X). before ++ map make ys) (take_all i xs h)
