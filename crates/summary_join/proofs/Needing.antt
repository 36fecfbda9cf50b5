-- What of an epoch is needed: its roots are noted, and then each node is looked at.
use Rattle.std.proofs.Common.{◌≡◌, ℕ, ◌+◌, List, [], ◌∷◌, map, length, sym, subst, ◌∙◌, Bool, true, ◌||◌, inl, inr}
use Rattle.std.specs.Prelude.{All}
use Rattle.std.specs.List.{AllByRecursion, flat_map}
use Rattle.std.specs.Ordering.{eq_by_cmp}
use Rattle.std.proofs.lemmas.Bool.{or_cases, or_left, or_right}
use Rattle.std.proofs.lemmas.List.Elements.{All-append, All-from_recursion, All-map}
use Rattle.std.proofs.lemmas.List.Folds.{list_any-append}
use Rattle.lists.specs.Sets.{has}
use Rattle.lists.proofs.Lists.{all-weaken}
use Rattle.lists.proofs.Tests.{same-tests, true-false}
use Rattle.flow_model.specs.declared.Loc.{Loc}
use Rattle.flow_model.specs.Orders.{loc_cmp}
use Rattle.merge_log.specs.Log.{AreOrdered, terms}
use Rattle.taint_shadow.specs.declared.labels.Label.{Label}
use Rattle.taint_shadow.specs.declared.labels.LabelKind.{LabelKind}
use Rattle.taint_shadow.specs.declared.labels.LabelKind.TheVariants.{Node, Start, Run}
use Rattle.taint_shadow.specs.Labels.{kind_of}
use Rattle.source_labels.specs.declared.nodes.Nodes.{Nodes}
use Rattle.source_labels.specs.Words.{HaveNodesIn, log_of, node_words, terms_by}
use Rattle.epoch_summary.specs.declared.summary.Summary.{Summary}
use Rattle.epoch_summary.specs.Summaries.{nodes_of, sinks_of}
use Rattle.summary_join.specs.Labels.{IsMarked}
use Rattle.summary_join.specs.Needs.{AllPass, AreLookedAt, AreNeeded, AreNoted, ArePassing, IsCovered, IsNotedKind, roots, starts_of}
use Rattle.summary_join.proofs.Looking.{closed, found}
use Rattle.summary_join.proofs.Noting.{all_kept, noted_then}
use Rattle.summary_join.proofs.Places.{loc_is}

module _ (nodes : Nodes) where
  has_first : (k : Label) (ks : List Label) (l : Loc)
      → has loc_cmp l (flat_map (starts_of nodes) (k ∷ ks)) ≡ (has loc_cmp l (starts_of nodes k) || has loc_cmp l (flat_map (starts_of nodes) ks))
  has_first k ks l = list_any-append (eq_by_cmp loc_cmp l) (starts_of nodes k) (flat_map (starts_of nodes) ks)

  -- a test that all start locations of some labels pass
  all_within : (test : Loc → Bool) (ks : List Label) → AllPass test (flat_map (starts_of nodes) ks) → AllByRecursion (λ k. AllPass test (starts_of nodes k)) ks
  all_within test [] h = tt
  all_within test (k ∷ ks) h = (
    λ l e. h l (has_first k ks l ∙ or_left (has loc_cmp l (starts_of nodes k)) (has loc_cmp l (flat_map (starts_of nodes) ks)) e),
    all_within test ks (λ l e. h l (has_first k ks l ∙ or_right (has loc_cmp l (starts_of nodes k)) (has loc_cmp l (flat_map (starts_of nodes) ks)) e)),
  )

  -- those of labels that were noted are asked, where those under marked nodes are
  module _ (marks : List Bool) (asked : List Loc) (under : (n : ℕ) → IsMarked marks n → (l : Loc) → has loc_cmp l (terms (log_of nodes) n).starts ≡ true → has loc_cmp l asked ≡ true) where
    of_kind : (kind : LabelKind) → IsNotedKind marks asked kind → (l : Loc) → has loc_cmp l (terms_by (log_of nodes) kind).starts ≡ true → has loc_cmp l asked ≡ true
    of_kind (Node n) m l e = under n m l e
    of_kind (Start k) m l e = elim (or_cases _ _ e) [
      | inl is ↦ subst (λ (j : Loc). has loc_cmp j asked ≡ true) (sym (loc_is l k is)) m
      | inr none ↦ true-false (sym none)
    ]
    of_kind (Run r) m l e = true-false (sym e)

    noted_asked : (ks : List Label) → AllByRecursion (λ k. IsNotedKind marks asked (kind_of k)) ks → (l : Loc) → has loc_cmp l (flat_map (starts_of nodes) ks) ≡ true → has loc_cmp l asked ≡ true
    noted_asked [] n l e = true-false (sym e)
    noted_asked (k ∷ ks) n l e = elim (or_cases (has loc_cmp l (starts_of nodes k)) (has loc_cmp l (flat_map (starts_of nodes) ks)) (sym (has_first k ks l) ∙ e)) [
      | inl p ↦ of_kind (kind_of k) n.0 l p
      | inr p ↦ noted_asked ks n.1 l p
    ]

module _ (e : Summary) (ends : List Label) (ordered : AreOrdered 1 (log_of (nodes_of e))) (m0 m1 m2 m3 : List Bool) (a1 a2 a3 : List Loc)
    (room : length m0 ≡ length (log_of (nodes_of e)) + 1)
    (first : AreNoted (nodes_of e) (map (λ k. k.label) (sinks_of e)) m0 [] m1 a1) (second : AreNoted (nodes_of e) ends m1 a1 m2 a2)
    (third : AreLookedAt (log_of (nodes_of e)) 0 m2 a2 m3 a3) where
  both : AreNoted (nodes_of e) (roots e ends) m0 [] m2 a2
  both = noted_then (nodes_of e) (map (λ k. k.label) (sinks_of e)) ends m0 [] m1 a1 m2 a2 first second

  room_then : length m3 ≡ length (log_of (nodes_of e)) + 1
  room_then = third.keeps.room ∙ both.keeps.room ∙ room

  noted_then_looked : AllByRecursion (λ k. IsNotedKind m3 a3 (kind_of k)) (roots e ends)
  noted_then_looked = all_kept m2 a2 m3 a3 third.keeps (roots e ends) both.noted

  pub all_needed : HaveNodesIn (nodes_of e) (sinks_of e) → All (node_words.stands (nodes_of e)) ends → AreNeeded e ends m3
  all_needed sinks_stand ends_stand = record {
    room = room_then;
    closed = closed (log_of (nodes_of e)) m2 a2 m3 a3 third;
    stand = All-append (node_words.stands (nodes_of e)) (map (λ k. k.label) (sinks_of e)) ends (All-map (node_words.stands (nodes_of e)) (λ k. k.label) (sinks_of e) sinks_stand) ends_stand;
    marked = All-from_recursion (IsCovered m3) (roots e ends)
        (all-weaken (λ (k : Label). IsNotedKind m3 a3 (kind_of k)) (IsCovered m3) (λ k h n is. subst (IsNotedKind m3 a3) is h) (roots e ends) noted_then_looked);
  }

  pub all_asked : ((n : ℕ) → IsMarked m0 n → ⊥) → (l : Loc) → has loc_cmp l a3 ≡ has loc_cmp l (flat_map (starts_of (nodes_of e)) (roots e ends))
  all_asked none l =
      let log = log_of (nodes_of e) in
      let all = flat_map (starts_of (nodes_of e)) (roots e ends) in
      let test : Loc → Bool = λ m. has loc_cmp m all in
      let begun : ArePassing log test m0 [] = record { asked = λ m k. true-false (sym k); marked = λ n k. absurd (none n k) } in
      let passing = third.passing test (both.passing test (all_within (nodes_of e) test (roots e ends) (λ m k. k)) begun) in
      same-tests (has loc_cmp l a3) (has loc_cmp l all) (passing.asked l)
      (noted_asked (nodes_of e) m3 a3 (found log ordered m2 a2 m3 a3 room_then third) (roots e ends) noted_then_looked l)
