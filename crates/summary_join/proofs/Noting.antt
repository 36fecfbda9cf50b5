-- Labels that are noted.
use Rattle.std.proofs.Common.{◌≡◌, ℕ, ◌+◌, ◌<◌, List, [], ◌∷◌, ◌++◌, map, take, get_or, length, refl, sym, subst, subst₂, Bool, true, inl, inr, arith, length-set}
use Rattle.std.specs.Prelude.{All}
use Rattle.std.proofs.lemmas.List.{map_more, take_more}
use Rattle.std.specs.List.{AllByRecursion}
use Rattle.lists.specs.Sets.{has}
use Rattle.lists.proofs.Lists.{all-append, all-parts, all-weaken}
use Rattle.flow_model.specs.declared.Loc.{Loc}
use Rattle.flow_model.specs.Orders.{loc_cmp}
use Rattle.merge_log.specs.Log.{terms}
use Rattle.taint_shadow.specs.declared.labels.Label.{Label}
use Rattle.taint_shadow.specs.declared.labels.LabelKind.{LabelKind}
use Rattle.taint_shadow.specs.declared.labels.SinkLabel.{SinkLabel}
use Rattle.taint_shadow.specs.declared.labels.LabelKind.TheVariants.{Node, Start, Run}
use Rattle.taint_shadow.specs.Labels.{kind_of}
use Rattle.source_labels.specs.declared.nodes.Nodes.{Nodes}
use Rattle.source_labels.specs.Words.{HaveNodesIn, log_of, node_or_nothing, terms_by}
use Rattle.summary_join.specs.Needs.{AllPass, AreNoted, ArePassing, IsNotedKind, KeepsNeeds, asked_with, marks_with, starts_of}
use Rattle.summary_join.proofs.Marking.{added_back, added_has, ask_keeps, keeps_all, mark_keeps, needs_then, set_back, set_marked}

-- ---- one label

module _ (nodes : Nodes) (old : List Bool) (asks : List Loc) where
  abbrev IsDone : LabelKind → List Bool → List Loc → Type 0
  IsDone kind new more =
      KeepsNeeds old asks new more × IsNotedKind new more kind
      × ((test : Loc → Bool) → AllPass test (terms_by (log_of nodes) kind).starts → ArePassing (log_of nodes) test old asks → ArePassing (log_of nodes) test new more)

  kind_noted : (kind : LabelKind) → node_or_nothing kind < length old → IsDone kind (marks_with old kind) (asked_with asks kind)
  kind_noted (Node n) room = (
    mark_keeps old asks n room,
    set_marked old n room,
    λ test h p. record {
      asked = p.asked;
      marked = λ m k l q. elim (set_back old n m k) [
        | inl was ↦ p.marked m was l q
        | inr is ↦ h l (subst (λ (i : ℕ). has loc_cmp l (terms (log_of nodes) i).starts ≡ true) is q)
      ];
    },
  )
  kind_noted (Start m) room = (
    ask_keeps old asks m,
    added_has asks m,
    λ test h p. record {
      asked = λ l k. elim (added_back asks m l k) [ inl was ↦ p.asked l was | inr is ↦ h l is ];
      marked = p.marked;
    },
  )
  kind_noted (Run r) room = (keeps_all old asks, tt, λ test h p. p)

  pub one_noted : (k : Label) (new : List Bool) (more : List Loc) → node_or_nothing (kind_of k) < length old → new ≡ marks_with old (kind_of k) → more ≡ asked_with asks (kind_of k)
      → AreNoted nodes (k ∷ []) old asks new more
  one_noted k new more room marks asked =
      let done = subst₂ (IsDone (kind_of k)) (sym marks) (sym asked) (kind_noted (kind_of k) room) in
      record { keeps = done.0; noted = (done.1, tt); passing = λ test h p. done.2 test h.0 p }

  pub none_noted : AreNoted nodes [] old asks old asks
  none_noted = record { keeps = keeps_all old asks; noted = tt; passing = λ test h p. p }

-- ---- several

pub noted_kept : (m0 : List Bool) (a0 : List Loc) (m1 : List Bool) (a1 : List Loc) → KeepsNeeds m0 a0 m1 a1 → (kind : LabelKind) → IsNotedKind m0 a0 kind → IsNotedKind m1 a1 kind
noted_kept m0 a0 m1 a1 k (Node n) h = k.marked n h
noted_kept m0 a0 m1 a1 k (Start l) h = k.asked l h
noted_kept m0 a0 m1 a1 k (Run r) h = tt

pub all_kept : (m0 : List Bool) (a0 : List Loc) (m1 : List Bool) (a1 : List Loc) → KeepsNeeds m0 a0 m1 a1 → (ks : List Label)
    → AllByRecursion (λ k. IsNotedKind m0 a0 (kind_of k)) ks → AllByRecursion (λ k. IsNotedKind m1 a1 (kind_of k)) ks
all_kept m0 a0 m1 a1 h ks = all-weaken (λ (k : Label). IsNotedKind m0 a0 (kind_of k)) (λ (k : Label). IsNotedKind m1 a1 (kind_of k)) (λ k n. noted_kept m0 a0 m1 a1 h (kind_of k) n) ks

pub noted_then : (nodes : Nodes) (xs ys : List Label) (m0 : List Bool) (a0 : List Loc) (m1 : List Bool) (a1 : List Loc) (m2 : List Bool) (a2 : List Loc)
    → AreNoted nodes xs m0 a0 m1 a1 → AreNoted nodes ys m1 a1 m2 a2 → AreNoted nodes (xs ++ ys) m0 a0 m2 a2
noted_then nodes xs ys m0 a0 m1 a1 m2 a2 h k = record {
  keeps = needs_then m0 a0 m1 a1 m2 a2 h.keeps k.keeps;
  noted = all-append (λ (l : Label). IsNotedKind m2 a2 (kind_of l)) xs ys (all_kept m1 a1 m2 a2 k.keeps xs h.noted) k.noted;
  passing = λ test all p.
      let parts = all-parts (λ (l : Label). AllPass test (starts_of nodes l)) xs ys all in
      k.passing test parts.1 (h.passing test parts.0 p);
}

-- one more
noted_push : (nodes : Nodes) (ks : List Label) (k : Label) (m0 : List Bool) (a0 : List Loc) (m1 : List Bool) (a1 : List Loc) (m2 : List Bool) (a2 : List Loc)
    → AreNoted nodes ks m0 a0 m1 a1 → node_or_nothing (kind_of k) < length m1 → m2 ≡ marks_with m1 (kind_of k) → a2 ≡ asked_with a1 (kind_of k)
    → AreNoted nodes (ks ++ k ∷ []) m0 a0 m2 a2
noted_push nodes ks k m0 a0 m1 a1 m2 a2 h room marks asked = noted_then nodes ks (k ∷ []) m0 a0 m1 a1 m2 a2 h (one_noted nodes m1 a1 k m2 a2 room marks asked)

module _ (nodes : Nodes) (m0 : List Bool) (a0 : List Loc) (m1 : List Bool) (a1 : List Loc) (m2 : List Bool) (a2 : List Loc) (i : ℕ) where
  pub label_noted : (ks : List Label) (d : Label) → i < length ks → All (λ k. node_or_nothing (kind_of k) < length m0) ks → length m1 ≡ length m0 → AreNoted nodes (take i ks) m0 a0 m1 a1
      → m2 ≡ marks_with m1 (kind_of (get_or ks i d)) → a2 ≡ asked_with a1 (kind_of (get_or ks i d)) → AreNoted nodes (take (i + 1) ks) m0 a0 m2 a2
  label_noted ks d inside within room h marks asked =
      let node = within i d inside in
      subst (λ (ls : List Label). AreNoted nodes ls m0 a0 m2 a2) (sym (take_more ks i d inside))
      (noted_push nodes (take i ks) (get_or ks i d) m0 a0 m1 a1 m2 a2 h (omega (arith, node, room)) marks asked)

  pub sink_noted : (own : Nodes) (ks : List SinkLabel) (d : SinkLabel) → i < length ks → HaveNodesIn own ks → length m1 ≡ length (log_of own) + 1 → AreNoted nodes (map (λ k. k.label) (take i ks)) m0 a0 m1 a1
      → m2 ≡ marks_with m1 (kind_of (get_or ks i d).label) → a2 ≡ asked_with a1 (kind_of (get_or ks i d).label) → AreNoted nodes (map (λ k. k.label) (take (i + 1) ks)) m0 a0 m2 a2
  sink_noted own ks d inside stand room h marks asked =
      let node = stand i d inside in
      subst (λ (ls : List Label). AreNoted nodes ls m0 a0 m2 a2) (sym (map_more (λ (k : SinkLabel). k.label) ks i d inside))
      (noted_push nodes (map (λ k. k.label) (take i ks)) (get_or ks i d).label m0 a0 m1 a1 m2 a2 h (omega (arith, node, room)) marks asked)

-- as many marks as before
pub room_with : (marks : List Bool) (kind : LabelKind) → length (marks_with marks kind) ≡ length marks
room_with marks (Node n) = length-set marks n true
room_with marks (Start l) = refl
room_with marks (Run r) = refl
