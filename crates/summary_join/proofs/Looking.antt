-- Nodes that are looked at, from the last to the first.
use Rattle.std.proofs.Common.{◌≡◌, ℕ, zero, suc, ◌+◌, ◌<◌, ◌≤◌, List, length, get_or, refl, ap, sym, subst, ◌∙◌, Bool, true, false, ◌⊎◌, inl, inr, arith, set, ltb, ltb-true, ltb-false}
use Rattle.std.specs.Prelude.{Some}
use Rattle.std.proofs.lemmas.Bool.{or_cases, or_left, or_right}
use Rattle.std.proofs.lemmas.List.{get_or_past}
use Rattle.std.proofs.lemmas.Option.{slice_get-get_or, slice_get_within}
use Rattle.lists.specs.Sets.{has}
use Rattle.lists.proofs.Algebra.{has-union}
use Rattle.lists.proofs.Tests.{true-false}
use Rattle.flow_model.specs.declared.Loc.{Loc}
use Rattle.flow_model.specs.Orders.{loc_cmp}
use Rattle.flow_model.proofs.Orders.{loc_total}
use Rattle.epoch_model.specs.Crossing.{added}
use Rattle.merge_log.specs.declared.nodes.Entry.{Entry}
use Rattle.merge_log.specs.declared.nodes.Entry.TheVariants.{Source, Run, Start, Union}
use Rattle.merge_log.specs.Log.{Terms, AreOrdered, HasOperandsBefore, entry_at, entry_terms, terms}
use Rattle.merge_log.proofs.Terms.{entry_before, nothing_under_0, terms_step}
use Rattle.summary_join.specs.Labels.{IsMarked}
use Rattle.summary_join.specs.Needs.{AreClosed, AreLookedAt, IsLookedAt}
use Rattle.summary_join.proofs.Marking.{added_back, added_has, ask_keeps, keeps_all, mark_keeps, needs_then, set_back, set_marked, set_more}
use Rattle.summary_join.proofs.Places.{loc_is}

-- ---- one node

module _ (log : List Entry) (node : ℕ) (old : List Bool) (asks : List Loc) where
  -- nothing is new
  pub nothing_new : ((a b : ℕ) → IsMarked old node → entry_at log node ≡ Some (Union a b) → ⊥) → ((l : Loc) → IsMarked old node → entry_at log node ≡ Some (Start l) → ⊥)
      → IsLookedAt log node old asks old asks
  nothing_new no_union no_start = record {
    keeps = keeps_all old asks;
    same = λ n h m. m;
    operands = λ a b m at. absurd (no_union a b m at);
    start = λ l m at. absurd (no_start l m at);
    passing = λ test p. p;
  }

  pub unmarked_node : get_or old node false ≡ false → IsLookedAt log node old asks old asks
  unmarked_node e = nothing_new (λ a b m at. true-false (sym m ∙ e)) (λ l m at. true-false (sym m ∙ e))

  -- a start location is asked
  pub start_looked : (l : Loc) (more : List Loc) → IsMarked old node → entry_at log node ≡ Some (Start l) → more ≡ added asks l → IsLookedAt log node old asks old more
  start_looked l more marked at is = subst (IsLookedAt log node old asks old) (sym is) (record {
    keeps = ask_keeps old asks l;
    same = λ n h m. m;
    operands = λ a b m e. let no : Some (Start l) ≡ Some (Union a b) = sym at ∙ e in cc;
    start = λ k m e.
        let both : Some (Start l) ≡ Some (Start k) = sym at ∙ e in
        let same : l ≡ k = cc in
        subst (λ (j : Loc). has loc_cmp j (added asks l) ≡ true) same (added_has asks l);
    passing = λ test p. record {
      asked = λ m h. elim (added_back asks l m h) [
        | inl was ↦ p.asked m was
        | inr is ↦ p.marked node marked m (ap (λ (t : Terms). has loc_cmp m t.starts) (terms_step log node (Start l) at tt) ∙ is)
      ];
      marked = p.marked;
    };
  })

  -- the operands of a union are marked
  module _ (a b : ℕ) (marked : IsMarked old node) (at : entry_at log node ≡ Some (Union a b)) (before : HasOperandsBefore node (Union a b)) (room : node < length old) where
    left_in : a < length old
    left_in = omega (arith, before.1, before.2, room)

    right_in : b < length (set old a true)
    right_in = let same = (mark_keeps old asks a left_in).room in omega (arith, before.2, room, same)

    union_starts : (l : Loc) → (has loc_cmp l (terms log a).starts ≡ true) ⊎ (has loc_cmp l (terms log b).starts ≡ true) → has loc_cmp l (terms log node).starts ≡ true
    union_starts l h =
        ap (λ (t : Terms). has loc_cmp l t.starts) (terms_step log node (Union a b) at before)
        ∙ has-union loc_total (terms log a).starts (terms log b).starts l
        ∙ elim h [
          | inl p ↦ or_left (has loc_cmp l (terms log a).starts) (has loc_cmp l (terms log b).starts) p
          | inr p ↦ or_right (has loc_cmp l (terms log a).starts) (has loc_cmp l (terms log b).starts) p
        ]

    pub union_looked : (new : List Bool) → new ≡ set (set old a true) b true → IsLookedAt log node old asks new asks
    union_looked new is = subst (λ (ms : List Bool). IsLookedAt log node old asks ms asks) (sym is) (record {
      keeps = needs_then old asks (set old a true) asks (set (set old a true) b true) asks (mark_keeps old asks a left_in) (mark_keeps (set old a true) asks b right_in);
      same = λ n h m. elim (set_back (set old a true) b n m) [
        | inl p ↦ elim (set_back old a n p) [ inl q ↦ q | inr q ↦ absurd (omega (arith, h, q, before.1, before.2)) ]
        | inr p ↦ absurd (omega (arith, h, p, before.2))
      ];
      operands = λ i j m e.
          let both : Some (Union a b) ≡ Some (Union i j) = sym at ∙ e in
          let left : a ≡ i = cc in
          let right : b ≡ j = cc in (
            subst (IsMarked (set (set old a true) b true)) left (set_more (set old a true) b a right_in (set_marked old a left_in)),
            subst (IsMarked (set (set old a true) b true)) right (set_marked (set old a true) b right_in),
          );
      start = λ l m e. let no : Some (Union a b) ≡ Some (Start l) = sym at ∙ e in cc;
      passing = λ test p. record {
        asked = p.asked;
        marked = λ n m l h. elim (set_back (set old a true) b n m) [
          | inl q ↦ elim (set_back old a n q) [
            | inl was ↦ p.marked n was l h
            | inr is ↦ p.marked node marked l (union_starts l (inl (subst (λ (i : ℕ). has loc_cmp l (terms log i).starts ≡ true) is h)))
          ]
          | inr is ↦ p.marked node marked l (union_starts l (inr (subst (λ (i : ℕ). has loc_cmp l (terms log i).starts ≡ true) is h)))
        ];
      };
    })

-- ---- from the last on

entry_within : (log : List Entry) (n : ℕ) (e : Entry) → entry_at log n ≡ Some e → n ≤ length log
entry_within log zero e h = omega arith
entry_within log (suc n) e h = let within = slice_get_within log n e h in omega (arith, within)

-- no node is above the last
pub none_looked : (log : List Entry) (place : ℕ) (marks : List Bool) (asks : List Loc) → length log ≤ place → AreLookedAt log place marks asks marks asks
none_looked log place marks asks last = record {
  keeps = keeps_all marks asks;
  operands = λ n a b h m at. let within = entry_within log n (Union a b) at in absurd (omega (arith, h, last, within));
  starts = λ n l h m at. let within = entry_within log n (Start l) at in absurd (omega (arith, h, last, within));
  passing = λ test p. p;
}

-- one node more
pub looked_more : (log : List Entry) (place node : ℕ) (m0 : List Bool) (a0 : List Loc) (m1 : List Bool) (a1 : List Loc) (m2 : List Bool) (a2 : List Loc)
    → place + 1 ≡ node → AreLookedAt log node m0 a0 m1 a1 → IsLookedAt log node m1 a1 m2 a2 → AreLookedAt log place m0 a0 m2 a2
looked_more log place node m0 a0 m1 a1 m2 a2 next h k = record {
  keeps = needs_then m0 a0 m1 a1 m2 a2 h.keeps k.keeps;
  operands = λ n a b above m at. operands n a b m at (above_or_here n above (ltb node n) refl);
  starts = λ n l above m at. starts n l m at (above_or_here n above (ltb node n) refl);
  passing = λ test p. k.passing test (h.passing test p);
} where
  above_or_here : (n : ℕ) → place < n → (b : Bool) → ltb node n ≡ b → (node < n) ⊎ (n ≡ node)
  above_or_here n above true e = inl (ltb-true node n e)
  above_or_here n above false e = let upto = ltb-false node n e in inr (omega (arith, above, next, upto))

  operands : (n a b : ℕ) → IsMarked m2 n → entry_at log n ≡ Some (Union a b) → (node < n) ⊎ (n ≡ node) → IsMarked m2 a × IsMarked m2 b
  operands n a b m at (inl above) =
      let was = k.same n (omega (arith, above)) m in
      let both = h.operands n a b above was at in
      (k.keeps.marked a both.0, k.keeps.marked b both.1)
  operands n a b m at (inr is) =
      k.operands a b (k.same node (omega arith) (subst (IsMarked m2) is m)) (subst (λ (i : ℕ). entry_at log i ≡ Some (Union a b)) is at)

  starts : (n : ℕ) (l : Loc) → IsMarked m2 n → entry_at log n ≡ Some (Start l) → (node < n) ⊎ (n ≡ node) → has loc_cmp l a2 ≡ true
  starts n l m at (inl above) = k.keeps.asked l (h.starts n l above (k.same n (omega (arith, above)) m) at)
  starts n l m at (inr is) = k.start l (k.same node (omega arith) (subst (IsMarked m2) is m)) (subst (λ (i : ℕ). entry_at log i ≡ Some (Start l)) is at)

-- ---- all nodes

above_0 : (log : List Entry) (n : ℕ) (e : Entry) → entry_at log n ≡ Some e → 0 < n
above_0 log zero e h = cc
above_0 log (suc n) e h = omega arith

pub closed : (log : List Entry) (m0 : List Bool) (a0 : List Loc) (m1 : List Bool) (a1 : List Loc) → AreLookedAt log 0 m0 a0 m1 a1 → AreClosed log m1
closed log m0 a0 m1 a1 h n a b m at = h.operands n a b (above_0 log n (Union a b) at) m at

-- the start locations under each marked node are asked
module _ (log : List Entry) (ordered : AreOrdered 1 log) (m0 : List Bool) (a0 : List Loc) (marks : List Bool) (asked : List Loc) (room : length marks ≡ length log + 1)
    (h : AreLookedAt log 0 m0 a0 marks asked) where
  abbrev IsFound : ℕ → Type 0
  IsFound n = (l : Loc) → has loc_cmp l (terms log n).starts ≡ true → has loc_cmp l asked ≡ true

  of_entry : (n : ℕ) (e : Entry) → ((i : ℕ) → i < n → IsMarked marks i → IsFound i) → IsMarked marks n → entry_at log n ≡ Some e → HasOperandsBefore n e
      → (l : Loc) → has loc_cmp l (entry_terms (terms log) e).starts ≡ true → has loc_cmp l asked ≡ true
  of_entry n (Source b) ih m at before l q = true-false (sym q)
  of_entry n (Run c a b) ih m at before l q = true-false (sym q)
  of_entry n (Start k) ih m at before l q =
      elim (or_cases _ false q) [
        | inl is ↦ subst (λ (j : Loc). has loc_cmp j asked ≡ true) (sym (loc_is l k is)) (h.starts n k (above_0 log n (Start k) at) m at)
        | inr none ↦ true-false (sym none)
      ]
  of_entry n (Union a b) ih m at before l q =
      let both = h.operands n a b (above_0 log n (Union a b) at) m at in
      let lower : a < n = omega (arith, before.1, before.2) in
      elim (or_cases (has loc_cmp l (terms log a).starts) (has loc_cmp l (terms log b).starts) (sym (has-union loc_total (terms log a).starts (terms log b).starts l) ∙ q)) [
        | inl p ↦ ih a lower both.0 l p
        | inr p ↦ ih b before.2 both.1 l p
      ]

  at_node : (n : ℕ) → ((i : ℕ) → i < n → IsMarked marks i → IsFound i) → IsMarked marks n → (b : Bool) → ltb n (length marks) ≡ b → IsFound n
  at_node n ih m false e = λ l q. true-false (sym m ∙ get_or_past marks n false (ltb-false n (length marks) e))
  at_node zero ih m true e = λ l q. true-false (sym q ∙ ap (λ (t : Terms). has loc_cmp l t.starts) (nothing_under_0 log))
  at_node (suc i) ih m true e =
      let inside : i < length log = omega (arith, ltb-true (suc i) (length marks) e, room) in
      let entry = get_or log i (Union 0 0) in
      let at : entry_at log (suc i) ≡ Some entry = slice_get-get_or log i (Union 0 0) inside in
      let before = entry_before log (suc i) entry ordered at in
      λ l q. of_entry (suc i) entry ih m at before l (sym (ap (λ (t : Terms). has loc_cmp l t.starts) (terms_step log (suc i) entry at before)) ∙ q)

  found_below : (past n : ℕ) → n < past → IsMarked marks n → IsFound n
  found_below zero n less m = absurd (omega (arith, less))
  found_below (suc past) n less m =
      at_node n (λ i lower k. found_below past i (omega (arith, less, lower)) k) m (ltb n (length marks)) refl

  pub found : (n : ℕ) → IsMarked marks n → IsFound n
  found n m = found_below (suc n) n (omega arith) m
