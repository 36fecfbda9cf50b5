-- What is noted and asked after a walk.
use Rattle.std.proofs.Common.{◌≡◌, ℕ, zero, suc, ◌+◌, ◌<◌, inl, inr, List, [], ◌∷◌, ◌++◌, length, map, take, refl, ap, sym, ◌∙◌, subst, false, get_or, nat_eq, arith, slice_index, slice_get, Some, length-set}
use Rattle.std.specs.List.{list_any}
use Rattle.std.specs.Ordering.{eq_by_cmp}
use Rattle.std.proofs.Math.ListN.{set}
use Rattle.std.proofs.lemmas.Grind.{common_steps}
use Rattle.std.proofs.lemmas.List.{take_more}
use Rattle.std.proofs.lemmas.Option.{slice_get-get_or}
use Rattle.std.proofs.lemmas.Bool.{or_left, or_right}
use Rattle.lists.specs.Sets.{Ascends, has}
use Rattle.flow_model.specs.declared.Loc.{Loc}
use Rattle.flow_model.specs.Orders.{loc_cmp}
use Rattle.epoch_model.specs.Crossing.{added_all}
use Rattle.epoch_model.specs.Summary.{Terms}
use Rattle.epoch_model.proofs.Adding.{any_added_all}
use Rattle.merge_log.specs.declared.nodes.Entry.{Entry}
use Rattle.merge_log.specs.Log.{HasOperand, terms}
use Rattle.taint_shadow.specs.declared.labels.SinkLabel.{SinkLabel}
use Rattle.source_labels.specs.declared.nodes.Nodes.{Nodes}
use Rattle.source_labels.specs.Words.{node_words}
use Rattle.epoch_summary.specs.Summaries.{named}
use Rattle.backward_pass.specs.Needs.{AreCountedNow, AreInOrder, AreNeeds, AreWalked, HasNeed, HasStart, IsAmong, IsNeed}
use Rattle.backward_pass.specs.Backward.{IsWalked}
use Rattle.backward_pass.proofs.Lists.{sink_after}
use Rattle.backward_pass.proofs.Needs.{added_alike, need_stays}
use Rattle.backward_pass.proofs.Walks.{among_back, among_kept, among_last, order_at, order_weaker, set_case}

-- the terms of a sink are those of its label
sink_at : (nodes : Nodes) (ks : List SinkLabel) (i : ℕ) (k : SinkLabel) → slice_get ks i ≡ Some k
    → slice_get (map (λ k. k.terms) (map (named nodes) ks)) i ≡ Some (node_words.means nodes k.label)
sink_at nodes [] i k is = cc
sink_at nodes (m ∷ ms) zero k is = let same : m ≡ k = cc in ap (λ (j : SinkLabel). Some (node_words.means nodes j.label)) same
sink_at nodes (m ∷ ms) (suc i) k is = sink_at nodes ms i k is

pub sink_walked : (nodes : Nodes) (ks : List SinkLabel) (i : ℕ) (d : SinkLabel) (asked more : List Loc) → i < length ks → more ≡ added_all asked (node_words.means nodes (get_or ks i d).label).starts
    → IsWalked false (map (named nodes) ks) i asked more
sink_walked nodes ks i d asked more less e =
    let next = sink_after (map (named nodes) ks) i (node_words.means nodes (get_or ks i d).label) (sink_at nodes ks i (get_or ks i d) (slice_get-get_or ks i d less)) in
    record { sink = next.0; is = next.2; added = e ∙ ap (λ (t : Terms). added_all asked t.starts) (sym next.1) }

pub among_at : (ns : List ℕ) (i : ℕ) → i < length ns → IsAmong ns (slice_index ns i)
among_at [] i h = absurd (omega (arith, h))
among_at (n ∷ ns) zero h = or_left (nat_eq n n) (list_any (nat_eq n) ns) (grind (arith, common_steps))
among_at (n ∷ ns) (suc i) h = or_right (nat_eq (slice_index ns i) n) (list_any (nat_eq (slice_index ns i)) ns) (among_at ns i (omega (arith, h)))

module _ (log : List Entry) (asked : List Loc) (order old needs : List ℕ) (i : ℕ) (less : i < length order) (c : AreCountedNow log asked (take i order) old needs) where
  -- the operands of the next node have their needs
  pub operands_have : AreInOrder log (HasNeed log asked old) [] order → (o : ℕ) → HasOperand log (slice_index order i) o → HasNeed log asked needs o
  operands_have h o p = c.known o (order_at log (HasNeed log asked old) [] order i h less o p)

  -- and then it has its need too
  pub one_counted : (need : ℕ) → slice_index order i < length needs → IsNeed asked (terms log (slice_index order i)).starts need
      → AreCountedNow log asked (take (i + 1) order) old (set needs (slice_index order i) need)
  one_counted need inside is =
      let node = slice_index order i in
      subst (λ (ns : List ℕ). AreCountedNow log asked ns old (set needs node need)) (sym (take_more order i 0 less))
      (record {
        room = length-set needs node need ∙ c.room;
        known = λ n h. elim (set_case needs node need n inside) [
          | inl p ↦ subst (λ (v : ℕ). IsNeed asked (terms log n).starts v) (sym p.1) (subst (λ (m : ℕ). IsNeed asked (terms log m).starts need) (sym p.0) is)
          | inr p ↦ subst (λ (v : ℕ). IsNeed asked (terms log n).starts v) (sym p.1) (c.known n (elim h [
            | inl q ↦ inl q
            | inr q ↦ elim (among_back (take i order) node n q) [ inl r ↦ inr r | inr r ↦ absurd (p.0 r) ]
          ]))
        ];
        only = λ n some. elim (set_case needs node need n inside) [
          | inl p ↦ inr (subst (IsAmong (take i order ++ node ∷ [])) (sym p.0) (among_last (take i order) node))
          | inr p ↦ elim (c.only n (subst (λ (v : ℕ). 0 < v) p.1 some)) [ inl q ↦ inl q | inr q ↦ inr (among_kept (take i order) node n q) ]
        ];
      })

pub none_counted : (log : List Entry) (asked : List Loc) (needs : List ℕ) → AreCountedNow log asked [] needs needs
none_counted log asked needs = record { room = refl; known = λ n h. elim h [ inl p ↦ p | inr p ↦ cc ]; only = λ n h. inl h }

module _ (log : List Entry) (root : ℕ) (old needs order : List ℕ) (starts set : List Loc) (asked : List Loc) (w : AreWalked log root old needs order starts)
    (members : (l : Loc) → has loc_cmp l set ≡ has loc_cmp l starts) (noted : AreNeeds log asked old) where
  kept_needs : (n : ℕ) → 0 < slice_index old n → HasNeed log (added_all asked set) needs n
  kept_needs n some = subst (λ (v : ℕ). IsNeed (added_all asked set) (terms log n).starts v) (sym (w.kept n some)) (need_stays asked set (terms log n).starts (slice_index old n) (noted n some))

  pub are_ordered : AreInOrder log (HasNeed log (added_all asked set) needs) [] order
  are_ordered = order_weaker log (λ o. 0 < slice_index old o) (HasNeed log (added_all asked set) needs) kept_needs [] order w.ordered

  pub starts_asked : (n : ℕ) → IsAmong order n → HasStart log (added_all asked set) n
  starts_asked n h l e = any_added_all (eq_by_cmp loc_cmp l) asked set ∙ or_right (has loc_cmp l asked) (has loc_cmp l set) (members l ∙ w.found n h l e)

  module _ (new : List ℕ) (c : AreCountedNow log (added_all asked set) order needs new) where
    pub all_noted : AreNeeds log (added_all asked set) new
    all_noted n some = elim (c.only n some) [
      | inl p ↦ elim (w.only n p) [ inl q ↦ c.known n (inl (kept_needs n q)) | inr q ↦ c.known n (inr q) ]
      | inr p ↦ c.known n (inr p)
    ]

    pub root_asked : IsAmong order root → Ascends loc_cmp set → Ascends loc_cmp (terms log root).starts → added_all asked set ≡ added_all asked (terms log root).starts
    root_asked h a b = added_alike asked set (terms log root).starts a b (λ l k. w.within l (sym (members l) ∙ k)) (c.known root (inr h)).within
