-- Joined by lists, the summaries of the epochs give the rows. Crates above cite these lemmas.
use Rattle.std.proofs.Common.{◌≡◌, ℕ, zero, suc, ◌+◌, ◌-◌, ◌<◌, ◌≤◌, List, [], ◌∷◌, ◌++◌, map, length, refl, ap, ap₂, sym, subst, ◌∙◌, true, arith, append_assoc}
use Rattle.std.specs.List.{flat_map, AllByRecursion}
use Rattle.std.specs.Ordering.{eq_by_cmp}
use Rattle.std.proofs.lemmas.List.{map-append}
use Rattle.std.proofs.lemmas.List.Elements.{recursion_from_All}
use Rattle.flow_model.specs.declared.Loc.{Loc}
use Rattle.flow_model.specs.declared.InnerSink.{InnerSink}
use Rattle.flow_model.specs.declared.SourceByte.{SourceByte}
use Rattle.flow_model.specs.declared.StepSeen.{StepSeen}
use Rattle.lists.specs.Sets.{union, has}
use Rattle.flow_model.specs.Orders.{source_cmp, loc_cmp}
use Rattle.flow_model.specs.Origins.{Policy, origins}
use Rattle.flow_model.specs.Ranges.{IsLocation, IsInRange}
use Rattle.report_model.specs.Query.{Query, policy_of}
use Rattle.report_model.specs.Rows.{Sink, Row, row}
use Rattle.epoch_model.specs.Stretch.{past, born, points_at_start, sinks_between, sinks_of_epoch}
use Rattle.epoch_model.specs.Cutting.{RisesTo, IsCutting}
use Rattle.epoch_model.specs.Summary.{Summary, Terms, SinkTerms, IsSummary, AreSummaries, terms, sink_terms}
use Rattle.epoch_model.specs.Crossing.{wanted, crossing}
use Rattle.epoch_model.specs.Join.{answer_to, resolved, resolved_row, rows_of, answers_of, joined}
use Rattle.epoch_model.specs.JoinLaws.{JoinGivesRows}
use Rattle.epoch_model.proofs.Composing.{origins_compose}
use Rattle.lists.proofs.Lists.{all-parts}
use Rattle.epoch_model.proofs.Adding.{any_added_all, all_had, answer_is, union_over_same}
use Rattle.epoch_model.proofs.Sinks.{IsPlaced, sinks-all, sinks-later, sinks-split, placed-of_epoch}
use Rattle.epoch_model.proofs.Asking.{rises_up, located-crossing}

-- what is known of these locations are their origins at time s
abbrev pub AreOrigins : Policy → List StepSeen → ℕ → (Loc → List SourceByte) → List Loc → Type 0
AreOrigins policy trace s before ls = AllByRecursion (λ l. before l ≡ origins policy trace s l) ls

module _ (q : Query) (trace : List StepSeen) (s : ℕ) (before : Loc → List SourceByte) where
  resolved_terms : (n : ℕ) (l : Loc) → AreOrigins (policy_of q) trace s before (past (policy_of q).rule trace s n l)
      → resolved before (terms (policy_of q) trace s n l) ≡ origins (policy_of q) trace (s + n) l
  resolved_terms n l h =
      ap (union source_cmp (born (policy_of q) trace s n l)) (union_over_same before (origins (policy_of q) trace s) (past (policy_of q).rule trace s n l) h)
      ∙ sym (origins_compose (policy_of q) trace s n l)

  rows_known : (ks : List Sink) → AllByRecursion (IsPlaced q s) ks
      → AreOrigins (policy_of q) trace s before (flat_map (λ k. k.terms.starts) (map (sink_terms (policy_of q) trace s) ks))
      → map (resolved_row before) (map (sink_terms (policy_of q) trace s) ks) ≡ map (row q trace) ks
  rows_known [] h a = refl
  rows_known (k ∷ ks) h a =
      let here = past (policy_of q).rule trace s (k.time - s) k.loc in
      let rest = flat_map (λ k. k.terms.starts) (map (sink_terms (policy_of q) trace s) ks) in
      let when : s + (k.time - s) ≡ k.time = omega (arith, (h.0).0) in
      let make : List SourceByte → Row = λ sources. record { sink = k.name; sources = sources } in
      ap₂ (λ (r : Row) (rs : List Row). r ∷ rs)
      (ap make (resolved_terms (k.time - s) k.loc (all-parts _ here rest a).0 ∙ ap (λ (t : ℕ). origins (policy_of q) trace t k.loc) when))
      (rows_known ks h.1 (all-parts _ here rest a).1)

  module _ (c : ℕ) (e : Summary) (i : IsSummary q trace s (c - s) e) (low : s ≤ c) where
    answers_known : (ls : List Loc) → AllByRecursion IsLocation ls → AreOrigins (policy_of q) trace s before (flat_map (λ l. (e.ends l).starts) ls)
        → answers_of e before ls ≡ map (origins (policy_of q) trace c) ls
    answers_known [] b a = refl
    answers_known (l ∷ ls) b a =
        let rest = flat_map (λ l. (e.ends l).starts) ls in
        let when : s + (c - s) ≡ c = omega (arith, low) in
        let known = (all-parts _ (e.ends l).starts rest a).0 in
        let front = subst (λ (t : Terms). AreOrigins (policy_of q) trace s before t.starts) (i.ends l b.0) known in
        ap₂ (λ (x : List SourceByte) (xs : List (List SourceByte)). x ∷ xs)
        (ap (resolved before) (i.ends l b.0) ∙ resolved_terms (c - s) l front ∙ ap (λ (t : ℕ). origins (policy_of q) trace t l) when)
        (answers_known ls b.1 (all-parts _ (e.ends l).starts rest a).1)

    -- where the origins at the epoch's start are known, its rows are those of its sinks, and its answers the origins at
    -- its end
    pub epoch_known : AllByRecursion (λ p. IsLocation p.loc) q.points → (ls : List Loc) → AllByRecursion IsLocation ls → AreOrigins (policy_of q) trace s before (wanted e ls)
        → (rows_of e before ≡ map (row q trace) (sinks_of_epoch q trace s (c - s))) × (answers_of e before ls ≡ map (origins (policy_of q) trace c) ls)
    epoch_known points ls b a =
        let parts = all-parts _ (flat_map (λ k. k.terms.starts) e.sinks) (flat_map (λ l. (e.ends l).starts) ls) a in
        let starts = subst (λ (ks : List SinkTerms). AreOrigins (policy_of q) trace s before (flat_map (λ k. k.terms.starts) ks)) i.sinks parts.0 in (
          ap (map (resolved_row before)) i.sinks ∙ rows_known (sinks_of_epoch q trace s (c - s)) (placed-of_epoch q points trace s (c - s)) starts,
          answers_known ls b parts.1,
        )

-- what is known of each asked location is known of each wanted one
pub wanted_known : (policy : Policy) (trace : List StepSeen) (s : ℕ) (before : Loc → List SourceByte) (e : Summary) (es : List Summary)
    → ((l : Loc) → has loc_cmp l (crossing (e ∷ es)) ≡ true → before l ≡ origins policy trace s l)
    → AreOrigins policy trace s before (wanted e (crossing es))
wanted_known policy trace s before e es h =
    all_had (λ l. before l ≡ origins policy trace s l) (wanted e (crossing es)) (λ l has. h l (any_added_all (eq_by_cmp loc_cmp l) [] (wanted e (crossing es)) ∙ has))

module _ (q : Query) (trace : List StepSeen) (steps : AllByRecursion IsInRange trace) (points : AllByRecursion (λ p. IsLocation p.loc) q.points) where
  -- where the answers at a cut are the origins there, the epochs from there on have the rows of their sinks
  pub joined_later : (s : ℕ) (cs : List ℕ) (t : ℕ) (es : List Summary) (asked : List Loc) (answers : List (List SourceByte))
      → 0 < s → RisesTo s cs t → AreSummaries q trace s cs es
      → ((l : Loc) → has loc_cmp l (crossing es) ≡ true → answer_to asked answers l ≡ origins (policy_of q) trace s l)
      → joined asked answers es ≡ map (row q trace) (sinks_between q trace s (t - s))
  joined_later s [] t [] asked answers pos h a k =
      let none : 0 ≡ t - s = omega (arith, h) in
      ap (λ (i : ℕ). map (row q trace) (sinks_between q trace s i)) none
  joined_later s (c ∷ cs) t (e ∷ es) asked answers pos h a k =
      let before = answer_to asked answers in
      let low : s ≤ c = omega (arith, h.0) in
      let known = epoch_known q trace s before c e a.0 low points (crossing es) (located-crossing q trace steps points c cs es a.1) (wanted_known (policy_of q) trace s before e es k) in
      ap₂ (λ (x y : List Row). x ++ y) (known.0 ∙ ap (map (row q trace)) (sinks-later q trace s (c - s) pos))
      (ap (λ (xs : List (List SourceByte)). joined (crossing es) xs es) known.1
      ∙ joined_later c cs t es (crossing es) (map (origins (policy_of q) trace c) (crossing es)) (omega (arith, h.0)) h.1 a.1 (answer_is (origins (policy_of q) trace c) (crossing es)))
      ∙ sym (ap (map (row q trace)) (sinks-split q trace s c t low (rises_up c cs t h.1))
      ∙ map-append (row q trace) (sinks_between q trace s (c - s)) (sinks_between q trace c (t - c)))
  joined_later s cs t es asked answers pos h a k = absurd a

  -- the first epoch has its own rows and those of the epochs that follow
  joined_first : (c : ℕ) (cs : List ℕ) (t : ℕ) (e : Summary) (es : List Summary) → c ≤ t → AreSummaries q trace 0 (c ∷ cs) (e ∷ es)
      → joined (crossing es) (map (origins (policy_of q) trace c) (crossing es)) es ≡ map (row q trace) (sinks_between q trace c (t - c))
      → joined [] [] (e ∷ es) ≡ map (row q trace) (sinks_of_epoch q trace 0 t)
  joined_first c cs t e es high a rest =
      let policy = policy_of q in
      let before = answer_to [] [] in
      let known = epoch_known q trace 0 before c e a.0 (omega arith) points (crossing es) (located-crossing q trace steps points c cs es a.1) (wanted_known policy trace 0 before e es (λ l has. refl)) in
      let first = points_at_start q 0 in
      let own = sinks_between q trace 0 (c - 0) in
      let later = sinks_between q trace c (t - c) in
      let whole : t - 0 ≡ t = omega arith in
      ap₂ (λ (x y : List Row). x ++ y) known.0 (ap (λ (xs : List (List SourceByte)). joined (crossing es) xs es) known.1 ∙ rest)
      ∙ sym (map-append (row q trace) (first ++ own) later)
      ∙ ap (map (row q trace)) (append_assoc first own later
      ∙ ap (λ (ks : List Sink). first ++ ks) (sym (sinks-split q trace 0 c t (omega arith) high)
      ∙ ap (sinks_between q trace 0) whole))

  joined_all : (n : ℕ) (cuts : List ℕ) (es : List Summary) → IsCutting n cuts → AreSummaries q trace 0 cuts es
      → joined [] [] es ≡ map (row q trace) (sinks_of_epoch q trace 0 n)
  joined_all zero [] es h a = cc
  joined_all zero (c ∷ cs) [] h a = absurd a
  joined_all zero (c ∷ []) (e ∷ []) h a = let none : c ≡ 0 = cc in joined_first c [] 0 e [] (omega (arith, none)) a (ap (λ (k : ℕ). map (row q trace) (sinks_between q trace k (0 - k))) (sym none))
  joined_all zero (c ∷ []) (e ∷ d ∷ es) h a = absurd a.1
  joined_all zero (c ∷ b ∷ cs) (e ∷ es) h a = cc
  joined_all (suc n) [] es h a = absurd (omega (arith, h))
  joined_all (suc n) (c ∷ cs) [] h a = absurd a
  joined_all (suc n) (c ∷ cs) (e ∷ es) h a =
      joined_first c cs (suc n) e es (rises_up c cs (suc n) h.1) a
      (joined_later c cs (suc n) es (crossing es) (map (origins (policy_of q) trace c) (crossing es)) (omega (arith, h.0)) h.1 a.1 (answer_is (origins (policy_of q) trace c) (crossing es)))

pub join_gives_rows : JoinGivesRows
join_gives_rows q trace cuts es steps points h a =
    joined_all q trace (recursion_from_All IsInRange trace steps) (recursion_from_All (λ (p : InnerSink). IsLocation p.loc) q.points points) (length trace) cuts es h a
    ∙ sym (ap (map (row q trace)) (sinks-all q trace))
