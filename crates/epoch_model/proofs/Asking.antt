-- What epochs ask of each other. Crates above cite these lemmas.
use Rattle.std.proofs.Common.{◌≡◌, ℕ, ◌+◌, ◌-◌, ◌<◌, ◌≤◌, List, [], ◌∷◌, ◌++◌, map, refl, ap, ap₂, sym, subst, ◌∙◌, Bool, ◌||◌, arith}
use Rattle.std.specs.List.{list_any, flat_map, AllByRecursion}
use Rattle.std.specs.Ordering.{eq_by_cmp}
use Rattle.std.proofs.lemmas.List.Folds.{list_any-append}
use Rattle.std.proofs.lemmas.List.Elements.{recursion_from_All, All-from_recursion}
use Rattle.lists.proofs.Lists.{all-append, all-weaken, all-map}
use Rattle.flow_model.specs.declared.Loc.{Loc}
use Rattle.flow_model.specs.declared.InnerSink.{InnerSink}
use Rattle.flow_model.specs.declared.StepSeen.{StepSeen}
use Rattle.flow_model.specs.Orders.{loc_cmp}
use Rattle.flow_model.specs.Origins.{Policy}
use Rattle.flow_model.specs.Ranges.{IsLocation, IsInRange}
use Rattle.flow_model.proofs.Orders.{loc_same}
use Rattle.report_model.specs.Query.{Query, policy_of}
use Rattle.report_model.specs.Rows.{Sink}
use Rattle.epoch_model.specs.Stretch.{past, sinks_between, sinks_of_epoch}
use Rattle.epoch_model.specs.Cutting.{RisesTo}
use Rattle.epoch_model.specs.Summary.{Summary, Terms, SinkTerms, IsSummary, AreSummaries, sink_terms}
use Rattle.epoch_model.specs.Crossing.{added_all, wanted, asked_by, crossing, crossing_at, needed_by}
use Rattle.epoch_model.specs.JoinLaws.{AsksWhatIsNeeded, AsksLocations, AsksByCuts, AsksOnce, DefinedAreSummaries}
use Rattle.epoch_model.proofs.AnyOf.{any_flat, any_union}
use Rattle.epoch_model.proofs.Composing.{any_past}
use Rattle.report_model.proofs.Each.{all-flat}
use Rattle.epoch_model.proofs.Lists.{any_agreeing, flat_agreeing}
use Rattle.epoch_model.proofs.Located.{located-past}
use Rattle.epoch_model.proofs.Adding.{any_added_all, all-added_all, none_distinct, once_added_all}
use Rattle.epoch_model.proofs.Sinks.{IsPlaced, sinks-split, sinks-later, placed-between, placed-of_epoch}

pub rises_up : (s : ℕ) (cs : List ℕ) (n : ℕ) → RisesTo s cs n → s ≤ n
rises_up s [] n h = omega (arith, h)
rises_up s (c ∷ cs) n h = let up = rises_up c cs n h.1 in omega (arith, up, h.0)

-- ---- which tests the asked locations pass

any_asked_by : (f : Loc → Bool) (e : Summary) (requests : List Loc)
    → list_any f (asked_by e requests) ≡ (list_any (λ k. list_any f k.terms.starts) e.sinks || list_any (λ l. list_any f (e.ends l).starts) requests)
any_asked_by f e requests =
    any_added_all f [] (wanted e requests)
    ∙ list_any-append f (flat_map (λ k. k.terms.starts) e.sinks) (flat_map (λ l. (e.ends l).starts) requests)
    ∙ ap₂ (λ (a b : Bool). a || b) (any_flat f (λ k. k.terms.starts) e.sinks) (any_flat f (λ l. (e.ends l).starts) requests)

any_map : {X Y : Type 0} (f : Y → Bool) (g : X → Y) (xs : List X) → list_any f (map g xs) ≡ list_any (λ x. f (g x)) xs
any_map f g [] = refl
any_map f g (x ∷ xs) = ap (λ (b : Bool). f (g x) || b) (any_map f g xs)

-- some location at time s that flows into the sink passes the test
abbrev pub flows_in : Policy → List StepSeen → (Loc → Bool) → ℕ → Sink → Bool
flows_in policy trace f s k = list_any f (past policy.rule trace s (k.time - s) k.loc)

-- what flows in from a later time on, seen from an earlier one
flows_from : (policy : Policy) (trace : List StepSeen) (f : Loc → Bool) (s c : ℕ) (k : Sink) → s ≤ c → c ≤ k.time
    → flows_in policy trace (λ l. list_any f (past policy.rule trace s (c - s) l)) c k ≡ flows_in policy trace f s k
flows_from policy trace f s c k low high =
    let early = λ (l : Loc). list_any f (past policy.rule trace s (c - s) l) in
    let place : c ≡ s + (c - s) = omega (arith, low) in
    let whole : (c - s) + (k.time - c) ≡ k.time - s = omega (arith, low, high) in
    ap (λ (r : ℕ). list_any early (past policy.rule trace r (k.time - c) k.loc)) place
    ∙ sym (any_past f policy.rule trace s (c - s) (k.time - c) k.loc)
    ∙ ap (λ (i : ℕ). list_any f (past policy.rule trace s i k.loc)) whole

module _ (q : Query) (trace : List StepSeen) (steps : AllByRecursion IsInRange trace) (points : AllByRecursion (λ p. IsLocation p.loc) q.points) where
  -- ---- what is asked are locations

  located-wanted : (s n : ℕ) (e : Summary) (requests : List Loc) → IsSummary q trace s n e → AllByRecursion IsLocation requests → AllByRecursion IsLocation (wanted e requests)
  located-wanted s n e requests i a =
      let policy = policy_of q in
      let sinks = sinks_of_epoch q trace s n in
      let of_sinks = all-weaken (IsPlaced q s) (λ (k : Sink). AllByRecursion IsLocation (sink_terms policy trace s k).terms.starts) (λ (k : Sink) at. located-past policy.rule trace s (k.time - s) k.loc steps at.1) sinks (placed-of_epoch q points trace s n) in
      let mapped = all-map (λ (k : SinkTerms). AllByRecursion IsLocation k.terms.starts) (sink_terms policy trace s) sinks of_sinks in
      all-append IsLocation (flat_map (λ k. k.terms.starts) e.sinks) (flat_map (λ l. (e.ends l).starts) requests)
      (all-flat IsLocation (λ k. k.terms.starts) e.sinks (subst (AllByRecursion (λ (k : SinkTerms). AllByRecursion IsLocation k.terms.starts)) (sym i.sinks) mapped))
      (all-flat IsLocation (λ l. (e.ends l).starts) requests
      (all-weaken IsLocation (λ (l : Loc). AllByRecursion IsLocation (e.ends l).starts) (λ l h. subst (λ (t : Terms). AllByRecursion IsLocation t.starts) (sym (i.ends l h)) (located-past policy.rule trace s n l steps h)) requests a))

  pub located-crossing : (s : ℕ) (cs : List ℕ) (es : List Summary) → AreSummaries q trace s cs es → AllByRecursion IsLocation (crossing es)
  located-crossing s cs [] a = tt
  located-crossing s [] (e ∷ es) a = absurd a
  located-crossing s (c ∷ cs) (e ∷ es) a = all-added_all IsLocation [] (wanted e (crossing es)) tt (located-wanted s (c - s) e (crossing es) a.0 (located-crossing c cs es a.1))

  -- the start locations of asked locations are those of the definitions
  starts_are : (s n : ℕ) (e : Summary) (requests : List Loc) → IsSummary q trace s n e → AllByRecursion IsLocation requests
      → AllByRecursion (λ l. (e.ends l).starts ≡ past (policy_of q).rule trace s n l) requests
  starts_are s n e requests i = all-weaken IsLocation (λ l. (e.ends l).starts ≡ past (policy_of q).rule trace s n l) (λ l h. ap (λ (t : Terms). t.starts) (i.ends l h)) requests

  -- ---- they are those that are needed

  all_flow : (f : Loc → Bool) (s c : ℕ) → s ≤ c → (ks : List Sink) → AllByRecursion (IsPlaced q c) ks
      → list_any (flows_in (policy_of q) trace (λ l. list_any f (past (policy_of q).rule trace s (c - s) l)) c) ks ≡ list_any (flows_in (policy_of q) trace f s) ks
  all_flow f s c low [] h = refl
  all_flow f s c low (k ∷ ks) h = ap₂ (λ (a b : Bool). a || b) (flows_from (policy_of q) trace f s c k low (h.0).0) (all_flow f s c low ks h.1)

  -- some asked location passes the test where one that flows into a sink does
  any_crossing : (f : Loc → Bool) (s : ℕ) (cs : List ℕ) (t : ℕ) (es : List Summary) → 0 < s → RisesTo s cs t → AreSummaries q trace s cs es
      → list_any f (crossing es) ≡ list_any (flows_in (policy_of q) trace f s) (sinks_between q trace s (t - s))
  any_crossing f s [] t [] pos h a =
      let none : 0 ≡ t - s = omega (arith, h) in
      ap (λ (i : ℕ). list_any (flows_in (policy_of q) trace f s) (sinks_between q trace s i)) none
  any_crossing f s (c ∷ cs) t (e ∷ es) pos h a =
      let policy = policy_of q in
      let low : s ≤ c = omega (arith, h.0) in
      let early = λ (l : Loc). list_any f (past policy.rule trace s (c - s) l) in
      let starts = starts_are s (c - s) e (crossing es) a.0 (located-crossing c cs es a.1) in
      any_asked_by f e (crossing es)
      ∙ ap₂ (λ (a b : Bool). a || b)
      (ap (list_any (λ k. list_any f k.terms.starts)) ((a.0).sinks ∙ ap (map (sink_terms policy trace s)) (sinks-later q trace s (c - s) pos))
      ∙ any_map _ (sink_terms policy trace s) (sinks_between q trace s (c - s)))
      (any_agreeing _ early (crossing es) (all-weaken _ (λ (l : Loc). list_any f (e.ends l).starts ≡ early l) (λ l same. ap (list_any f) same) (crossing es) starts)
      ∙ any_crossing early c cs t es (omega (arith, h.0)) h.1 a.1
      ∙ all_flow f s c low (sinks_between q trace c (t - c)) (placed-between q points trace c (t - c)))
      ∙ sym (ap (list_any (flows_in policy trace f s)) (sinks-split q trace s c t low (rises_up c cs t h.1))
      ∙ list_any-append (flows_in policy trace f s) (sinks_between q trace s (c - s)) (sinks_between q trace c (t - c)))
  any_crossing f s cs t es pos h a = absurd a

any_needed : (policy : Policy) (trace : List StepSeen) (f : Loc → Bool) (s : ℕ) (ks : List Sink) → list_any f (needed_by policy trace s ks) ≡ list_any (flows_in policy trace f s) ks
any_needed policy trace f s [] = refl
any_needed policy trace f s (k ∷ ks) =
    any_union loc_same f (past policy.rule trace s (k.time - s) k.loc) (needed_by policy trace s ks)
    ∙ ap (λ (b : Bool). flows_in policy trace f s k || b) (any_needed policy trace f s ks)

pub asks_what_is_needed : AsksWhatIsNeeded
asks_what_is_needed q trace s n cuts es steps points pos h a l =
    let test = eq_by_cmp loc_cmp l in
    let ranges = recursion_from_All IsInRange trace steps in
    let located = recursion_from_All (λ (p : InnerSink). IsLocation p.loc) q.points points in
    let count : s + n - s ≡ n = omega arith in
    any_crossing q trace ranges located test s cuts (s + n) es pos h a
    ∙ ap (λ (i : ℕ). list_any (flows_in (policy_of q) trace test s) (sinks_between q trace s i)) count
    ∙ sym (any_needed (policy_of q) trace test s (sinks_between q trace s n))

pub asks_locations : AsksLocations
asks_locations q trace s cuts es steps points a =
    All-from_recursion IsLocation (crossing es)
    (located-crossing q trace (recursion_from_All IsInRange trace steps) (recursion_from_All (λ (p : InnerSink). IsLocation p.loc) q.points points) s cuts es a)

pub asks_once : AsksOnce
asks_once [] = none_distinct
asks_once (e ∷ es) = once_added_all [] (wanted e (crossing es)) none_distinct

-- ---- the cuts alone decide

by_cuts : (q : Query) (trace : List StepSeen) → AllByRecursion IsInRange trace → AllByRecursion (λ p. IsLocation p.loc) q.points
    → (s : ℕ) (cs : List ℕ) (es : List Summary) → AreSummaries q trace s cs es → crossing es ≡ crossing_at q trace s cs
by_cuts q trace steps points s [] [] a = refl
by_cuts q trace steps points s (c ∷ cs) (e ∷ es) a =
    let starts : List SinkTerms → List Loc = flat_map (λ k. k.terms.starts) in
    ap₂ (λ (x y : List Loc). added_all [] (x ++ y))
    (ap starts (a.0).sinks)
    (flat_agreeing (λ l. (e.ends l).starts) (past (policy_of q).rule trace s (c - s)) (crossing es) (starts_are q trace steps points s (c - s) e (crossing es) a.0 (located-crossing q trace steps points c cs es a.1))
    ∙ ap (flat_map (past (policy_of q).rule trace s (c - s))) (by_cuts q trace steps points c cs es a.1))
by_cuts q trace steps points s cs es a = absurd a

pub asks_by_cuts : AsksByCuts
asks_by_cuts q trace s cuts es steps points a =
    by_cuts q trace (recursion_from_All IsInRange trace steps) (recursion_from_All (λ (p : InnerSink). IsLocation p.loc) q.points points) s cuts es a

pub defined_are_summaries : DefinedAreSummaries
defined_are_summaries q trace s [] = tt
defined_are_summaries q trace s (c ∷ cs) = (record { ends = λ l h. refl; sinks = refl }, defined_are_summaries q trace c cs)
