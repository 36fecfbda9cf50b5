-- The points of a query by their times. Crates above cite these lemmas.
use Rattle.std.proofs.Common.{◌≡◌, ℕ, zero, suc, nat_eq, ◌+◌, ◌<◌, ◌≤◌, List, [], ◌∷◌, ◌++◌, map, take, drop, length, get_or, Bool, true, false, cond, refl, ap, ap₂, sym, ◌∙◌, subst, arith, append_assoc, append-nil, ⊎_elim}
use Rattle.std.specs.Prelude.{nat_le, All}
use Rattle.std.specs.List.{AllByRecursion}
use Rattle.std.specs.Cmp.{nat_cmp_is}
use Rattle.std.specs.Ordering.{ordering_then}
use Rattle.std.specs.declared.cmp.Ordering.{Ordering}
use Rattle.std.specs.declared.cmp.Ordering.TheVariants.{Less, Greater}
use Rattle.std.proofs.lemmas.Bool.{cases_lt, ne_eqb, eq-eqb, le-leb, lt-leb}
use Rattle.std.proofs.lemmas.Bool.Decides.{nat_tests}
use Rattle.std.proofs.lemmas.List.{take_more, drop_more, drop_all, map-append}
use Rattle.std.proofs.lemmas.List.Elements.{All-from_recursion}
use Rattle.std.specs.List.Sorted.{IsNonDecreasingBy, IsPartitionedBy, IsPartitionPoint}
use Rattle.std.proofs.lemmas.List.Sorted.{IsPartitionedBy-leb}
use Rattle.flow_model.specs.declared.InnerSink.{InnerSink}
use Rattle.flow_model.specs.Orders.{inner_cmp, loc_cmp}
use Rattle.flow_model.proofs.Orders.{inner_total}
use Rattle.lists.specs.Sets.{IsBelow, Ascends}
use Rattle.lists.proofs.Algebra.{Ascends-drop}
use Rattle.lists.proofs.Filters.{Ascends-filter}
use Rattle.report_model.specs.Rows.{point_sink, at_time, from_time}

-- a point above another has no lesser time
not_sooner : (a b : InnerSink) → inner_cmp a b ≡ Less → a.time ≤ b.time
not_sooner a b e = ⊎_elim (λ sooner. clash (ap (λ (o : Ordering). ordering_then o (loc_cmp a.loc b.loc)) (sym (nat_cmp_is a.time b.time Greater sooner)))) (λ h. h) (cases_lt b.time a.time) where
  clash : inner_cmp a b ≡ Greater → a.time ≤ b.time
  clash g = let no : Less ≡ Greater = sym e ∙ g in cc

abbrev pub AreAfter : ℕ → List InnerSink → Type 0
AreAfter t ps = AllByRecursion (λ p. t < p.time) ps

after_first : (t : ℕ) (p : InnerSink) (ps : List InnerSink) → t < p.time → IsBelow inner_cmp p ps → AreAfter t ps
after_first t p [] l b = tt
after_first t p (q ∷ qs) l b = (omega (arith, not_sooner p q b.0, l), after_first t p qs l b.1)

none_due : (t : ℕ) (ps : List InnerSink) → AreAfter t ps → at_time t ps ≡ []
none_due t [] a = refl
none_due t (p ∷ ps) a = ap (λ (b : Bool). cond b (p ∷ at_time t ps) (at_time t ps)) (ne_eqb p.time t (λ e. omega (arith, e, a.0))) ∙ none_due t ps a.1

all_later : (t : ℕ) (ps : List InnerSink) → AreAfter t ps → from_time (t + 1) ps ≡ ps
all_later t [] a = refl
all_later t (p ∷ ps) a = ap (λ (b : Bool). cond b (p ∷ from_time (t + 1) ps) (from_time (t + 1) ps)) (le-leb (t + 1) p.time (omega (arith, a.0))) ∙ ap (λ (qs : List InnerSink). p ∷ qs) (all_later t ps a.1)

-- ---- the points due, one after another

module _ (t : ℕ) (points : List InnerSink) (n : ℕ) (p : InnerSink) (l : n < length points) (here : p ≡ get_or points n p) where
  front : take (n + 1) points ≡ take n points ++ p ∷ []
  front = take_more points n p l ∙ ap (λ (q : InnerSink). take n points ++ q ∷ []) (sym here)

  back : drop n points ≡ p ∷ drop (n + 1) points
  back = drop_more points n p l ∙ ap (λ (q : InnerSink). q ∷ drop (n + 1) points) (sym here)

  pub turn_more : p.time ≡ t → at_time t points ≡ take n points ++ at_time t (drop n points) → at_time t points ≡ take (n + 1) points ++ at_time t (drop (n + 1) points)
  turn_more h e =
      let rest = at_time t (drop (n + 1) points) in
      e ∙ ap (λ (qs : List InnerSink). take n points ++ at_time t qs) back
      ∙ ap (λ (b : Bool). take n points ++ cond b (p ∷ rest) rest) (eq-eqb p.time t h)
      ∙ sym (append_assoc (take n points) (p ∷ []) rest)
      ∙ ap (λ (qs : List InnerSink). qs ++ rest) (sym front)

  pub later_more : p.time ≡ t → from_time (t + 1) points ≡ from_time (t + 1) (drop n points) → from_time (t + 1) points ≡ from_time (t + 1) (drop (n + 1) points)
  later_more h e =
      let rest = from_time (t + 1) (drop (n + 1) points) in
      e ∙ ap (from_time (t + 1)) back ∙ ap (λ (b : Bool). cond b (p ∷ rest) rest) (lt-leb (t + 1) p.time (omega (arith, h)))

  pub sinks_more : map point_sink (take (n + 1) points) ≡ map point_sink (take n points) ++ point_sink p ∷ []
  sinks_more = ap (map point_sink) front ∙ map-append point_sink (take n points) (p ∷ [])

  -- the first that isn't due is later, and so are those after it
  pub after_due : Ascends inner_cmp points → t < p.time → AreAfter t (drop n points)
  after_due a h =
      let rest = subst (Ascends inner_cmp) back (Ascends-drop inner_total n points a) in
      subst (AreAfter t) (sym back) (h, after_first t p (drop (n + 1) points) h rest.0)

pub after_all : (t : ℕ) (points : List InnerSink) (n : ℕ) → length points ≤ n → AreAfter t (drop n points)
after_all t points n l = subst (AreAfter t) (sym (drop_all n points l)) tt

-- so those due are the first ones, and the later ones are the rest
module _ (t : ℕ) (points : List InnerSink) (n : ℕ) (a : AreAfter t (drop n points)) where
  pub due_are : at_time t points ≡ take n points ++ at_time t (drop n points) → at_time t points ≡ take n points
  due_are e = e ∙ ap (λ (qs : List InnerSink). take n points ++ qs) (none_due t (drop n points) a) ∙ append-nil (take n points)

  pub later_are : from_time (t + 1) points ≡ from_time (t + 1) (drop n points) → drop n points ≡ from_time (t + 1) points
  later_are e = sym (e ∙ all_later t (drop n points) a)

-- ---- from one time to the next

pub all_from : (ps : List InnerSink) → from_time 0 ps ≡ ps
all_from [] = refl
all_from (p ∷ ps) = ap (λ (b : Bool). cond b (p ∷ from_time 0 ps) (from_time 0 ps)) (le-leb 0 p.time (omega arith)) ∙ ap (λ (qs : List InnerSink). p ∷ qs) (all_from ps)

due_of : (t : ℕ) (ps : List InnerSink) → at_time t (from_time t ps) ≡ at_time t ps
due_of t [] = refl
due_of t (p ∷ ps) = by (nat_le t p.time) refl (due_of t ps) where
  by : (b : Bool) → nat_le t p.time ≡ b → at_time t (from_time t ps) ≡ at_time t ps → at_time t (cond b (p ∷ from_time t ps) (from_time t ps)) ≡ at_time t (p ∷ ps)
  by true e ih = ap (λ (qs : List InnerSink). cond (nat_eq p.time t) (p ∷ qs) qs) ih
  by false e ih =
      let other : nat_eq p.time t ≡ false = grind (arith, nat_tests) in
      ih ∙ sym (ap (λ (b : Bool). cond b (p ∷ at_time t ps) (at_time t ps)) other)

later_of : (t : ℕ) (ps : List InnerSink) → from_time (t + 1) (from_time t ps) ≡ from_time (t + 1) ps
later_of t [] = refl
later_of t (p ∷ ps) = by (nat_le t p.time) refl (later_of t ps) where
  by : (b : Bool) → nat_le t p.time ≡ b → from_time (t + 1) (from_time t ps) ≡ from_time (t + 1) ps → from_time (t + 1) (cond b (p ∷ from_time t ps) (from_time t ps)) ≡ from_time (t + 1) (p ∷ ps)
  by true e ih = ap (λ (qs : List InnerSink). cond (nat_le (t + 1) p.time) (p ∷ qs) qs) ih
  by false e ih =
      let sooner : nat_le (t + 1) p.time ≡ false = grind (arith, nat_tests) in
      ih ∙ sym (ap (λ (b : Bool). cond b (p ∷ from_time (t + 1) ps) (from_time (t + 1) ps)) sooner)

none_sooner : (t : ℕ) (ps : List InnerSink) → AllByRecursion (λ p. t ≤ p.time) (from_time t ps)
none_sooner t [] = tt
none_sooner t (p ∷ ps) = by (nat_le t p.time) refl (none_sooner t ps) where
  by : (b : Bool) → nat_le t p.time ≡ b → AllByRecursion (λ q. t ≤ q.time) (from_time t ps) → AllByRecursion (λ q. t ≤ q.time) (cond b (p ∷ from_time t ps) (from_time t ps))
  by true e ih = (grind (arith, nat_tests), ih)
  by false e ih = ih

-- where the points that are left are those at t or later, the ones due are those at t, and the later ones those after t
module _ (t n : ℕ) (left points : List InnerSink) (now : n ≡ t) (is : left ≡ from_time t points) where
  pub due_now : at_time n left ≡ at_time t points
  due_now = ap₂ at_time now is ∙ due_of t points

  pub later_now : from_time (n + 1) left ≡ from_time (t + 1) points
  later_now = ap₂ (λ (k : ℕ) (ps : List InnerSink). from_time (k + 1) ps) now is ∙ later_of t points

  pub left_in_time : All (λ p. n ≤ p.time) left
  left_in_time = subst (λ (k : ℕ). All (λ p. k ≤ p.time) left) (sym now) (subst (All (λ p. t ≤ p.time)) (sym is) (All-from_recursion (λ p. t ≤ p.time) (from_time t points) (none_sooner t points)))

  pub left_ascend : Ascends inner_cmp points → Ascends inner_cmp left
  left_ascend a = subst (Ascends inner_cmp) (sym is) (Ascends-filter inner_cmp (λ p. nat_le t p.time) points a)

-- ---- the first that have not passed

below_at : (p : InnerSink) (ps : List InnerSink) (j : ℕ) (d : InnerSink) → IsBelow inner_cmp p ps → j < length ps → p.time ≤ (get_or ps j d).time
below_at p [] j d b l = absurd (omega arith)
below_at p (q ∷ qs) zero d b l = not_sooner p q b.0
below_at p (q ∷ qs) (suc j) d b l = below_at p qs j d b.1 (omega arith)

times_ascend : (ps : List InnerSink) → Ascends inner_cmp ps → IsNonDecreasingBy (λ p. p.time) ps
times_ascend [] a i j d le l = absurd (omega arith)
times_ascend (p ∷ ps) a zero zero d le l = omega arith
times_ascend (p ∷ ps) a zero (suc j) d le l = below_at p ps j d a.0 (omega arith)
times_ascend (p ∷ ps) a (suc i) zero d le l = absurd (omega arith)
times_ascend (p ∷ ps) a (suc i) (suc j) d le l = times_ascend ps a.1 i j d (omega arith) (omega arith)

abbrev pub passed_by : ℕ → InnerSink → Bool
passed_by t p = nat_le p.time t

pub partitioned : (t : ℕ) (ps : List InnerSink) → Ascends inner_cmp ps → IsPartitionedBy (passed_by t) ps
partitioned t ps a = IsPartitionedBy-leb (λ p. p.time) ps t (times_ascend ps a)

-- the points that have not passed are those after the time
pub after_passed : (t : ℕ) (ps : List InnerSink) (i : ℕ) → IsPartitionPoint (λ p. passed_by t p ≡ true) (λ p. passed_by t p ≡ false) ps i → drop i ps ≡ from_time (t + 1) ps
after_passed t [] zero h = refl
after_passed t [] (suc i) h = refl
after_passed t (p ∷ ps) zero h =
    let first = h.1 0 p (omega arith) (omega arith) in
    let later : nat_le (t + 1) p.time ≡ true = grind (arith, nat_tests) in
    let rest = after_passed t ps 0 ((λ k d a b. absurd (omega arith)), λ k d a b. h.1 (suc k) d (omega arith) (omega arith)) in
    ap (λ (qs : List InnerSink). p ∷ qs) rest ∙ ap (λ (b : Bool). cond b (p ∷ from_time (t + 1) ps) (from_time (t + 1) ps)) (sym later)
after_passed t (p ∷ ps) (suc i) h =
    let first = h.0 0 p (omega arith) (omega arith) in
    let sooner : nat_le (t + 1) p.time ≡ false = grind (arith, nat_tests) in
    let rest = after_passed t ps i ((λ k d a b. h.0 (suc k) d (omega arith) (omega arith)), λ k d a b. h.1 (suc k) d (omega arith) (omega arith)) in
    rest ∙ ap (λ (b : Bool). cond b (p ∷ from_time (t + 1) ps) (from_time (t + 1) ps)) (sym sooner)
