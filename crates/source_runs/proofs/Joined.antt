-- Runs that ascend, joined where they go on.
use Rattle.std.proofs.Common.{◌≡◌, ℕ, suc, ◌+◌, ◌<◌, ◌≤◌, List, [], ◌∷◌, ◌++◌, refl, ap, sym, ◌∙◌, subst, Bool, true, false, ◌||◌, if◌then◌else◌, arith, slice_index_or, ◌⊎◌, inl, inr, append-nil, nat_cmp, min}
use Rattle.std.specs.List.{list_any}
use Rattle.std.specs.List.Sorted.{IsSorted, IsPermutation}
use Rattle.std.specs.Ordering.{MatchOrdering, eq_by_cmp, is_lt, ordering_then}
use Rattle.std.specs.Cmp.{ranked}
use Rattle.std.specs.declared.cmp.Ordering.{Ordering}
use Rattle.std.specs.declared.cmp.Ordering.TheVariants.{Less, Equal, Greater}
use Rattle.std.proofs.Math.Bool.{or_assoc}
use Rattle.std.proofs.lemmas.Bool.{cases_Bool, or_left, or_right, or_cases}
use Rattle.std.proofs.lemmas.Bool.Decides.{nat_tests}
use Rattle.std.proofs.lemmas.Cmp.{eq_by_cmp_equiv}
use Rattle.std.proofs.lemmas.List.Folds.{list_any-append}
use Rattle.std.proofs.lemmas.List.Sorted.{list_any-IsPermutation}
use Rattle.lists.specs.Sets.{has, IsBelow, Ascends}
use Rattle.lists.proofs.Tests.{true-false}
use Rattle.lists.proofs.Algebra.{IsBelow-append}
use Rattle.flow_model.specs.declared.SourceByte.{SourceByte}
use Rattle.flow_model.specs.Orders.{source_cmp}
use Rattle.flow_model.proofs.Orders.{source_total}
use Rattle.source_runs.specs.declared.runs.SourceRun.{SourceRun}
use Rattle.source_runs.specs.contracts.runs.SourceRunOrd.TheImpl as of_run_order
use Rattle.source_runs.specs.Runs.{bytes_of, all_bytes, goes_on, IsBefore, Rise, AreRising, Stop, AreLongest}
use Rattle.source_runs.proofs.Bytes.{IsOf, of_run, run_ascends, less, touches, hull, hull_has}

-- ---- runs in order

abbrev pub run_compared : SourceRun → SourceRun → Ordering
run_compared = of_run_order.cmp-value.it

before : (r s : SourceRun) → is_lt (run_compared s r) ≡ false → IsBefore r s
before r s = by (nat_cmp s.channel r.channel) (ranked s.channel r.channel (nat_cmp s.channel r.channel) refl) (nat_cmp s.first r.first) (ranked s.first r.first (nat_cmp s.first r.first) refl) where
  by : (o : Ordering) → MatchOrdering o (s.channel < r.channel) (s.channel ≡ r.channel) (r.channel < s.channel)
      → (p : Ordering) → MatchOrdering p (s.first < r.first) (s.first ≡ r.first) (r.first < s.first)
      → is_lt (ordering_then o (ordering_then p (nat_cmp s.last r.last))) ≡ false → IsBefore r s
  by Less h p k e = cc
  by Greater h p k e = inl h
  by Equal h Less k e = cc
  by Equal h Equal k e = inr (sym h, omega (arith, k))
  by Equal h Greater k e = inr (sym h, omega (arith, k))

sorted_rise : (r : SourceRun) (rs : List SourceRun) → IsSorted run_compared (r ∷ rs) → Rise r rs
sorted_rise r [] h = tt
sorted_rise r (s ∷ ss) h = (
  before r s (h 0 r (omega arith) (omega arith)),
  sorted_rise s ss (λ k d low high.
      let next : suc k + 1 ≡ suc (k + 1) = omega arith in
      subst (λ (n : ℕ). is_lt (run_compared (slice_index_or (r ∷ s ∷ ss) n d) (slice_index_or (s ∷ ss) k d)) ≡ false) next (h (suc k) d (omega arith) (omega (arith, high)))),
)

pub sorted_rising : (rs : List SourceRun) → IsSorted run_compared rs → AreRising rs
sorted_rising [] h = tt
sorted_rising (r ∷ rs) h = sorted_rise r rs h

-- ---- joined

abbrev pub joined_from : SourceRun → List SourceRun → List SourceRun
joined_from r [] = r ∷ []
joined_from r (s ∷ ss) = if touches r s then joined_from (hull r s) ss else r ∷ joined_from s ss

abbrev pub joined_all : List SourceRun → List SourceRun
joined_all [] = []
joined_all (r ∷ rs) = joined_from r rs

-- the next run touches the current one
pub next_joined : (r s : SourceRun) (ss : List SourceRun) → touches r s ≡ true → joined_from r (s ∷ ss) ≡ joined_from (hull r s) ss
next_joined r s ss e = ap (λ (b : Bool). if b then joined_from (hull r s) ss else r ∷ joined_from s ss) e

-- the next run is apart from the current one
pub next_apart : (r s : SourceRun) (ss : List SourceRun) → touches r s ≡ false → joined_from r (s ∷ ss) ≡ r ∷ joined_from s ss
next_apart r s ss e = ap (λ (b : Bool). if b then joined_from (hull r s) ss else r ∷ joined_from s ss) e

pub has-all : (q : SourceByte) (r : SourceRun) (rs : List SourceRun) → has source_cmp q (all_bytes (r ∷ rs)) ≡ (has source_cmp q (bytes_of r) || has source_cmp q (all_bytes rs))
has-all q r rs = list_any-append (eq_by_cmp source_cmp q) (bytes_of r) (all_bytes rs)

stop : (r s : SourceRun) → touches r s ≡ false → IsBefore r s → r.channel ≡ s.channel → r.last + 1 < s.first
stop r s e (inl b) same = absurd (omega (arith, b, same))
stop r s e (inr b) same = grind (arith, nat_tests)

not_on : (r s : SourceRun) → touches r s ≡ false → IsBefore r s → goes_on r s ≡ false
not_on r s e (inl b) = grind (arith, nat_tests)
not_on r s e (inr b) = grind (arith, nat_tests)

hull_first : (r s : SourceRun) → touches r s ≡ true → IsBefore r s → r.first ≤ s.first
hull_first r s e (inl b) = absurd (grind (arith, nat_tests))
hull_first r s e (inr b) = b.1

rise_hull : (r s : SourceRun) (ss : List SourceRun) → touches r s ≡ true → Rise r (s ∷ ss) → Rise (hull r s) ss
rise_hull r s [] e h = tt
rise_hull r s (t ∷ ts) e h = (by h.0 h.1.0, h.1.1) where
  by : IsBefore r s → IsBefore s t → IsBefore (hull r s) t
  by (inl k) c = absurd (grind (arith, nat_tests))
  by (inr k) (inl c) = inl (omega (arith, c, k.0))
  by (inr k) (inr c) = inr (k.0 ∙ c.0, omega (arith, k.1, c.1))

pub joined_members : (r : SourceRun) (ss : List SourceRun) (q : SourceByte)
    → has source_cmp q (all_bytes (joined_from r ss)) ≡ has source_cmp q (all_bytes (r ∷ ss))
joined_members r [] q = refl
joined_members r (s ∷ ss) q = elim (cases_Bool (touches r s)) [
  | inl e ↦
      ap (λ (rs : List SourceRun). has source_cmp q (all_bytes rs)) (next_joined r s ss e) ∙ joined_members (hull r s) ss q ∙ has-all q (hull r s) ss
      ∙ ap (λ (b : Bool). b || has source_cmp q (all_bytes ss)) (hull_has r s q e)
      ∙ or_assoc (has source_cmp q (bytes_of r)) (has source_cmp q (bytes_of s)) (has source_cmp q (all_bytes ss))
      ∙ ap (λ (b : Bool). has source_cmp q (bytes_of r) || b) (sym (has-all q s ss)) ∙ sym (has-all q r (s ∷ ss))
  | inr e ↦
      ap (λ (rs : List SourceRun). has source_cmp q (all_bytes rs)) (next_apart r s ss e) ∙ has-all q r (joined_from s ss)
      ∙ ap (λ (b : Bool). has source_cmp q (bytes_of r) || b) (joined_members s ss q) ∙ sym (has-all q r (s ∷ ss))
]

-- ---- ascending

itself : (x : SourceByte) → eq_by_cmp source_cmp x x ≡ true
itself = (eq_by_cmp_equiv source_total).refl

below_each : (x : SourceByte) (ys : List SourceByte) → ((y : SourceByte) → has source_cmp y ys ≡ true → source_cmp x y ≡ Less) → IsBelow source_cmp x ys
below_each x [] h = tt
below_each x (y ∷ ys) h = (h y (or_left (eq_by_cmp source_cmp y y) (has source_cmp y ys) (itself y)), below_each x ys (λ z k. h z (or_right (eq_by_cmp source_cmp z y) (has source_cmp z ys) k)))

ascends_append : (xs ys : List SourceByte) → Ascends source_cmp xs → Ascends source_cmp ys
    → ((x y : SourceByte) → has source_cmp x xs ≡ true → has source_cmp y ys ≡ true → source_cmp x y ≡ Less) → Ascends source_cmp (xs ++ ys)
ascends_append [] ys h k below = k
ascends_append (x ∷ xs) ys h k below = (
  IsBelow-append source_total x xs ys h.0 (below_each x ys (λ y m. below x y (or_left (eq_by_cmp source_cmp x x) (has source_cmp x xs) (itself x)) m)),
  ascends_append xs ys h.1 k (λ z y l m. below z y (or_right (eq_by_cmp source_cmp z x) (has source_cmp z xs) l) m),
)

-- a byte that doesn't come before the run
abbrev IsAfter : SourceRun → SourceByte → Type 0
IsAfter s y = (s.channel < y.channel) ⊎ ((s.channel ≡ y.channel) × (s.first ≤ y.offset))

after_then : (r s : SourceRun) (y : SourceByte) → IsBefore r s → IsAfter s y → IsAfter r y
after_then r s y (inl b) (inl a) = inl (omega (arith, b, a))
after_then r s y (inl b) (inr a) = inl (omega (arith, b, a.0))
after_then r s y (inr b) (inl a) = inl (omega (arith, b.0, a))
after_then r s y (inr b) (inr a) = inr (b.0 ∙ a.0, omega (arith, b.1, a.1))

own_after : (s : SourceRun) (y : SourceByte) → has source_cmp y (bytes_of s) ≡ true → IsAfter s y
own_after s y p = let i = of_run y s p in inr (sym i.channel, i.first)

later_after : (s : SourceRun) (ss : List SourceRun) (y : SourceByte) → Rise s ss → has source_cmp y (all_bytes ss) ≡ true → IsAfter s y
later_after s [] y h p = true-false (sym p)
later_after s (t ∷ ts) y h p = after_then s t y h.0 (by (or_cases (has source_cmp y (bytes_of t)) (has source_cmp y (all_bytes ts)) (sym (has-all y t ts) ∙ p)) (later_after t ts y h.1)) where
  by : (has source_cmp y (bytes_of t) ≡ true) ⊎ (has source_cmp y (all_bytes ts) ≡ true) → (has source_cmp y (all_bytes ts) ≡ true → IsAfter t y) → IsAfter t y
  by (inl q) later = own_after t y q
  by (inr q) later = later q

all_after : (s : SourceRun) (ss : List SourceRun) → Rise s ss → (y : SourceByte) → has source_cmp y (all_bytes (s ∷ ss)) ≡ true → IsAfter s y
all_after s ss h y m = elim (or_cases (has source_cmp y (bytes_of s)) (has source_cmp y (all_bytes ss)) (sym (has-all y s ss) ∙ m)) [
  | inl p ↦ own_after s y p
  | inr p ↦ later_after s ss y h p
]

pub joined_ascends : (r : SourceRun) (ss : List SourceRun) → Rise r ss → Ascends source_cmp (all_bytes (joined_from r ss))
joined_ascends r [] h = subst (Ascends source_cmp) (sym (append-nil (bytes_of r))) (run_ascends r)
joined_ascends r (s ∷ ss) h = elim (cases_Bool (touches r s)) [
  | inl e ↦
      subst (λ (rs : List SourceRun). Ascends source_cmp (all_bytes rs)) (sym (next_joined r s ss e))
      (joined_ascends (hull r s) ss (rise_hull r s ss e h))
  | inr e ↦
      subst (λ (rs : List SourceRun). Ascends source_cmp (all_bytes rs)) (sym (next_apart r s ss e))
      (ascends_append (bytes_of r) (all_bytes (joined_from s ss)) (run_ascends r) (joined_ascends s ss h.1)
      (λ x y l m. less x y (first_less x y (of_run x r l) h.0 (all_after s ss h.1 y (sym (joined_members s ss y) ∙ m)) e)))
] where
  first_less : (x y : SourceByte) → IsOf x r → IsBefore r s → IsAfter s y → touches r s ≡ false
      → (x.channel < y.channel) ⊎ ((x.channel ≡ y.channel) × (x.offset < y.offset))
  first_less x y i (inl b) (inl a) e = inl (omega (arith, i.channel, b, a))
  first_less x y i (inl b) (inr a) e = inl (omega (arith, i.channel, b, a.0))
  first_less x y i (inr b) (inl a) e = inl (omega (arith, i.channel, b.0, a))
  first_less x y i (inr b) (inr a) e = inr (i.channel ∙ b.0 ∙ a.0, let apart = stop r s e (inr b) b.0 in omega (arith, i.last, apart, a.1))

-- ---- as long as can be

stops : (q r : SourceRun) (ss : List SourceRun) → Rise r ss → goes_on q r ≡ false → Stop q (joined_from r ss)
stops q r [] h e = (e, tt)
stops q r (s ∷ ss) h e = elim (cases_Bool (touches r s)) [
  | inl t ↦
      let first : min r.first s.first ≡ r.first = omega (arith, hull_first r s t h.0) in
      subst (Stop q) (sym (next_joined r s ss t)) (stops q (hull r s) ss (rise_hull r s ss t h) (rw first e))
  | inr t ↦ subst (Stop q) (sym (next_apart r s ss t)) (e, stops r s ss h.1 (not_on r s t h.0))
]

joined_longest : (r : SourceRun) (ss : List SourceRun) → Rise r ss → AreLongest (joined_from r ss)
joined_longest r [] h = tt
joined_longest r (s ∷ ss) h = elim (cases_Bool (touches r s)) [
  | inl e ↦ subst AreLongest (sym (next_joined r s ss e)) (joined_longest (hull r s) ss (rise_hull r s ss e h))
  | inr e ↦ subst AreLongest (sym (next_apart r s ss e)) (stops r s ss h.1 (not_on r s e h.0))
]

-- ---- sorted and joined

pub sorted_has : (q : SourceByte) (rs ss : List SourceRun) → IsPermutation rs ss → has source_cmp q (all_bytes ss) ≡ has source_cmp q (all_bytes rs)
sorted_has q rs ss p = sym (any-flat ss) ∙ sym (list_any-IsPermutation (λ r. has source_cmp q (bytes_of r)) rs ss p) ∙ any-flat rs where
  any-flat : (rs : List SourceRun) → list_any (λ r. has source_cmp q (bytes_of r)) rs ≡ has source_cmp q (all_bytes rs)
  any-flat [] = refl
  any-flat (r ∷ rs) = ap (λ (b : Bool). has source_cmp q (bytes_of r) || b) (any-flat rs) ∙ sym (has-all q r rs)

pub joined_all_members : (rs : List SourceRun) (q : SourceByte) → has source_cmp q (all_bytes (joined_all rs)) ≡ has source_cmp q (all_bytes rs)
joined_all_members [] q = refl
joined_all_members (r ∷ rs) q = joined_members r rs q

pub joined_all_ascends : (rs : List SourceRun) → AreRising rs → Ascends source_cmp (all_bytes (joined_all rs))
joined_all_ascends [] h = tt
joined_all_ascends (r ∷ rs) h = joined_ascends r rs h

pub joined_all_longest : (rs : List SourceRun) → AreRising rs → AreLongest (joined_all rs)
joined_all_longest [] h = tt
joined_all_longest (r ∷ rs) h = joined_longest r rs h
