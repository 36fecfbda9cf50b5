-- The order of spans, and searches in spans that lie apart.
use Rattle.std.proofs.Common.{◌≡◌, ℕ, suc, ◌+◌, ◌-◌, ◌<◌, ◌≤◌, ◌⊎◌, inl, inr, List, [], ◌∷◌, ◌++◌, length, get_or, drop, refl, ap, sym, ◌∙◌, subst, Bool, true, false, arith}
use Rattle.std.specs.Prelude.{Option, Some, None, ◌||◌, AllPairs}
use Rattle.std.specs.List.{list_any, AllAdjacentBelow}
use Rattle.std.specs.List.Sorted.{IsPartitionedBy}
use Rattle.std.proofs.lemmas.Bool.{leb-false, eq-eqb, cases_lt, cases_order}
use Rattle.std.proofs.lemmas.Bool.Decides.{nat_tests}
use Rattle.std.proofs.lemmas.List.Folds.{list_any-append, list_any_none, list_any_at}
use Rattle.std.proofs.lemmas.List.{get_or_default, drop_more, append_assoc}
use Rattle.std.proofs.lemmas.List.Elements.{All-weaker, All-push}
use Rattle.std.proofs.lemmas.List.Quantifiers.{all_pairs_push}
use Rattle.std.proofs.Math.ListN.{drop_of_length-le}
use Rattle.query_lang.specs.declared.choice.Offsets.{Offsets}
use Rattle.query_lang.specs.declared.choice.Span.{Span}
use Rattle.query_lang.specs.Spans.{start_of, starts_by, span_has, reaches, reach_to, NotAfter, EndBefore, Precedes, IsAtStartOf, HasBoth, SameBytes, StartUpTo}

-- ---- order

pub NotAfter-trans : (s t u : Span) → NotAfter s t → NotAfter t u → NotAfter s u
NotAfter-trans s t u h k = grind arith

pub NotAfter-at : (s t u : Span) → IsAtStartOf s t → NotAfter s u → NotAfter t u
NotAfter-at s t u e h = grind arith

end_before : (o : Option Offsets) (n m : ℕ) → n ≤ m → EndBefore o n → EndBefore o m
end_before None n m h e = e
end_before (Some o) n m h e = omega arith

pub Precedes-trans : (s t u : Span) → Precedes s t → Precedes t u → Precedes s u
Precedes-trans s t u (inl h) (inl k) = inl (omega arith)
Precedes-trans s t u (inl h) (inr k) = inl (omega (arith, k.0))
Precedes-trans s t u (inr h) (inl k) = inl (omega (arith, h.0))
Precedes-trans s t u (inr h) (inr k) = inr (h.0 ∙ k.0, omega (arith, h.1, k.1), end_before s.offsets (start_of t) (start_of u) k.1 h.2)

pub Precedes-at : (s t u : Span) → IsAtStartOf t u → Precedes s t → Precedes s u
Precedes-at s t u e (inl h) = inl (omega (arith, e.0))
Precedes-at s t u e (inr h) = inr (h.0 ∙ sym e.0, omega (arith, h.1, e.1), end_before s.offsets (start_of t) (start_of u) (omega (arith, e.1)) h.2)

not_reached : (o : Option Offsets) (n : ℕ) → reach_to o n ≡ false → EndBefore o n
not_reached None n h = cc
not_reached (Some o) n h = leb-false n o.past h

pub Precedes-from : (s t : Span) → NotAfter s t → reaches s t ≡ false → Precedes s t
Precedes-from s t (inl h) r = inl h
Precedes-from s t (inr h) r = inr (h.0, h.1, not_reached s.offsets (start_of t) (rw (eq-eqb s.channel t.channel h.0) at r))

-- ---- a step of merging

abbrev pub AllPrecede : List Span → Span → Type 0
AllPrecede kept last = (k : ℕ) (d : Span) → k < length kept → Precedes (get_or kept k d) last

pub same_joined : (kept : List Span) (last span joined : Span) (rest all : List Span) → HasBoth last span joined → SameBytes (kept ++ last ∷ span ∷ rest) all → SameBytes (kept ++ joined ∷ rest) all
same_joined kept last span joined rest all h same c o =
    list_any-append (span_has c o) kept (joined ∷ rest)
    ∙ ap (λ (b : Bool). list_any (span_has c o) kept || (b || list_any (span_has c o) rest)) (h c o)
    ∙ ap (λ (b : Bool). list_any (span_has c o) kept || b) (or_grouped (span_has c o last) (span_has c o span) (list_any (span_has c o) rest))
    ∙ sym (list_any-append (span_has c o) kept (last ∷ span ∷ rest)) ∙ same c o where
      or_grouped : (a b d : Bool) → ((a || b) || d) ≡ (a || (b || d))
      or_grouped true b d = refl
      or_grouped false b d = refl

-- the spans kept and the last one lie apart, and have with what is left the bytes of all
pub record IsMerging (all kept : List Span) (last : Span) (others : List Span) (i : ℕ) : Type 0 where
  pub apart : AllPairs Precedes kept
  pub last_after : AllPrecede kept last
  pub same : SameBytes (kept ++ last ∷ drop i others) all
  pub next : (d : Span) → i < length others → NotAfter last (get_or others i d)
  pub ascend : AllAdjacentBelow NotAfter others (length others)

pub merging_begins : (all kept : List Span) (first : Span) (others : List Span) → kept ≡ [] → all ≡ first ∷ others → AllAdjacentBelow NotAfter all (length all) → IsMerging all kept first others 0
merging_begins all kept first others none e up = record {
  apart = λ i j d l b. absurd (omega (arith, ap length none));
  last_after = λ k d b. absurd (omega (arith, ap length none));
  same = λ c o. rw (none, e) refl;
  next = λ d b. rising 0 d (omega arith);
  ascend = λ k d b. subst (λ (j : ℕ). NotAfter (get_or others k d) (get_or (first ∷ others) j d)) (one_more (k + 1)) (subst (λ (j : ℕ). NotAfter (get_or (first ∷ others) j d) (get_or (first ∷ others) (k + 1 + 1) d)) (one_more k) (rising (k + 1) d (omega arith)));
} where
  one_more : (n : ℕ) → n + 1 ≡ suc n
  one_more n = omega arith

  rising : AllAdjacentBelow NotAfter (first ∷ others) (length (first ∷ others))
  rising = subst (λ (xs : List Span). AllAdjacentBelow NotAfter xs (length xs)) e up

pub merging_joins : (all kept : List Span) (last joined : Span) (others : List Span) (i : ℕ) (d : Span) → IsMerging all kept last others i → i < length others
    → IsAtStartOf last joined → HasBoth last (get_or others i d) joined → IsMerging all kept joined others (i + 1)
merging_joins all kept last joined others i d m b start both = record {
  apart = m.apart;
  last_after = All-weaker _ _ (λ s. Precedes-at s last joined start) kept m.last_after;
  same = same_joined kept last (get_or others i d) joined (drop (i + 1) others) all both
      (subst (λ (xs : List Span). SameBytes (kept ++ last ∷ xs) all) (drop_more others i d b) m.same);
  next = λ e l. NotAfter-at last joined (get_or others (i + 1) e) start (NotAfter-trans last (get_or others i e) (get_or others (i + 1) e) (m.next e b) (m.ascend i e l));
  ascend = m.ascend;
}

pub merging_keeps : (all kept : List Span) (last : Span) (others : List Span) (i : ℕ) (d : Span) → IsMerging all kept last others i → i < length others
    → reaches last (get_or others i d) ≡ false → IsMerging all (kept ++ last ∷ []) (get_or others i d) others (i + 1)
merging_keeps all kept last others i d m b apart = record {
  apart = all_pairs_push Precedes kept last m.apart m.last_after;
  last_after = All-push (λ s. Precedes s (get_or others i d)) kept last
      (All-weaker _ _ (λ s h. Precedes-trans s last (get_or others i d) h precedes) kept m.last_after) precedes;
  same = λ c o. ap (list_any (span_has c o)) (append_assoc kept (last ∷ []) ((get_or others i d) ∷ drop (i + 1) others) ∙ ap
      (λ (xs : List Span). kept ++ last ∷ xs) (sym (drop_more others i d b))) ∙ m.same c o;
  next = λ e l. subst (λ (s : Span). NotAfter s (get_or others (i + 1) e)) (get_or_default others i e d b) (m.ascend i e l);
  ascend = m.ascend;
} where
  precedes : Precedes last (get_or others i d)
  precedes = Precedes-from last (get_or others i d) (m.next d b) apart

pub merging_ends : (all kept : List Span) (last : Span) (others : List Span) (i : ℕ) → IsMerging all kept last others i → length others ≤ i → (AllPairs Precedes (kept ++ last ∷ [])) × (SameBytes (kept ++ last ∷ []) all)
merging_ends all kept last others i m done = (
  all_pairs_push Precedes kept last m.apart m.last_after,
  λ c o. ap (λ (xs : List Span). list_any (span_has c o) (kept ++ last ∷ xs)) (sym (drop_of_length-le others done)) ∙ m.same c o,
)

-- ---- a search

-- a span that starts after a byte hasn't it
has_started : (c o : ℕ) (s : Span) → starts_by c o s ≡ false → span_has c o s ≡ false
has_started c o s h = grind (arith, nat_tests)

-- nor has a span that ends before one starts that starts by the byte
has_ended : (c o : ℕ) (s t : Span) → Precedes s t → starts_by c o t ≡ true → span_has c o s ≡ false
has_ended c o s t h k = grind (arith, nat_tests)

starts_before : (c o : ℕ) (s t : Span) → Precedes s t → starts_by c o t ≡ true → starts_by c o s ≡ true
starts_before c o s t h k = grind (arith, nat_tests)

pub partitioned : (xs : List Span) (c o : ℕ) → AllPairs Precedes xs → IsPartitionedBy (starts_by c o) xs
partitioned xs c o h i j d le b started = by (cases_lt i j) where
  by : (i < j) ⊎ (j ≤ i) → starts_by c o (get_or xs i d) ≡ true
  by (inl less) = starts_before c o (get_or xs i d) (get_or xs j d) (h i j d less b) started
  by (inr past) = let same : i ≡ j = omega arith in rw same started

pub none_has : (xs : List Span) (c o n : ℕ) → StartUpTo c o xs n → n ≡ 0 → list_any (span_has c o) xs ≡ false
none_has xs c o n point zero = list_any_none (span_has c o) xs (λ k d b. has_started c o (get_or xs k d) (point.1 k d (omega arith) b))

-- of the spans that start by a byte only the last may have it
pub last_has : (xs : List Span) (c o n : ℕ) (e : Span) → StartUpTo c o xs n → AllPairs Precedes xs → 0 < n → n ≤ length xs → span_has c o (get_or xs (n - 1) e) ≡ list_any (span_has c o) xs
last_has xs c o n e point apart some within = by (span_has c o (get_or xs (n - 1) e)) refl where
  each : span_has c o (get_or xs (n - 1) e) ≡ false → (k : ℕ) (d : Span) → k < length xs → (k ≡ n - 1) ⊎ ((k < n - 1) ⊎ (n - 1 < k)) → span_has c o (get_or xs k d) ≡ false
  each none k d b (inl same) = ap (λ (i : ℕ). span_has c o (get_or xs i d)) same ∙ ap (span_has c o) (get_or_default xs (n - 1) d e (omega arith)) ∙ none
  each none k d b (inr (inl less)) =
      has_ended c o (get_or xs k d) (get_or xs (n - 1) d) (apart k (n - 1) d less (omega arith)) (point.0 (n - 1) d (omega arith) (omega arith))
  each none k d b (inr (inr more)) = has_started c o (get_or xs k d) (point.1 k d (omega arith) b)

  by : (t : Bool) → span_has c o (get_or xs (n - 1) e) ≡ t → t ≡ list_any (span_has c o) xs
  by true h = sym (list_any_at (span_has c o) xs (n - 1) e (omega arith) h)
  by false h = sym (list_any_none (span_has c o) xs (λ k d b. each h k d b (cases_order k (n - 1))))
