-- Places of source bytes: ranges whose bytes ascend lie one after another.
use Rattle.std.proofs.Common.{◌≡◌, ℕ, ◌+◌, ◌-◌, ◌^◌, ◌<◌, ◌≤◌, ◌⊎◌, inl, inr, List, ◌++◌, length, map, take, get_or, true, refl, sym, ap, ◌∙◌, arith}
use Rattle.std.specs.Prelude.{All}
use Rattle.std.specs.List.{flat_map, AllAdjacentBelow}
use Rattle.std.specs.List.Sorted.{IsNonDecreasing, IsStrictlyIncreasing}
use Rattle.std.specs.Cmp.{tied_itself}
use Rattle.std.specs.Ordering.{nat_cmp, ordering_then}
use Rattle.std.specs.declared.cmp.Ordering.{Ordering}
use Rattle.std.specs.declared.cmp.Ordering.TheVariants.{Less, Equal}
use Rattle.std.proofs.lemmas.Bool.{cases_lt}
use Rattle.std.proofs.lemmas.Bool.Decides.{nat_tests}
use Rattle.std.proofs.lemmas.List.{get_or_append_left, get_or-append-add, length-append, length-map, get_or-map}
use Rattle.std.proofs.lemmas.List.Concat.{get_or-flat_map}
use Rattle.std.proofs.lemmas.List.Folds.{length-flat_map-take}
use Rattle.std.proofs.lemmas.List.FromFn.{get_or-map-range_with_len}
use Rattle.std.proofs.lemmas.List.Kept.{AllPairs-from_increasing}
use Rattle.std.proofs.lemmas.List.Sorted.{IsNonDecreasingBy-from_all_adjacent, IsNonDecreasingBy-from_default}
use Rattle.flow_model.specs.declared.SourceByte.{SourceByte}
use Rattle.flow_model.specs.Orders.{source_cmp}
use Rattle.flow_model.proofs.Orders.{source_total, source_same}
use Rattle.lists.specs.Sets.{has, Ascends}
use Rattle.lists.proofs.Algebra.{Ascends-at, Contains-has}
use Rattle.source_ranges.specs.declared.SourceRange.{SourceRange}
use Rattle.source_ranges.specs.Kept.{IsRange}
use Rattle.source_ranges.specs.Ranges.{byte_on, bytes_of}
use Rattle.source_ranges.proofs.Kept.{length-bytes, counted-more}
use Rattle.sink_collect.specs.Places.{start_of, end_of}

-- ---- numbers that ascend

pub not_falling : (xs : List ℕ) → IsStrictlyIncreasing xs → IsNonDecreasing xs
not_falling xs up = IsNonDecreasingBy-from_default (λ x. x) xs 0 (λ i j le inside. by i j le inside (cases_lt i j)) where
  by : (i j : ℕ) → i ≤ j → j < length xs → (i < j) ⊎ (j ≤ i) → get_or xs i 0 ≤ get_or xs j 0
  by i j le inside (inl less) = let h : get_or xs i 0 < get_or xs j 0 = AllPairs-from_increasing xs up i j 0 less inside in omega (arith, h)
  by i j le inside (inr more) = let e : i ≡ j = omega arith in omega (arith, ap (λ (k : ℕ). get_or xs k 0) e)

-- ---- bytes that ascend

by_numbers : (c o d p : ℕ) → ordering_then (nat_cmp c d) (ordering_then (nat_cmp o p) Equal) ≡ Less → (c < d) ⊎ ((c ≡ d) × (o < p))
by_numbers c o d p h = by (nat_cmp c d) refl (nat_cmp o p) refl h where
  by : (r : Ordering) → nat_cmp c d ≡ r → (s : Ordering) → nat_cmp o p ≡ s → ordering_then r (ordering_then s Equal) ≡ Less → (c < d) ⊎ ((c ≡ d) × (o < p))
  by Less e s f g = inl (grind (arith, nat_tests))
  by Equal e Less f g = inr (grind (arith, nat_tests), grind (arith, nat_tests))
  by r e s f g = cc

-- a byte before another
pub before : (a b : SourceByte) → source_cmp a b ≡ Less → (a.channel < b.channel) ⊎ ((a.channel ≡ b.channel) × (a.offset < b.offset))
before a b h = by_numbers a.channel a.offset b.channel b.offset h

-- no byte is in the front and in the rest of bytes that ascend
pub only_once : (front rest : List SourceByte) (b : SourceByte) → Ascends source_cmp (front ++ rest) → has source_cmp b front ≡ true → has source_cmp b rest ≡ true → Less ≡ Equal
only_once front rest b ascends first second =
    let x = Contains-has source_total source_same front b first in
    let y = Contains-has source_total source_same rest b second in
    let whole = front ++ rest in
    let at_x : get_or whole x.0 b ≡ b = get_or_append_left front rest b x.0 x.1 ∙ x.2 in
    let at_y : get_or whole (length front + y.0) b ≡ b = get_or-append-add front rest y.0 b ∙ y.2 in
    let inside : length front + y.0 < length whole = omega (arith, y.1, length-append front rest) in
    let less : source_cmp (get_or whole x.0 b) (get_or whole (length front + y.0) b) ≡ Less =
    Ascends-at source_total whole x.0 (length front + y.0) b ascends (omega (arith, x.1)) inside in
    sym less ∙ ap (λ (q : SourceByte). source_cmp q (get_or whole (length front + y.0) b)) at_x ∙ ap (source_cmp b) at_y ∙ tied_itself source_total b

-- ---- ranges whose bytes ascend

module _ (rs : List SourceRange) (fits : All IsRange rs) (ascends : Ascends source_cmp (flat_map bytes_of rs)) where
  -- each begins where the one before it ends, or after that
  pub one_after_another : (k : ℕ) (d : SourceRange) → k + 1 < length rs → end_of (get_or rs k d) ≤ start_of (get_or rs (k + 1) d)
  one_after_another k d inside =
      let p = get_or rs k d in
      let q = get_or rs (k + 1) d in
      let all = flat_map bytes_of rs in
      let here = length (flat_map bytes_of (take k rs)) in
      let next = length (flat_map bytes_of (take (k + 1) rs)) in
      let b : SourceByte = record { channel = 0; offset = 0 } in
      let some : p.from < p.past = (fits k d (omega arith)).0 in
      let more : q.from < q.past = (fits (k + 1) d inside).0 in
      let last : get_or all (here + (p.past - p.from - 1)) b ≡ byte_on p.channel (p.past - 1) =
      get_or-flat_map bytes_of rs k (p.past - p.from - 1) d b (omega arith) (omega (arith, length-bytes p))
      ∙ get_or-map-range_with_len (byte_on p.channel) p.from (p.past - p.from) (p.past - p.from - 1) (p.past - 1) b (omega arith) (omega arith) in
      let first : get_or all (next + 0) b ≡ byte_on q.channel q.from =
      get_or-flat_map bytes_of rs (k + 1) 0 d b inside (omega (arith, length-bytes q))
      ∙ get_or-map-range_with_len (byte_on q.channel) q.from (q.past - q.from) 0 q.from b (omega arith) (omega arith) in
      let count : next ≡ here + (p.past - p.from) = counted-more rs k d (omega arith) in
      let room : next + length (bytes_of q) ≤ length all = length-flat_map-take bytes_of rs (k + 1) d inside in
      let less = Ascends-at source_total all (here + (p.past - p.from - 1)) (next + 0) b ascends (omega arith) (omega (arith, length-bytes q)) in
      let comes = before (byte_on p.channel (p.past - 1)) (byte_on q.channel q.from)
      (sym (ap (λ (x : SourceByte). source_cmp x (byte_on q.channel q.from)) last) ∙ sym (ap (source_cmp (get_or all (here + (p.past - p.from - 1)) b)) first) ∙ less) in
      apart p q some (fits k d (omega arith)).1 comes
    where
      apart : (p q : SourceRange) → p.from < p.past → p.past ≤ 2 ^ 32 → (p.channel < q.channel) ⊎ ((p.channel ≡ q.channel) × (p.past - 1 < q.from)) → end_of p ≤ start_of q
      apart p q some high (inl h) = omega arith
      apart p q some high (inr h) = omega (arith, h.0, h.1)

  pub starts_ascend : IsNonDecreasing (map start_of rs)
  starts_ascend = IsNonDecreasingBy-from_all_adjacent (λ x. x) (map start_of rs) next where
    next : AllAdjacentBelow (λ x y. x ≤ y) (map start_of rs) (length (map start_of rs))
    next k d inside =
        let none : SourceRange = record { channel = 0; from = 0; past = 0 } in
        let within : k + 1 < length rs = omega (arith, length-map rs start_of) in
        let after = one_after_another k none within in
        let some = (fits k none (omega arith)).0 in
        omega (arith, get_or-map start_of rs k none d (omega arith), get_or-map start_of rs (k + 1) none d within)
