-- The bytes of runs: their order, and which they are. Crates above cite these lemmas.
use Rattle.std.proofs.Common.{◌≡◌, ℕ, zero, suc, ◌+◌, ◌-◌, ◌<◌, ◌≤◌, [], ◌∷◌, refl, ap, ap₂, sym, ◌∙◌, subst, Bool, true, false, ◌&&◌, ◌||◌, nat_le, arith, ◌⊎◌, inl, inr, min, max}
use Rattle.std.specs.Ordering.{eq_by_cmp, is_eq}
use Rattle.std.specs.Cmp.{nat_cmp_is, tied_itself}
use Rattle.std.specs.declared.cmp.Ordering.TheVariants.{Less, Equal}
use Rattle.std.proofs.lemmas.Bool.{cases_lt, or_left, or_right, or_cases}
use Rattle.std.proofs.lemmas.Bool.Decides.{nat_tests}
use Rattle.lists.specs.Sets.{union, has, IsBelow, Ascends}
use Rattle.lists.proofs.Algebra.{Ascends-union, has-union, same_list, tied_by}
use Rattle.lists.proofs.Tests.{true-false, same-tests}
use Rattle.flow_model.specs.declared.SourceByte.{SourceByte}
use Rattle.flow_model.specs.Orders.{source_cmp}
use Rattle.flow_model.proofs.Orders.{source_total, source_same, source_cmp-channel}
use Rattle.source_runs.specs.declared.runs.SourceRun.{SourceRun}
use Rattle.source_runs.specs.Runs.{byte_on, bytes_from, bytes_of, goes_on}

-- ---- the order

by_offset : (x y : SourceByte) → x.channel ≡ y.channel → x.offset < y.offset → source_cmp x y ≡ Less
by_offset x y e h = rw (sym (nat_cmp_is x.channel y.channel Equal e), sym (nat_cmp_is x.offset y.offset Less h)) refl

-- one byte comes before another
pub less : (x y : SourceByte) → (x.channel < y.channel) ⊎ ((x.channel ≡ y.channel) × (x.offset < y.offset)) → source_cmp x y ≡ Less
less x y (inl h) = source_cmp-channel x y h
less x y (inr h) = by_offset x y h.0 h.1

below_offsets : (c o a n : ℕ) → o < a → IsBelow source_cmp (byte_on c o) (bytes_from c a n)
below_offsets c o a zero h = tt
below_offsets c o a (suc n) h = (by_offset (byte_on c o) (byte_on c a) refl h, below_offsets c o (a + 1) n (omega (arith, h)))

offsets_ascend : (c a n : ℕ) → Ascends source_cmp (bytes_from c a n)
offsets_ascend c a zero = tt
offsets_ascend c a (suc n) = (below_offsets c a (a + 1) n (omega arith), offsets_ascend c (a + 1) n)

-- the bytes of a run ascend
pub run_ascends : (r : SourceRun) → Ascends source_cmp (bytes_of r)
run_ascends r = offsets_ascend r.channel r.first (r.last + 1 - r.first)

-- ---- which they are

-- the byte is one of so many of a channel
pub record IsFrom (q : SourceByte) (c a n : ℕ) : Type 0 where
  pub channel : q.channel ≡ c
  pub low : a ≤ q.offset
  pub high : q.offset < a + n

byte_is : (q : SourceByte) (c a : ℕ) → q.channel ≡ c → q.offset ≡ a → q ≡ byte_on c a
byte_is q c a e f = ap₂ (λ (x y : ℕ). byte_on x y) e f

pub one_of : (q : SourceByte) (c a n : ℕ) → has source_cmp q (bytes_from c a n) ≡ true → IsFrom q c a n
one_of q c a zero h = true-false (sym h)
one_of q c a (suc n) h = by (eq_by_cmp source_cmp q (byte_on c a)) refl h (one_of q c (a + 1) n) where
  by : (b : Bool) → eq_by_cmp source_cmp q (byte_on c a) ≡ b → (b || has source_cmp q (bytes_from c (a + 1) n)) ≡ true
      → (has source_cmp q (bytes_from c (a + 1) n) ≡ true → IsFrom q c (a + 1) n) → IsFrom q c a (suc n)
  by true e g later =
      let same = source_same q (byte_on c a) (tied_by (source_cmp q (byte_on c a)) e) in
      let offset : q.offset ≡ a = ap (λ (x : SourceByte). x.offset) same in
      record { channel = ap (λ (x : SourceByte). x.channel) same; low = omega (arith, offset); high = omega (arith, offset) }
  by false e g later =
      let f = later g in
      record { channel = f.channel; low = omega (arith, f.low); high = omega (arith, f.high) }

pub is_one : (q : SourceByte) (c a n : ℕ) → IsFrom q c a n → has source_cmp q (bytes_from c a n) ≡ true
is_one q c a zero f = absurd (omega (arith, f.low, f.high))
is_one q c a (suc n) f = by (cases_lt a q.offset) (is_one q c (a + 1) n) where
  by : (a < q.offset) ⊎ (q.offset ≤ a) → (IsFrom q c (a + 1) n → has source_cmp q (bytes_from c (a + 1) n) ≡ true)
      → (eq_by_cmp source_cmp q (byte_on c a) || has source_cmp q (bytes_from c (a + 1) n)) ≡ true
  by (inl h) later =
      or_right (eq_by_cmp source_cmp q (byte_on c a)) (has source_cmp q (bytes_from c (a + 1) n))
      (later (record { channel = f.channel; low = omega (arith, h); high = omega (arith, f.high) }))
  by (inr h) later =
      let offset : q.offset ≡ a = omega (arith, h, f.low) in
      let same : q ≡ byte_on c a = byte_is q c a f.channel offset in
      or_left (eq_by_cmp source_cmp q (byte_on c a)) (has source_cmp q (bytes_from c (a + 1) n))
      (subst (λ (x : SourceByte). eq_by_cmp source_cmp q x ≡ true) same (ap is_eq (tied_itself source_total q)))

-- the byte is one of the run
pub record IsOf (q : SourceByte) (r : SourceRun) : Type 0 where
  pub channel : q.channel ≡ r.channel
  pub first : r.first ≤ q.offset
  pub last : q.offset ≤ r.last

pub of_run : (q : SourceByte) (r : SourceRun) → has source_cmp q (bytes_of r) ≡ true → IsOf q r
of_run q r h =
    let f = one_of q r.channel r.first (r.last + 1 - r.first) h in
    record { channel = f.channel; first = f.low; last = omega (arith, f.low, f.high) }

pub run_has : (q : SourceByte) (r : SourceRun) → IsOf q r → has source_cmp q (bytes_of r) ≡ true
run_has q r i =
    is_one q r.channel r.first (r.last + 1 - r.first) (record { channel = i.channel; low = i.first; high = omega (arith, i.first, i.last) })

pub one_byte : (b : SourceByte) → bytes_of (record { channel = b.channel; first = b.offset; last = b.offset }) ≡ b ∷ []
one_byte b = let one : b.offset + 1 - b.offset ≡ 1 = omega arith in ap (λ (n : ℕ). bytes_from b.channel b.offset n) one

-- ---- the bytes of two runs

-- the bytes of a run are those of two others, where each is one of either
have_both : (r s t : SourceRun) (q : SourceByte) → (IsOf q t → IsOf q r ⊎ IsOf q s) → (IsOf q r → IsOf q t) → (IsOf q s → IsOf q t)
    → has source_cmp q (bytes_of t) ≡ (has source_cmp q (bytes_of r) || has source_cmp q (bytes_of s))
have_both r s t q split left right =
    same-tests (has source_cmp q (bytes_of t)) (has source_cmp q (bytes_of r) || has source_cmp q (bytes_of s))
    (λ h. elim (split (of_run q t h)) [
      | inl i ↦ or_left (has source_cmp q (bytes_of r)) (has source_cmp q (bytes_of s)) (run_has q r i)
      | inr i ↦ or_right (has source_cmp q (bytes_of r)) (has source_cmp q (bytes_of s)) (run_has q s i)
    ])
    (λ h. elim (or_cases (has source_cmp q (bytes_of r)) (has source_cmp q (bytes_of s)) h) [ inl p ↦ run_has q t (left (of_run q r p)) | inr p ↦ run_has q t (right (of_run q s p)) ])

-- the runs are of one channel, and overlap or touch
abbrev pub touches : SourceRun → SourceRun → Bool
touches r s = goes_on r s && (nat_le r.first s.first || nat_le r.first (s.last + 1))

-- the run from where the first of both begins to where the last of them ends
abbrev pub hull : SourceRun → SourceRun → SourceRun
hull r s = record { channel = r.channel; first = min r.first s.first; last = max r.last s.last }

pub hull_has : (r s : SourceRun) (q : SourceByte) → touches r s ≡ true
    → has source_cmp q (bytes_of (hull r s)) ≡ (has source_cmp q (bytes_of r) || has source_cmp q (bytes_of s))
hull_has r s q e = have_both r s (hull r s) q split
    (λ i. record { channel = i.channel; first = omega (arith, i.first); last = omega (arith, i.last) })
    (λ i. record { channel = i.channel ∙ sym same; first = omega (arith, i.first); last = omega (arith, i.last) }) where
      same : r.channel ≡ s.channel
      same = grind (arith, nat_tests)

      split : IsOf q (hull r s) → IsOf q r ⊎ IsOf q s
      split i = elim (cases_lt q.offset r.first) [
        | inl p ↦ inr (record { channel = i.channel ∙ same; first = omega (arith, p, i.first); last = grind (arith, nat_tests) })
        | inr p ↦ elim (cases_lt r.last q.offset) [
          | inl k ↦ inr (record { channel = i.channel ∙ same; first = grind (arith, nat_tests); last = omega (arith, k, i.last) })
          | inr k ↦ inl (record { channel = i.channel; first = p; last = k })
        ]
      ]

-- two runs that overlap or touch are one
pub hull_is : (r s : SourceRun) → touches r s ≡ true → bytes_of (hull r s) ≡ union source_cmp (bytes_of r) (bytes_of s)
hull_is r s e =
    same_list source_total source_same (bytes_of (hull r s)) (union source_cmp (bytes_of r) (bytes_of s)) (run_ascends (hull r s))
    (Ascends-union source_total (bytes_of r) (bytes_of s) (run_ascends s))
    (λ q. hull_has r s q e ∙ sym (has-union source_total (bytes_of r) (bytes_of s) q))
