-- The ranges that a set of source bytes keeps, and their bytes. Crates above cite these lemmas.
use Rattle.std.proofs.Common.{◌≡◌, ℕ, zero, suc, ◌+◌, ◌-◌, ◌<◌, ◌≤◌, true, false, ◌==◌, List, [], ◌∷◌, ◌++◌, length, get_or, take, set, refl, sym, ap, ap₂, ◌∙◌, subst, arith}
use Rattle.std.specs.Prelude.{All, Some, slice_get}
use Rattle.std.specs.Option.{option_map}
use Rattle.std.specs.List.{flat_map}
use Rattle.std.proofs.lemmas.List.{append-nil, append_assoc, length-append, set_split, set-get_or, drop_all, take_all, take_more, nil_from_length}
use Rattle.std.proofs.lemmas.List.Concat.{flat_map-append}
use Rattle.std.proofs.lemmas.List.FromFn.{length-map-range_with_len}
use Rattle.std.proofs.lemmas.List.Elements.{All-nil, All-cons}
use Rattle.std.proofs.lemmas.Bool.Decides.{nat_tests}
use Rattle.flow_model.specs.declared.SourceByte.{SourceByte}
use Rattle.source_ranges.specs.declared.SourceRange.{SourceRange}
use Rattle.lists.specs.Sets.{Ascends}
use Rattle.flow_model.specs.Orders.{source_cmp}
use Rattle.source_runs.specs.declared.runs.SourceRun.{SourceRun}
use Rattle.source_runs.proofs.Bytes.{run_ascends}
pub use Rattle.source_runs.proofs.Bytes.{IsFrom, one_of, is_one}
use Rattle.source_ranges.specs.Kept.{IsRange, AreKept}
use Rattle.source_ranges.specs.RangeLaws.{AreApart}
use Rattle.source_ranges.specs.Ranges.{byte_on, bytes_of, ranges_of}
use Rattle.source_ranges.proofs.Longest.{bytes_from, begins, ranges_hold_bytes, ranges_alone}

abbrev pub range : ℕ → ℕ → ℕ → SourceRange
range c a p = record { channel = c; from = a; past = p }

-- ---- ranges, and the bytes that they are of

pub bytes-ranges : (bs : List SourceByte) → flat_map bytes_of (ranges_of bs) ≡ bs
bytes-ranges bs = (ranges_hold_bytes bs).bytes

pub kept-ranges : (rs : List SourceRange) → AreApart rs → ranges_of (flat_map bytes_of rs) ≡ rs
kept-ranges rs apart = sym (ranges_alone (flat_map bytes_of rs) rs (record { bytes = refl; apart = apart }))

not_zero : (n : ℕ) → (suc n == 0) ≡ false
not_zero n = grind (arith, nat_tests)

-- there is a range where there is a byte
pub none-ranges : (bs : List SourceByte) → (length (ranges_of bs) == 0) ≡ (length bs == 0)
none-ranges [] = refl
none-ranges (b ∷ bs) =
    let h = begins b (ranges_of bs) in
    ap (λ (rs : List SourceRange). length rs == 0) h.parts ∙ not_zero (length h.rest) ∙ sym (not_zero (length bs))

-- ---- the bytes of a range

pub bytes-first : (c a p : ℕ) → a < p → bytes_of (range c a p) ≡ byte_on c a ∷ bytes_of (range c (a + 1) p)
bytes-first c a p h = let length : p - a ≡ suc (p - (a + 1)) = omega arith in ap (bytes_from c a) length

pub bytes-none : (c a p : ℕ) → p ≤ a → bytes_of (range c a p) ≡ []
bytes-none c a p h = let length : p - a ≡ 0 = omega arith in ap (bytes_from c a) length

pub length-bytes : (r : SourceRange) → length (bytes_of r) ≡ r.past - r.from
length-bytes r = length-map-range_with_len (byte_on r.channel) r.from (r.past - r.from)

split_from : (c a n m : ℕ) → bytes_from c a (n + m) ≡ bytes_from c a n ++ bytes_from c (a + n) m
split_from c a zero m =
    let e : zero + m ≡ m = omega arith in
    let f : a ≡ a + zero = omega arith in
    ap (bytes_from c a) e ∙ ap (λ (o : ℕ). bytes_from c o m) f
split_from c a (suc n) m =
    let e : suc n + m ≡ suc (n + m) = omega arith in
    let f : a + 1 + n ≡ a + suc n = omega arith in
    ap (bytes_from c a) e ∙ ap (λ (bs : List SourceByte). byte_on c a ∷ bs) (split_from c (a + 1) n m ∙ ap (λ (o : ℕ). bytes_from c (a + 1) n ++ bytes_from c o m) f)

-- the bytes of a range up to an offset, and from it on
pub bytes-split : (c a o p : ℕ) → a ≤ o → o ≤ p → bytes_of (range c a p) ≡ bytes_of (range c a o) ++ bytes_of (range c o p)
bytes-split c a o p low high =
    let e : p - a ≡ (o - a) + (p - o) = omega arith in
    let f : a + (o - a) ≡ o = omega arith in
    ap (bytes_from c a) e ∙ split_from c a (o - a) (p - o) ∙ ap (λ (i : ℕ). bytes_from c a (o - a) ++ bytes_from c i (p - o)) f

-- ---- one range more

-- the last range with the bytes that go on from it
pub bytes-joined : (front : List SourceRange) (c a o p : ℕ) → a ≤ o → o ≤ p
    → flat_map bytes_of (front ++ range c a p ∷ []) ≡ flat_map bytes_of (front ++ range c a o ∷ []) ++ bytes_of (range c o p)
bytes-joined [] c a o p low high =
    append-nil (bytes_of (range c a p)) ∙ bytes-split c a o p low high ∙ ap (λ (bs : List SourceByte). bs ++ bytes_of (range c o p)) (sym (append-nil (bytes_of (range c a o))))
bytes-joined (r ∷ front) c a o p low high =
    ap (λ (bs : List SourceByte). bytes_of r ++ bs) (bytes-joined front c a o p low high)
    ∙ sym (append_assoc (bytes_of r) (flat_map bytes_of (front ++ range c a o ∷ [])) (bytes_of (range c o p)))

pub bytes-pushed : (rs : List SourceRange) (r : SourceRange) → flat_map bytes_of (rs ++ r ∷ []) ≡ flat_map bytes_of rs ++ bytes_of r
bytes-pushed rs r = flat_map-append bytes_of rs (r ∷ []) ∙ ap (λ (bs : List SourceByte). flat_map bytes_of rs ++ bs) (append-nil (bytes_of r))

-- the last range may end elsewhere
pub apart-joined : (front : List SourceRange) (c a o p : ℕ) → AreApart (front ++ range c a o ∷ []) → a < p → AreApart (front ++ range c a p ∷ [])
apart-joined [] c a o p apart some = (some, tt, tt)
apart-joined (r ∷ []) c a o p apart some = (apart.0, apart.1, apart-joined [] c a o p apart.2 some)
apart-joined (r ∷ s ∷ front) c a o p apart some = (apart.0, apart.1, apart-joined (s ∷ front) c a o p apart.2 some)

-- a range that doesn't go on from the last one
pub apart-pushed : (front : List SourceRange) (l r : SourceRange) → AreApart (front ++ l ∷ []) → (l.channel ≡ r.channel → l.past ≡ r.from → ⊥) → r.from < r.past
    → AreApart ((front ++ l ∷ []) ++ r ∷ [])
apart-pushed [] l r apart ends some = (apart.0, ends, (some, tt, tt))
apart-pushed (s ∷ []) l r apart ends some = (apart.0, apart.1, apart-pushed [] l r apart.2 ends some)
apart-pushed (s ∷ t ∷ front) l r apart ends some = (apart.0, apart.1, apart-pushed (t ∷ front) l r apart.2 ends some)

-- the range at the end
last_is : (rs : List SourceRange) (n : ℕ) (l : SourceRange) → n + 1 ≡ length rs → l ≡ get_or rs n l → rs ≡ take n rs ++ l ∷ []
last_is rs n l e at =
    sym (take_all (n + 1) rs (omega arith)) ∙ take_more rs n l (omega arith) ∙ ap (λ (r : SourceRange). take n rs ++ r ∷ []) (sym at)

last_set : (rs : List SourceRange) (n : ℕ) (r : SourceRange) → n + 1 ≡ length rs → set rs n r ≡ take n rs ++ r ∷ []
last_set rs n r e =
    set_split rs n r (omega arith) ∙ ap (λ (ss : List SourceRange). take n rs ++ r ∷ ss) (drop_all (suc n) rs (omega arith))

module _ (rs : List SourceRange) (n : ℕ) (l r : SourceRange) (count : n + 1 ≡ length rs) (at : l ≡ get_or rs n l) where
  pub joined_bytes : l.from ≤ l.past → r.from ≤ r.past → l.channel ≡ r.channel → l.past ≡ r.from
      → flat_map bytes_of (set rs n (range l.channel l.from r.past)) ≡ flat_map bytes_of rs ++ bytes_of r
  joined_bytes low high channel from =
      ap (flat_map bytes_of) (last_set rs n (range l.channel l.from r.past) count)
      ∙ bytes-joined (take n rs) l.channel l.from l.past r.past low (omega arith)
      ∙ ap₂ (λ (ss : List SourceRange) (bs : List SourceByte). flat_map bytes_of ss ++ bs) (sym (last_is rs n l count at))
      (ap₂ (λ (c a : ℕ). bytes_of (range c a r.past)) channel from)

  pub joined_apart : AreApart rs → l.from < r.past → AreApart (set rs n (range l.channel l.from r.past))
  joined_apart apart some =
      subst AreApart (sym (last_set rs n (range l.channel l.from r.past) count))
      (apart-joined (take n rs) l.channel l.from l.past r.past (subst AreApart (last_is rs n l count at) apart) some)

  pub pushed_apart : AreApart rs → (l.channel ≡ r.channel → l.past ≡ r.from → ⊥) → r.from < r.past → AreApart (rs ++ r ∷ [])
  pushed_apart apart ends some =
      let e = last_is rs n l count at in
      subst (λ (ss : List SourceRange). AreApart (ss ++ r ∷ [])) (sym e) (apart-pushed (take n rs) l r (subst AreApart e apart) ends some)

-- ---- the ranges of bytes

pub kept-of : (bs : List SourceByte) (rs : List SourceRange) → rs ≡ ranges_of bs → Ascends source_cmp bs → All IsRange rs → AreKept rs
kept-of bs rs e ascends fits = record {
  apart = subst AreApart (sym e) (ranges_hold_bytes bs).apart;
  ascending = subst (Ascends source_cmp) (sym (ap (flat_map bytes_of) e ∙ bytes-ranges bs)) ascends;
  fits = fits;
}

-- a range has the bytes of a run
range_ascends : (r : SourceRange) → r.from < r.past → Ascends source_cmp (bytes_of r)
range_ascends r some =
    let run : SourceRun = record { channel = r.channel; first = r.from; last = r.past - 1 } in
    let count : r.past - 1 + 1 - r.from ≡ r.past - r.from = omega (arith, some) in
    subst (λ (n : ℕ). Ascends source_cmp (bytes_from r.channel r.from n)) count (run_ascends run)

-- one range alone
pub kept-one : (r : SourceRange) → IsRange r → AreKept (r ∷ [])
kept-one r fits = record {
  apart = (fits.0, tt, tt);
  ascending = subst (Ascends source_cmp) (sym (append-nil (bytes_of r))) (range_ascends r fits.0);
  fits = All-cons IsRange r [] fits (All-nil IsRange);
}

pub unchanged : (rs : List SourceRange) (n : ℕ) (l : SourceRange) → l ≡ get_or rs n l → set rs n l ≡ rs
unchanged rs n l at = ap (set rs n) at ∙ set-get_or rs n l

pub no-bytes : (bs : List SourceByte) → (length bs == 0) ≡ true → bs ≡ []
no-bytes bs h = let e : length bs ≡ 0 = grind (arith, nat_tests) in nil_from_length bs e

-- ---- the first of the bytes, one alone, and how many there are

abbrev pub first_of : SourceRange → SourceByte
first_of r = byte_on r.channel r.from

pub first-bytes : (bs : List SourceByte) → slice_get bs 0 ≡ option_map first_of (slice_get (ranges_of bs) 0)
first-bytes [] = refl
first-bytes (b ∷ bs) =
    let h = begins b (ranges_of bs) in
    ap₂ (λ (c o : ℕ). Some (byte_on c o)) (sym h.channel) (sym h.from)
    ∙ sym (ap (λ (rs : List SourceRange). option_map first_of (slice_get rs 0)) h.parts)

one_alone : (rs : List SourceRange) (d : SourceRange) → 1 ≤ length rs → length rs < 2 → rs ≡ get_or rs 0 d ∷ []
one_alone [] d low high = absurd (omega arith)
one_alone (r ∷ []) d low high = refl
one_alone (r ∷ s ∷ rs) d low high = absurd (omega arith)

pub single-byte : (bs : List SourceByte) (rs : List SourceRange) (d : SourceRange) → rs ≡ ranges_of bs → 1 ≤ length rs → length rs < 2
    → (get_or rs 0 d).past - (get_or rs 0 d).from ≡ 1 → bs ≡ first_of (get_or rs 0 d) ∷ []
single-byte bs rs d e low high one =
    let r = get_or rs 0 d in
    sym (bytes-ranges bs) ∙ ap (flat_map bytes_of) (sym e ∙ one_alone rs d low high) ∙ append-nil (bytes_of r) ∙ ap (bytes_from r.channel r.from) one

length_one : (r : SourceRange) → length (flat_map bytes_of (r ∷ [])) ≡ r.past - r.from
length_one r = ap length (append-nil (bytes_of r)) ∙ length-bytes r

two_bytes : (rs : List SourceRange) → AreApart rs → 2 ≤ length rs → 2 ≤ length (flat_map bytes_of rs)
two_bytes [] apart low = absurd (omega arith)
two_bytes (r ∷ []) apart low = absurd (omega arith)
two_bytes (r ∷ s ∷ rs) apart low =
    let rest = flat_map bytes_of rs in
    omega (arith, length-append (bytes_of r) (bytes_of s ++ rest), length-append (bytes_of s) rest, length-bytes r, length-bytes s, apart.0, apart.2.0)

pub not-single : (bs : List SourceByte) (rs : List SourceRange) (d : SourceRange) → rs ≡ ranges_of bs
    → (1 ≤ length rs → length rs < 2 → (get_or rs 0 d).past - (get_or rs 0 d).from ≡ 1 → ⊥) → length bs ≡ 1 → ⊥
not-single bs rs d e other one = by rs e other
  where
    by : (rs : List SourceRange) → rs ≡ ranges_of bs → (1 ≤ length rs → length rs < 2 → (get_or rs 0 d).past - (get_or rs 0 d).from ≡ 1 → ⊥) → ⊥
    by [] e other = let h : length {A = SourceByte} [] ≡ 1 = ap length (ap (flat_map bytes_of) e ∙ bytes-ranges bs) ∙ one in omega (arith, h)
    by (r ∷ []) e other = other (omega arith) (omega arith) (sym (length_one r) ∙ ap length (ap (flat_map bytes_of) e ∙ bytes-ranges bs) ∙ one)
    by (r ∷ s ∷ rs) e other =
        let two = two_bytes (r ∷ s ∷ rs) (subst AreApart (sym e) (ranges_hold_bytes bs).apart) (omega arith) in
        omega (arith, two, ap length (ap (flat_map bytes_of) e ∙ bytes-ranges bs) ∙ one)

pub counted-more : (rs : List SourceRange) (k : ℕ) (d : SourceRange) → k < length rs
    → length (flat_map bytes_of (take (k + 1) rs)) ≡ length (flat_map bytes_of (take k rs)) + ((get_or rs k d).past - (get_or rs k d).from)
counted-more rs k d h =
    let r = get_or rs k d in
    ap (λ (ss : List SourceRange). length (flat_map bytes_of ss)) (take_more rs k d h)
    ∙ ap length (bytes-pushed (take k rs) r) ∙ length-append (flat_map bytes_of (take k rs)) (bytes_of r)
    ∙ ap (λ (n : ℕ). length (flat_map bytes_of (take k rs)) + n) (length-bytes r)

-- the bytes of all ranges of bytes are these
pub all-bytes : (bs : List SourceByte) (rs : List SourceRange) (k : ℕ) → rs ≡ ranges_of bs → length rs ≤ k → flat_map bytes_of (take k rs) ≡ bs
all-bytes bs rs k e all = ap (flat_map bytes_of) (take_all k rs all ∙ e) ∙ bytes-ranges bs
