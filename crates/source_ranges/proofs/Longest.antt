-- Ranges of source bytes, from their front and as a whole. Crates above cite `ranges-front` and `ranges_alone`.
use Rattle.std.proofs.Common.{◌≡◌, ℕ, zero, suc, ◌+◌, ◌-◌, ◌<◌, Bool, true, false, ◌&&◌, ◌==◌, if◌then◌else◌, List, [], ◌∷◌, ◌++◌, map, take, drop, refl, sym, ap, ap₂, ◌∙◌, subst, arith}
use Rattle.std.specs.List.{flat_map, range_with_len}
use Rattle.std.proofs.lemmas.List.{take-append-drop}
use Rattle.std.proofs.lemmas.Bool.{eqb-true, false≢true}
use Rattle.std.proofs.lemmas.Bool.Decides.{nat_tests}
use Rattle.flow_model.specs.declared.SourceByte.{SourceByte}
use Rattle.source_ranges.specs.declared.SourceRange.{SourceRange}
use Rattle.source_ranges.specs.Ranges.{byte_on, bytes_of, range_of, is_just_before, with_byte, ranges_of}
use Rattle.source_ranges.specs.RangeLaws.{EndsBefore, AreApart, AreRangesOf, RangesHoldBytes, RangesAreAlone}

-- n bytes of channel c from offset a on
abbrev pub bytes_from : ℕ → ℕ → ℕ → List SourceByte
bytes_from c a n = map (byte_on c) (range_with_len a n)

-- the bytes don't go on with offset p of channel c
abbrev pub StopAt : ℕ → ℕ → List SourceByte → Type 0
StopAt c p [] = Unit {0}
StopAt c p (b ∷ bs) = c ≡ b.channel → p ≡ b.offset → ⊥

abbrev range : ℕ → ℕ → ℕ → SourceRange
range c a p = record { channel = c; from = a; past = p }

test_true : (c d p q : ℕ) → c ≡ d → p ≡ q → ((c == d) && (p == q)) ≡ true
test_true c d p q e f = grind (arith, nat_tests)

test_false : (c d p q : ℕ) → (c ≡ d → p ≡ q → ⊥) → ((c == d) && (p == q)) ≡ false
test_false c d p q apart = by (c == d) (eqb-true c d) (p == q) (eqb-true p q)
  where
    by : (x : Bool) → (x ≡ true → c ≡ d) → (y : Bool) → (y ≡ true → p ≡ q) → (x && y) ≡ false
    by true cs true ps = absurd (apart (cs refl) (ps refl))
    by true cs false ps = refl
    by false cs y ps = refl

-- a byte that is just before the first range joins it, and one that isn't stands alone
joined : (b : SourceByte) (r : SourceRange) (rs : List SourceRange) → b.channel ≡ r.channel → b.offset + 1 ≡ r.from
    → with_byte b (r ∷ rs) ≡ range r.channel b.offset r.past ∷ rs
joined b r rs e f =
    ap (λ (t : Bool). if t then range r.channel b.offset r.past ∷ rs else range_of b ∷ r ∷ rs)
    (test_true b.channel r.channel (b.offset + 1) r.from e f)

alone : (b : SourceByte) (rs : List SourceRange) → EndsBefore (range_of b) rs → with_byte b rs ≡ range_of b ∷ rs
alone b [] apart = refl
alone b (r ∷ rs) apart =
    ap (λ (t : Bool). if t then range r.channel b.offset r.past ∷ rs else range_of b ∷ r ∷ rs)
    (test_false b.channel r.channel (b.offset + 1) r.from apart)

-- the first range begins with the first byte
pub record BeginsWith (b : SourceByte) (rs : List SourceRange) : Type 0 where
  pub first : SourceRange
  pub rest : List SourceRange
  pub parts : rs ≡ first ∷ rest
  pub channel : first.channel ≡ b.channel
  pub from : first.from ≡ b.offset

pub begins : (b : SourceByte) (rs : List SourceRange) → BeginsWith b (with_byte b rs)
begins b [] = record { first = range_of b; rest = []; parts = refl; channel = refl; from = refl }
begins b (r ∷ rs) = by (is_just_before b r) (eqb-channel b r)
  where
    eqb-channel : (b : SourceByte) (r : SourceRange) → is_just_before b r ≡ true → r.channel ≡ b.channel
    eqb-channel b r e = grind (arith, nat_tests)

    by : (t : Bool) → (t ≡ true → r.channel ≡ b.channel) → BeginsWith b (if t then range r.channel b.offset r.past ∷ rs else range_of b ∷ r ∷ rs)
    by true same = record { first = range r.channel b.offset r.past; rest = rs; parts = refl; channel = same refl; from = refl }
    by false same = record { first = range_of b; rest = r ∷ rs; parts = refl; channel = refl; from = refl }

-- bytes that don't go on from a range have ranges that it ends before
ends_before : (c a p : ℕ) (bs : List SourceByte) → StopAt c p bs → EndsBefore (range c a p) (ranges_of bs)
ends_before c a p [] stop = tt
ends_before c a p (b ∷ bs) stop =
    let h = begins b (ranges_of bs) in
    let P : List SourceRange → Type 0 = λ rs. EndsBefore (range c a p) rs in
    subst P (sym h.parts) (λ e f. stop (e ∙ h.channel) (f ∙ h.from))

-- bytes of one range, and bytes that don't go on from it
pub ranges-front : (c a n : ℕ) (rest : List SourceByte) → StopAt c (a + suc n) rest
    → ranges_of (bytes_from c a (suc n) ++ rest) ≡ range c a (a + suc n) ∷ ranges_of rest
ranges-front c a zero rest stop =
    let e : a + 1 ≡ a + suc zero = omega arith in
    let stops : StopAt c (a + 1) rest = stop in
    alone (byte_on c a) (ranges_of rest) (ends_before c a (a + 1) rest stops)
ranges-front c a (suc n) rest stop =
    let e : (a + 1) + suc n ≡ a + suc (suc n) = omega arith in
    let stops : StopAt c ((a + 1) + suc n) rest = subst (λ (p : ℕ). StopAt c p rest) (sym e) stop in
    ap (with_byte (byte_on c a)) (ranges-front c (a + 1) n rest stops)
    ∙ joined (byte_on c a) (range c (a + 1) ((a + 1) + suc n)) (ranges_of rest) refl refl
    ∙ ap (λ (p : ℕ). range c a p ∷ ranges_of rest) e

-- the same, of a byte and those that follow it
pub ranges-split : (b : SourceByte) (more : List SourceByte) (n : ℕ) → take n more ≡ bytes_from b.channel (b.offset + 1) n
    → StopAt b.channel (b.offset + 1 + n) (drop n more)
    → ranges_of (b ∷ more) ≡ range b.channel b.offset (b.offset + 1 + n) ∷ ranges_of (drop n more)
ranges-split b more n front stop =
    let e : b.offset + suc n ≡ b.offset + 1 + n = omega arith in
    let stops : StopAt b.channel (b.offset + suc n) (drop n more) = subst (λ (p : ℕ). StopAt b.channel p (drop n more)) (sym e) stop in
    ap (λ (bs : List SourceByte). ranges_of (b ∷ bs)) (sym (take-append-drop n more) ∙ ap (λ (bs : List SourceByte). bs ++ drop n more) front)
    ∙ ranges-front b.channel b.offset n (drop n more) stops
    ∙ ap (λ (p : ℕ). range b.channel b.offset p ∷ ranges_of (drop n more)) e

-- ---- the laws

-- a range with one more byte in front has that byte and its own
more_bytes : (c a p q : ℕ) → a + 1 ≡ p → p < q → bytes_of (range c a q) ≡ byte_on c a ∷ bytes_of (range c p q)
more_bytes c a p q e h =
    let length : q - a ≡ suc (q - p) = omega arith in
    ap (λ (n : ℕ). bytes_from c a n) length ∙ ap (λ (o : ℕ). byte_on c a ∷ bytes_from c o (q - p)) e

one_byte : (b : SourceByte) → bytes_of (range_of b) ≡ b ∷ []
one_byte b = let length : b.offset + 1 - b.offset ≡ 1 = omega arith in ap (λ (n : ℕ). bytes_from b.channel b.offset n) length

with_byte-holds : (b : SourceByte) (bs : List SourceByte) (rs : List SourceRange) → AreRangesOf bs rs → AreRangesOf (b ∷ bs) (with_byte b rs)
with_byte-holds b bs [] h = record {
  bytes = ap (λ (xs : List SourceByte). xs ++ []) (one_byte b) ∙ ap (λ (xs : List SourceByte). b ∷ xs) h.bytes;
  apart = (omega arith, tt, tt);
}
with_byte-holds b bs (r ∷ rs) h = by (is_just_before b r) refl
  where
    by : (t : Bool) → is_just_before b r ≡ t → AreRangesOf (b ∷ bs) (if t then range r.channel b.offset r.past ∷ rs else range_of b ∷ r ∷ rs)
    by true e =
        let same : b.channel ≡ r.channel = grind (arith, nat_tests) in
        let next : b.offset + 1 ≡ r.from = grind (arith, nat_tests) in
        record {
          bytes =
              ap (λ (xs : List SourceByte). xs ++ flat_map bytes_of rs) (more_bytes r.channel b.offset r.from r.past next h.apart.0)
              ∙ ap₂ (λ (c : ℕ) (xs : List SourceByte). byte_on c b.offset ∷ xs) (sym same) h.bytes;
          apart = (omega (arith, h.apart.0), h.apart.1, h.apart.2);
        }
    by false e = record {
      bytes = ap₂ (λ (xs ys : List SourceByte). xs ++ ys) (one_byte b) h.bytes;
      apart = (omega arith, λ c o. false≢true (sym e ∙ test_true b.channel r.channel (b.offset + 1) r.from c o), h.apart);
    }

pub ranges_hold_bytes : RangesHoldBytes
ranges_hold_bytes [] = record { bytes = refl; apart = tt }
ranges_hold_bytes (b ∷ bs) = with_byte-holds b bs (ranges_of bs) (ranges_hold_bytes bs)

-- the bytes of ranges that are apart don't go on from a range that ends before them
stops : (r : SourceRange) (rs : List SourceRange) → EndsBefore r rs → AreApart rs → StopAt r.channel r.past (flat_map bytes_of rs)
stops r [] ends apart = tt
stops r (s ∷ ss) ends apart =
    let length : s.past - s.from ≡ suc (s.past - s.from - 1) = omega (arith, apart.0) in
    subst (λ (n : ℕ). StopAt r.channel r.past (bytes_from s.channel s.from n ++ flat_map bytes_of ss)) (sym length) ends

apart_alone : (rs : List SourceRange) → AreApart rs → rs ≡ ranges_of (flat_map bytes_of rs)
apart_alone [] apart = refl
apart_alone (r ∷ rs) apart =
    let n : ℕ = r.past - r.from - 1 in
    let length : r.past - r.from ≡ suc n = omega (arith, apart.0) in
    let end : r.past ≡ r.from + suc n = omega (arith, apart.0) in
    let stop : StopAt r.channel (r.from + suc n) (flat_map bytes_of rs) = subst (λ (p : ℕ). StopAt r.channel p (flat_map bytes_of rs)) end (stops r rs apart.1 apart.2) in
    ap₂ (λ (p : ℕ) (ss : List SourceRange). range r.channel r.from p ∷ ss) end (apart_alone rs apart.2)
    ∙ sym (ranges-front r.channel r.from n (flat_map bytes_of rs) stop)
    ∙ ap (λ (k : ℕ). ranges_of (bytes_from r.channel r.from k ++ flat_map bytes_of rs)) (sym length)

pub ranges_alone : RangesAreAlone
ranges_alone bs rs h = apart_alone rs h.apart ∙ ap ranges_of h.bytes
