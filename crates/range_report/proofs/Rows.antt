-- Rows of neighbouring output bytes, and which row goes on from them.
use Rattle.std.proofs.Common.{◌≡◌, ℕ, zero, suc, ◌+◌, ◌≤◌, ◌==◌, Bool, true, false, ◌&&◌, ◌||◌, List, [], ◌∷◌, ◌++◌, length, refl, sym, ap, ap₂, ◌∙◌, arith, append-nil}
use Rattle.std.specs.Prelude.{if◌then◌else◌}
use Rattle.std.specs.List.{flat_map, list_all}
use Rattle.std.specs.Cmp.Lexicographic.{pointwise}
use Rattle.std.proofs.lemmas.Bool.{and_right, eq-eqb}
use Rattle.std.proofs.lemmas.Bool.Decides.{nat_tests}
use Rattle.std.proofs.Math.Bool.{or-false}
use Rattle.flow_model.specs.declared.SourceByte.{SourceByte}
use Rattle.flow_model.specs.declared.SinkPoint.TheVariants.{Out}
use Rattle.flow_model.specs.contracts.SourceBytePartialEq.TheImpl as test
use Rattle.report_model.specs.Rows.{Row}
use Rattle.sink_collect.proofs.Alike.{same_sources as equal_sources}
use Rattle.source_ranges.specs.Ranges.{byte_on}
use Rattle.source_ranges.proofs.Longest.{bytes_from}
use Rattle.range_report.specs.OpenRuns.{row_of, moved_rows, shared_rows}
use Rattle.range_report.specs.Text.{sources_of}
use Rattle.range_report.specs.Runs.{is_next_sink, is_next_source, same_sources, go_on, has_one, is_moved, is_shared, is_run}

-- ---- tests

other_number : (n : ℕ) → (n == n + 1) ≡ false
other_number n = grind (arith, nat_tests)

and_true : (a : Bool) → (a && true) ≡ a
and_true true = refl
and_true false = refl

pub next_sink : (c o : ℕ) → is_next_sink (Out (record { channel = c; offset = o })) (Out (record { channel = c; offset = o + 1 })) ≡ true
next_sink c o = ap₂ ◌&&◌ (eq-eqb c c refl) (eq-eqb (o + 1) (o + 1) refl)

pub next_source : (d e : ℕ) → is_next_source (byte_on d e ∷ []) (byte_on d (e + 1) ∷ []) ≡ true
next_source d e = ap₂ ◌&&◌ (eq-eqb d d refl) (eq-eqb (e + 1) (e + 1) refl)

-- no source bytes are the next of themselves, and none the same as the next
not_next : (bs : List SourceByte) → is_next_source bs bs ≡ false
not_next (x ∷ []) = ap (λ (b : Bool). (x.channel == x.channel) && b) (grind (arith, nat_tests)) ∙ and_right (x.channel == x.channel) false refl
not_next xs = refl

not_same : (d e : ℕ) → same_sources (byte_on d e ∷ []) (byte_on d (e + 1) ∷ []) ≡ false
not_same d e = ap (λ (b : Bool). ((d == d) && b) && true) (other_number e) ∙ and_true ((d == d) && false) ∙ and_right (d == d) false refl

same_itself : (bs : List SourceByte) → same_sources bs bs ≡ true
same_itself [] = refl
same_itself (b ∷ bs) = ap₂ ◌&&◌ (ap₂ ◌&&◌ (eq-eqb b.channel b.channel refl) (eq-eqb b.offset b.offset refl)) (same_itself bs)

-- the next of source bytes is one source byte
next_is_one : (xs ys : List SourceByte) → is_next_source xs ys ≡ true → (length ys == 1) ≡ true
next_is_one (x ∷ []) (y ∷ []) h = refl
next_is_one xs ys h = cc

first_is_one : (xs ys : List SourceByte) → is_next_source xs ys ≡ true → (length xs == 1) ≡ true
first_is_one (x ∷ []) ys h = refl
first_is_one xs ys h = cc

-- ---- one row more

module _ (c d : ℕ) where
  pub moved-push : (o e n : ℕ) → moved_rows c o d e n ++ row_of c (o + n) (byte_on d (e + n) ∷ []) ∷ [] ≡ moved_rows c o d e (suc n)
  moved-push o e zero =
      let p : o + 0 ≡ o = omega arith in
      let q : e + 0 ≡ e = omega arith in
      ap₂ (λ (i j : ℕ). row_of c i (byte_on d j ∷ []) ∷ []) p q
  moved-push o e (suc n) =
      let p : o + suc n ≡ o + 1 + n = omega arith in
      let q : e + suc n ≡ e + 1 + n = omega arith in
      ap (λ (rs : List Row). row_of c o (byte_on d e ∷ []) ∷ rs)
      (ap₂ (λ (i j : ℕ). moved_rows c (o + 1) d (e + 1) n ++ row_of c i (byte_on d j ∷ []) ∷ []) p q ∙ moved-push (o + 1) (e + 1) n)

  -- a row goes on from moved rows by what the last of them has
  moved-go_on : (o e n : ℕ) (r : Row)
      → go_on is_next_source (moved_rows c o d e (suc n) ++ r ∷ [])
      ≡ (is_next_sink (Out (record { channel = c; offset = o + n })) r.sink && is_next_source (byte_on d (e + n) ∷ []) r.sources)
  moved-go_on o e zero r =
      let p : o ≡ o + 0 = omega arith in
      let q : e ≡ e + 0 = omega arith in
      and_true (is_next_sink (Out (record { channel = c; offset = o })) r.sink && is_next_source (byte_on d e ∷ []) r.sources)
      ∙ ap₂ (λ (i j : ℕ). is_next_sink (Out (record { channel = c; offset = i })) r.sink && is_next_source (byte_on d j ∷ []) r.sources) p q
  moved-go_on o e (suc n) r =
      let p : o + 1 + n ≡ o + suc n = omega arith in
      let q : e + 1 + n ≡ e + suc n = omega arith in
      let rest = go_on is_next_source (moved_rows c (o + 1) d (e + 1) (suc n) ++ r ∷ []) in
      ap₂ (λ (a b : Bool). a && b && rest) (next_sink c o) (next_source d e)
      ∙ moved-go_on (o + 1) (e + 1) n r
      ∙ ap₂ (λ (i j : ℕ). is_next_sink (Out (record { channel = c; offset = i })) r.sink && is_next_source (byte_on d j ∷ []) r.sources) p q

  moved-ones : (o e n : ℕ) (r : Row) → list_all has_one (moved_rows c o d e n ++ r ∷ []) ≡ has_one r
  moved-ones o e zero r = and_true (has_one r)
  moved-ones o e (suc n) r = moved-ones (o + 1) (e + 1) n r

module _ (c : ℕ) (bs : List SourceByte) where
  pub shared-push : (o n : ℕ) → shared_rows c o bs n ++ row_of c (o + n) bs ∷ [] ≡ shared_rows c o bs (suc n)
  shared-push o zero = let p : o + 0 ≡ o = omega arith in ap (λ (i : ℕ). row_of c i bs ∷ []) p
  shared-push o (suc n) =
      let p : o + suc n ≡ o + 1 + n = omega arith in
      ap (λ (rs : List Row). row_of c o bs ∷ rs) (ap (λ (i : ℕ). shared_rows c (o + 1) bs n ++ row_of c i bs ∷ []) p ∙ shared-push (o + 1) n)

  shared-go_on : (o n : ℕ) (r : Row)
      → go_on same_sources (shared_rows c o bs (suc n) ++ r ∷ [])
      ≡ (is_next_sink (Out (record { channel = c; offset = o + n })) r.sink && same_sources bs r.sources)
  shared-go_on o zero r =
      let p : o ≡ o + 0 = omega arith in
      and_true (is_next_sink (Out (record { channel = c; offset = o })) r.sink && same_sources bs r.sources)
      ∙ ap (λ (i : ℕ). is_next_sink (Out (record { channel = c; offset = i })) r.sink && same_sources bs r.sources) p
  shared-go_on o (suc n) r =
      let p : o + 1 + n ≡ o + suc n = omega arith in
      let rest = go_on same_sources (shared_rows c (o + 1) bs (suc n) ++ r ∷ []) in
      ap₂ (λ (a b : Bool). a && b && rest) (next_sink c o) (same_itself bs)
      ∙ shared-go_on (o + 1) n r
      ∙ ap (λ (i : ℕ). is_next_sink (Out (record { channel = c; offset = i })) r.sink && same_sources bs r.sources) p

-- ---- which runs go on

-- a row whose sources are the next has one
with_one : (a b h : Bool) → (b ≡ true → h ≡ true) → (h && (a && b)) ≡ (a && b)
with_one a true h one = ap (λ (x : Bool). x && (a && true)) (one refl)
with_one a false h one = ap (λ (x : Bool). h && x) (and_right a false refl) ∙ and_right h false refl ∙ sym (and_right a false refl)

-- moved rows are moved together with a row exactly where it is the next
pub moved-is_moved : (c o d e n : ℕ) (r : Row)
    → is_moved (moved_rows c o d e (suc n) ++ r ∷ [])
    ≡ (is_next_sink (Out (record { channel = c; offset = o + n })) r.sink && is_next_source (byte_on d (e + n) ∷ []) r.sources)
moved-is_moved c o d e n r =
    ap₂ ◌&&◌ (moved-ones c d o e (suc n) r) (moved-go_on c d o e n r)
    ∙ with_one (is_next_sink (Out (record { channel = c; offset = o + n })) r.sink) (is_next_source (byte_on d (e + n) ∷ []) r.sources) (has_one r)
    (next_is_one (byte_on d (e + n) ∷ []) r.sources)

-- two moved rows or more don't share their sources
moved-not_shared : (c o d e n : ℕ) (rs : List Row) → is_shared (moved_rows c o d e (suc (suc n)) ++ rs) ≡ false
moved-not_shared c o d e n rs =
    let rest = go_on same_sources (moved_rows c (o + 1) d (e + 1) (suc n) ++ rs) in
    ap₂ (λ (a b : Bool). a && b && rest) (next_sink c o) (not_same d e)

pub moved-is_run : (c o d e n : ℕ) (r : Row)
    → is_run (moved_rows c o d e (suc (suc n)) ++ r ∷ [])
    ≡ (is_next_sink (Out (record { channel = c; offset = o + suc n })) r.sink && is_next_source (byte_on d (e + suc n) ∷ []) r.sources)
moved-is_run c o d e n r =
    ap₂ ◌||◌ (moved-is_moved c o d e (suc n) r) (moved-not_shared c o d e n (r ∷ []))
    ∙ or-false (is_next_sink (Out (record { channel = c; offset = o + suc n })) r.sink && is_next_source (byte_on d (e + suc n) ∷ []) r.sources)

-- two rows or more that share their sources aren't moved
pub shared-not_moved : (c o : ℕ) (bs : List SourceByte) (n : ℕ) (rs : List Row) → is_moved (shared_rows c o bs (suc (suc n)) ++ rs) ≡ false
shared-not_moved c o bs n rs =
    let rest = go_on is_next_source (shared_rows c (o + 1) bs (suc n) ++ rs) in
    let ones = list_all has_one (shared_rows c o bs (suc (suc n)) ++ rs) in
    ap₂ (λ (a b : Bool). ones && (a && b && rest)) (next_sink c o) (not_next bs) ∙ and_right ones false refl

pub shared-is_run : (c o : ℕ) (bs : List SourceByte) (n : ℕ) (r : Row)
    → is_run (shared_rows c o bs (suc (suc n)) ++ r ∷ [])
    ≡ (is_next_sink (Out (record { channel = c; offset = o + suc n })) r.sink && same_sources bs r.sources)
shared-is_run c o bs n r = ap₂ ◌||◌ (shared-not_moved c o bs n (r ∷ [])) (shared-go_on c bs o (suc n) r)

-- one row goes on by either
one-is_moved : (c o : ℕ) (bs : List SourceByte) (r : Row)
    → is_moved (row_of c o bs ∷ r ∷ []) ≡ (is_next_sink (Out (record { channel = c; offset = o })) r.sink && is_next_source bs r.sources)
one-is_moved c o bs r =
    let a = is_next_sink (Out (record { channel = c; offset = o })) r.sink in
    let b = is_next_source bs r.sources in
    ap₂ (λ (x y : Bool). (has_one (row_of c o bs) && x) && y) (and_true (has_one r)) (and_true (a && b))
    ∙ with_one a b (has_one (row_of c o bs) && has_one r)
    (λ h. ap₂ ◌&&◌ (first_is_one bs r.sources h) (next_is_one bs r.sources h))

either : (a b s : Bool) → ((a && b) || (a && s)) ≡ (a && (b || s))
either true b s = refl
either false b s = refl

pub one-is_run : (c o : ℕ) (bs : List SourceByte) (r : Row)
    → is_run (row_of c o bs ∷ r ∷ [])
    ≡ (is_next_sink (Out (record { channel = c; offset = o })) r.sink && (is_next_source bs r.sources || same_sources bs r.sources))
one-is_run c o bs r =
    let a = is_next_sink (Out (record { channel = c; offset = o })) r.sink in
    let s = same_sources bs r.sources in
    ap₂ ◌||◌ (one-is_moved c o bs r) (and_true (a && s)) ∙ either a (is_next_source bs r.sources) s

-- ---- moved rows as a whole

pub moved-is : (c o d e n : ℕ) → is_moved (moved_rows c o d e n) ≡ true
moved-is c o d e zero = refl
moved-is c o d e (suc zero) = refl
moved-is c o d e (suc (suc n)) =
    ap₂ ◌&&◌ (ones o e (suc (suc n))) (steps o e (suc n))
  where
    ones : (o e n : ℕ) → list_all has_one (moved_rows c o d e n) ≡ true
    ones o e zero = refl
    ones o e (suc n) = ones (o + 1) (e + 1) n

    steps : (o e n : ℕ) → go_on is_next_source (moved_rows c o d e (suc n)) ≡ true
    steps o e zero = refl
    steps o e (suc n) =
        let rest = go_on is_next_source (moved_rows c (o + 1) d (e + 1) (suc n)) in
        ap₂ (λ (a b : Bool). a && b && rest) (next_sink c o) (next_source d e) ∙ steps (o + 1) (e + 1) n

pub moved-sources : (c o d e n : ℕ) → flat_map (λ (r : Row). r.sources) (moved_rows c o d e n) ≡ bytes_from d e n
moved-sources c o d e zero = refl
moved-sources c o d e (suc n) = ap (λ (bs : List SourceByte). byte_on d e ∷ bs) (moved-sources c (o + 1) d (e + 1) n)

pub length-moved : (c o d e n : ℕ) → length (moved_rows c o d e n) ≡ n
length-moved c o d e zero = refl
length-moved c o d e (suc n) = ap suc (length-moved c (o + 1) d (e + 1) n)

pub length-shared : (c o : ℕ) (bs : List SourceByte) (n : ℕ) → length (shared_rows c o bs n) ≡ n
length-shared c o bs zero = refl
length-shared c o bs (suc n) = ap suc (length-shared c (o + 1) bs n)

-- ---- the tests of runs in short

pub shared-test : (c o : ℕ) (bs : List SourceByte) (n t : ℕ) (r : Row) → 1 ≤ t → t + 1 ≡ n
    → is_run (shared_rows c o bs n ++ r ∷ [])
    ≡ (is_next_sink (Out (record { channel = c; offset = o + t })) r.sink && same_sources bs r.sources)
shared-test c o bs n zero r low e = absurd (omega arith)
shared-test c o bs n (suc m) r low e =
    let count : n ≡ suc (suc m) = omega (arith, e) in
    ap (λ (k : ℕ). is_run (shared_rows c o bs k ++ r ∷ [])) count ∙ shared-is_run c o bs m r

pub moved-test : (c o d e n t : ℕ) (r : Row) → 1 ≤ t → t + 1 ≡ n
    → is_run (moved_rows c o d e n ++ r ∷ [])
    ≡ (is_next_sink (Out (record { channel = c; offset = o + t })) r.sink && is_next_source (byte_on d (e + t) ∷ []) r.sources)
moved-test c o d e n zero r low h = absurd (omega arith)
moved-test c o d e n (suc m) r low h =
    let count : n ≡ suc (suc m) = omega (arith, h) in
    ap (λ (k : ℕ). is_run (moved_rows c o d e k ++ r ∷ [])) count ∙ moved-is_run c o d e m r

-- rows that share their sources aren't moved, and have the sources of the first
pub shared-origin : (c o : ℕ) (bs : List SourceByte) (n : ℕ) → 2 ≤ n
    → (is_moved (shared_rows c o bs n) ≡ false) × (sources_of (shared_rows c o bs n) ≡ bs)
shared-origin c o bs zero low = absurd (omega arith)
shared-origin c o bs (suc zero) low = absurd (omega arith)
shared-origin c o bs (suc (suc n)) low =
    let rs = shared_rows c o bs (suc (suc n)) in
    let moved : is_moved rs ≡ false = ap is_moved (sym (append-nil rs)) ∙ shared-not_moved c o bs n [] in
    (moved, ap (λ (b : Bool). if b then flat_map (λ (r : Row). r.sources) rs else bs) moved)

-- ---- the derived test of source bytes

abbrev pub alike : SourceByte → SourceByte → Bool
alike = test.eq-value.it

pub alike-same : (xs ys : List SourceByte) → pointwise alike xs ys ≡ same_sources xs ys
alike-same [] [] = refl
alike-same (x ∷ xs) (y ∷ ys) = ap (λ (b : Bool). (alike x y) && b) (alike-same xs ys)
alike-same xs ys = refl

pub same-sources : (xs ys : List SourceByte) → same_sources xs ys ≡ true → xs ≡ ys
same-sources xs ys h = equal_sources xs ys (alike-same xs ys ∙ h)

-- lists that differ, or don't
pub differ : (xs ys : List SourceByte) → (xs ≡ ys → ⊥) → same_sources xs ys ≡ false
differ xs ys other = by (same_sources xs ys) refl
  where
    by : (b : Bool) → same_sources xs ys ≡ b → b ≡ false
    by true e = absurd (other (same-sources xs ys e))
    by false e = refl

pub agree : (xs ys : List SourceByte) → xs ≡ ys → same_sources xs ys ≡ true
agree xs ys e = ap (same_sources xs) (sym e) ∙ same_itself xs
