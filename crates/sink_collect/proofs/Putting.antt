-- The names of the source bytes of ranges, and their lines, put one after another.
use Rattle.std.proofs.Common.{◌≡◌, ◌∙◌, refl, ap, sym, subst, arith, ℕ, ◌+◌, ◌-◌, ◌*◌, ◌<◌, ◌≤◌, List, [], ◌∷◌, ◌++◌, map, Result, ap₂, length, get_or, take}
use Rattle.std.specs.List.{flat_map, range_with_len}
use Rattle.std.proofs.lemmas.List.Concat.{flat_map-cons, flat_map-append}
use Rattle.report_model.specs.Text.{source_text}
use Rattle.source_ranges.specs.declared.SourceRange.{SourceRange}
use Rattle.source_ranges.specs.Ranges.{byte_on, bytes_of}
use Rattle.source_ranges.proofs.Kept.{range, bytes-none, bytes-split, length-bytes}
use Rattle.printed_names.specs.Tens.{ten_bytes}
use Rattle.outer_io.specs.Pieces.{Putting, Laws, Puts}
use Rattle.outer_io.proofs.PiecesLemmas.{puts-then, puts-more, puts-some}
use Rattle.std.proofs.lemmas.List.{take_all}
use Rattle.std.proofs.lemmas.List.Folds.{flat_map-map}
use Rattle.std.proofs.lemmas.List.FromFn.{get_or-map-range_with_len}
use Rattle.flow_model.specs.declared.SourceByte.{SourceByte}
use Rattle.report_model.specs.Influence.{reach_text}
use Rattle.sink_collect.specs.Reaching.{Stretch, reach_of, reaches_in, line_of}

-- ---- ranges

abbrev pub names_of : SourceRange → List ℕ
names_of r = flat_map source_text (bytes_of r)

pub names_of_ranges : (rs : List SourceRange) → flat_map source_text (flat_map bytes_of rs) ≡ flat_map names_of rs
names_of_ranges [] = refl
names_of_ranges (r ∷ rs) =
    ap (flat_map source_text) (flat_map-cons bytes_of r rs)
    ∙ flat_map-append source_text (bytes_of r) (flat_map bytes_of rs)
    ∙ ap (λ (text : List ℕ). names_of r ++ text) (names_of_ranges rs)
    ∙ sym (flat_map-cons names_of r rs)

-- ---- tens

abbrev pub tens_of : ℕ → ℕ → ℕ → SourceRange
tens_of channel from past = record { channel = channel; from = 10 * from; past = 10 * past }

pub no_tens : (channel from : ℕ) → names_of (tens_of channel from from) ≡ []
no_tens channel from = ap (flat_map source_text) (bytes-none channel (10 * from) (10 * from) (omega arith))

-- the names of one ten, which are those of ten source bytes
abbrev pub names_of_ten : ℕ → ℕ → List ℕ
names_of_ten channel tens = flat_map source_text (ten_bytes channel tens)

one_ten : (channel tens : ℕ) → names_of_ten channel tens ≡ names_of (tens_of channel tens (tens + 1))
one_ten channel tens =
    let ten : 10 ≡ 10 * (tens + 1) - 10 * tens = omega arith in
    ap (λ (n : ℕ). flat_map source_text (map (byte_on channel) (range_with_len (10 * tens) n))) ten

-- the names of a range up to an offset, and from it on
names-split : (c a o p : ℕ) → a ≤ o → o ≤ p → names_of (range c a p) ≡ names_of (range c a o) ++ names_of (range c o p)
names-split c a o p low high =
    ap (flat_map source_text) (bytes-split c a o p low high) ∙ flat_map-append source_text (bytes_of (range c a o)) (bytes_of (range c o p))

module _ {S : Type 0} (putting : Putting S) (laws : Laws putting) where
  module _ (channel from tens past : ℕ) (low : from ≤ tens) (inside : tens < past) (s t u : S) (put : putting.whole s (names_of (tens_of channel from tens)) t) where
    more : names_of (tens_of channel from tens) ++ names_of_ten channel tens ≡ names_of (tens_of channel from (tens + 1))
    more =
        ap (λ (text : List ℕ). names_of (tens_of channel from tens) ++ text) (one_ten channel tens)
        ∙ sym (names-split channel (10 * from) (10 * tens) (10 * (tens + 1)) (omega (arith, low)) (omega arith))

    -- one ten more
    pub more_tens : putting.whole t (names_of_ten channel tens) u → putting.whole s (names_of (tens_of channel from (tens + 1))) u
    more_tens ten =
        subst (λ (text : List ℕ). putting.whole s text u) more
        (laws.whole_then s t u (names_of (tens_of channel from tens)) (names_of_ten channel tens) put ten)

    -- or a part of it
    pub some_tens : putting.part t (names_of_ten channel tens) u → putting.part s (names_of (tens_of channel from past)) u
    some_tens ten =
        subst (λ (text : List ℕ). putting.part s text u)
        (sym (names-split channel (10 * from) (10 * (tens + 1)) (10 * past) (omega (arith, low)) (omega (arith, inside))))
        (laws.part_first s u (names_of (tens_of channel from (tens + 1))) (names_of (tens_of channel (tens + 1) past))
        (subst (λ (text : List ℕ). putting.part s text u) more
        (laws.part_then s t u (names_of (tens_of channel from tens)) (names_of_ten channel tens) put ten)))

  -- the names of a range in three parts, at two offsets
  module _ (c a o q p : ℕ) (low : a ≤ o) (middle : o ≤ q) (high : q ≤ p) where
    abbrev before : List ℕ
    before = names_of (range c a o)

    abbrev between : List ℕ
    between = names_of (range c o q)

    abbrev after : List ℕ
    after = names_of (range c q p)

    three : (before ++ between) ++ after ≡ names_of (range c a p)
    three =
        ap (λ (text : List ℕ). text ++ after) (sym (names-split c a o q low middle))
        ∙ sym (names-split c a q p (omega (arith, low, middle)) high)

    pub some_before : (s t : S) → putting.part s before t → putting.part s (names_of (range c a p)) t
    some_before s t first =
        subst (λ (text : List ℕ). putting.part s text t) three
        (laws.part_first s t (before ++ between) after (laws.part_first s t before between first))

    pub some_between : (s t u : S) → putting.whole s before t → putting.part t between u → putting.part s (names_of (range c a p)) u
    some_between s t u first second =
        subst (λ (text : List ℕ). putting.part s text u) three
        (laws.part_first s u (before ++ between) after (laws.part_then s t u before between first second))

    pub all_three : {F : Type 0} (s t u v : S) (r : Result (Unit {0}) F) → putting.whole s before t → putting.whole t between u → Puts putting u after v r
        → Puts putting s (names_of (range c a p)) v r
    all_three s t u v r first second third =
        subst (λ (text : List ℕ). Puts putting s text v r) three
        (puts-then putting laws s u v (before ++ between) after r (laws.whole_then s t u before between first second) third)

-- ---- lines

-- the texts of those bytes of a range that have a smaller offset
abbrev pub texts_before : (SourceByte → List ℕ) → SourceRange → ℕ → List ℕ
texts_before text r offset = flat_map text (take (offset - r.from) (bytes_of r))

module _ (text : SourceByte → List ℕ) (r : SourceRange) (offset : ℕ) where
  -- at its end these are all
  pub all_texts : r.past ≤ offset → texts_before text r offset ≡ flat_map text (bytes_of r)
  all_texts past = ap (flat_map text) (take_all (offset - r.from) (bytes_of r) (omega (arith, past, length-bytes r)))

  module _ {S : Type 0} (putting : Putting S) (laws : Laws putting) (low : r.from ≤ offset) (inside : offset < r.past) (s t u : S)
      (put : putting.whole s (texts_before text r offset) t) where
    abbrev byte : SourceByte
    byte = byte_on r.channel offset

    abbrev place : ℕ
    place = offset - r.from

    there : place < length (bytes_of r)
    there = omega (arith, low, inside, length-bytes r)

    is : byte ≡ get_or (bytes_of r) place byte
    is = sym (get_or-map-range_with_len (byte_on r.channel) r.from (r.past - r.from) place offset byte (omega (arith, low, inside)) (omega (arith, low)))

    -- one more
    pub one_more_text : putting.whole t (text byte) u → putting.whole s (texts_before text r (offset + 1)) u
    one_more_text more =
        let next : place + 1 ≡ offset + 1 - r.from = omega (arith, low) in
        subst (λ (n : ℕ). putting.whole s (flat_map text (take n (bytes_of r))) u) next
        (puts-more putting laws text (bytes_of r) place byte s t u there is put more)

    -- or a part of it
    pub some_texts : putting.part t (text byte) u → putting.part s (flat_map text (bytes_of r)) u
    some_texts more = puts-some putting laws text (bytes_of r) place byte s t u there is put more

abbrev pub lines_of : Stretch → List ℕ
lines_of r = flat_map (line_of r.sinks) (bytes_of r.range)

pub lines_of_ranges : (rs : List Stretch) → flat_map reach_text (flat_map reaches_in rs) ≡ flat_map lines_of rs
lines_of_ranges [] = refl
lines_of_ranges (r ∷ rs) =
    flat_map-append reach_text (reaches_in r) (flat_map reaches_in rs)
    ∙ ap₂ (λ (xs ys : List ℕ). xs ++ ys) (flat_map-map reach_text (reach_of r.sinks) (bytes_of r.range)) (lines_of_ranges rs)
