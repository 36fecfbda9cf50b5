-- Rows, told apart by their text as a page has it.
use Rattle.std.proofs.Common.{◌≡◌, ◌∙◌, ap, ap₂, sym, refl, arith, ℕ, ◌≤◌, Bool, true, false, ◌==◌, if◌then◌else◌, List, [], ◌∷◌, ◌++◌, length, append_assoc, drop}
use Rattle.std.specs.Prelude.{codes, Option, Some, None}
use Rattle.std.specs.List.{flat_map, AllByRecursion}
use Rattle.std.specs.Char.{digit_value}
use Rattle.std.proofs.lemmas.Bool.{and_parts}
use Rattle.std.proofs.lemmas.Bool.Decides.{nat_tests}
use Rattle.lists.proofs.Lists.{same-heads, same-tails}
use Rattle.flow_model.specs.declared.Loc.{Loc}
use Rattle.flow_model.specs.declared.Loc.TheVariants.{Reg, Mem}
use Rattle.flow_model.specs.declared.SourceByte.{SourceByte}
use Rattle.flow_model.specs.declared.InnerSink.{InnerSink}
use Rattle.flow_model.specs.declared.SinkPoint.{SinkPoint}
use Rattle.flow_model.specs.declared.SinkPoint.TheVariants.{Out, At}
use Rattle.log_model.specs.Logs.{Log}
use Rattle.report_model.specs.Rows.{Row}
use Rattle.report_model.specs.Text.{point_text}
use Rattle.run_output.specs.Summary.{number_line}
use Rattle.source_ranges.specs.declared.SourceRange.{SourceRange}
use Rattle.source_ranges.specs.Ranges.{bytes_of, range_of, is_just_before, with_byte, ranges_of}
use Rattle.source_ranges.proofs.Longest.{ranges_hold_bytes}
use Rattle.page_data.specs.Rows.{range_word, ranges_text, is_next_address, is_next, are_moved, goes_on, whole_row, row_after, rows_after, joined_rows}
use Rattle.page_data.specs.Data.{Asked, run_text, told_text, data_text}
use Rattle.page_data.specs.PageLaws.{IsSmallSource, IsSmallRow, DataTellReports}
use Rattle.page_data.proofs.MovedRanges.{moved_is}
use Rattle.page_data.proofs.Told.{IsSmallRange, Stopped, stopped, same_ranges, same_point, point_begins}

-- ---- a row that goes on is known from the row before it

moved_once : (n : ℕ) (xs ys zs : List SourceByte) → are_moved n xs ys ≡ true → are_moved n xs zs ≡ true → ys ≡ zs
moved_once n xs ys zs e f = moved_is n xs ys e ∙ sym (moved_is n xs zs f)

next_address : (l a b : Loc) → is_next_address l a ≡ true → is_next_address l b ≡ true → a ≡ b
next_address (Mem p) (Mem a) (Mem b) e f = let s : a ≡ b = grind (arith, nat_tests) in ap (λ (x : ℕ). Mem x) s
next_address (Reg r i) (Mem a) b e f = absurd cc
next_address l a b e f = absurd cc

next_sink : (p q r : SinkPoint) → is_next p q ≡ true → is_next p r ≡ true → q ≡ r
next_sink (Out a) (Out b) (Out c) e f =
    let x : b.channel ≡ c.channel = grind (arith, nat_tests) in
    let y : b.offset ≡ c.offset = grind (arith, nat_tests) in
    ap₂ (λ (c o : ℕ). Out (record { channel = c; offset = o })) x y
next_sink (At p) (At q) (At r) e f =
    let x = and_parts (p.time == q.time) (is_next_address p.loc q.loc) e in
    let y = and_parts (p.time == r.time) (is_next_address p.loc r.loc) f in
    let t : q.time ≡ r.time = grind (arith, nat_tests, x.0, y.0) in
    ap (λ (z : InnerSink). At z) (ap₂ (λ (l : Loc) (s : ℕ). record { time = s; loc = l }) (next_address p.loc q.loc r.loc x.1 y.1) t)
next_sink p q r e f = absurd cc

row_once : (n : ℕ) (before r s : Row) → goes_on n before r ≡ true → goes_on n before s ≡ true → r ≡ s
row_once n before r s e f =
    let p = and_parts (is_next before.sink r.sink) (are_moved n before.sources r.sources) e in
    let q = and_parts (is_next before.sink s.sink) (are_moved n before.sources s.sources) f in
    ap₂ (λ (k : SinkPoint) (xs : List SourceByte). record { sink = k; sources = xs })
    (next_sink before.sink r.sink s.sink p.0 q.0) (moved_once n before.sources r.sources s.sources p.1 q.1)

-- ---- a whole row, and what follows it

small_ranges : (bs : List SourceByte) → AllByRecursion IsSmallSource bs → AllByRecursion IsSmallRange (ranges_of bs)
small_ranges [] h = tt
small_ranges (b ∷ bs) h = by b (ranges_of bs) h.0 (small_ranges bs h.1)
  where
    by : (b : SourceByte) (rs : List SourceRange) → IsSmallSource b → AllByRecursion IsSmallRange rs → AllByRecursion IsSmallRange (with_byte b rs)
    by b [] k ks = ((omega (arith, k.0), omega (arith, k.1), omega (arith, k.1)), tt)
    by b (r ∷ rs) k ks = either (is_just_before b r)
      where
        either : (t : Bool) → AllByRecursion IsSmallRange (if t then record { channel = r.channel; from = b.offset; past = r.past } ∷ rs else range_of b ∷ r ∷ rs)
        either true = ((ks.0.0, omega (arith, k.1), ks.0.2), ks.1)
        either false = ((omega (arith, k.0), omega (arith, k.1), omega (arith, k.1)), ks)

same_whole : (r s : Row) (u v : List ℕ) → IsSmallRow r → IsSmallRow s → whole_row r ++ u ≡ whole_row s ++ v → (r ≡ s) × (u ≡ v)
same_whole r s u v hr hs e =
    let after : Row → List ℕ → List ℕ = λ x w. ranges_text x.sources ++ 0x0a ∷ w in
    let flat : (x : Row) (w : List ℕ) → whole_row x ++ w ≡ point_text x.sink ++ after x w = λ x w.
    append_assoc (point_text x.sink ++ ranges_text x.sources) (0x0a ∷ []) w ∙ append_assoc (point_text x.sink) (ranges_text x.sources) (0x0a ∷ w) in
    let p = same_point r.sink s.sink (after r u) (after s v) hr.0 hs.0 (begins (ranges_of r.sources) u) (begins (ranges_of s.sources) v) (sym (flat r u) ∙ e ∙ flat s v) in
    let q = same_ranges (ranges_of r.sources) (ranges_of s.sources) u v (small_ranges r.sources hr.1) (small_ranges s.sources hs.1) p.1 in
    let sources : r.sources ≡ s.sources = sym (ranges_hold_bytes r.sources).bytes ∙ ap (flat_map bytes_of) q.0 ∙ (ranges_hold_bytes s.sources).bytes in
    (ap₂ (λ (k : SinkPoint) (xs : List SourceByte). record { sink = k; sources = xs }) p.0 sources, q.1)
  where
    begins : (rs : List SourceRange) (w : List ℕ) → Stopped (flat_map range_word rs ++ 0x0a ∷ w)
    begins [] w = stopped 0x0a w (omega arith)
    begins (x ∷ rs) w = record { first = 0x20; rest = _; parts = refl; stop = omega arith }

-- a whole row begins with none of these: `=`, `+`, `p`
no_whole : (r : Row) (u : List ℕ) (k : ℕ) (w : List ℕ) → IsSmallRow r → 10 ≤ digit_value k → (k ≡ 0x72 → ⊥) → (k ≡ 0x6d → ⊥) → whole_row r ++ u ≡ k ∷ w → ⊥
no_whole r u k w h hk a b e =
    point_begins r.sink (ranges_text r.sources ++ 0x0a ∷ u) k w h.0 hk a b
    (sym (append_assoc (point_text r.sink ++ ranges_text r.sources) (0x0a ∷ []) u ∙ append_assoc (point_text r.sink) (ranges_text r.sources) (0x0a ∷ u)) ∙ e)

-- ---- a row after another one, and what follows it

-- how a row stands: as one byte that says how it goes on, or whole
data Standing (before : Option Row) (r : Row) : Type 0 where
  alike : (b : Row) → before ≡ Some b → goes_on 0 b r ≡ true → row_after before r ≡ 0x3d ∷ [] → Standing before r
  onward : (b : Row) → before ≡ Some b → goes_on 1 b r ≡ true → row_after before r ≡ 0x2b ∷ [] → Standing before r
  whole : row_after before r ≡ whole_row r → Standing before r

standing : (before : Option Row) (r : Row) → Standing before r
standing None r = whole refl
standing (Some b) r = by (goes_on 0 b r) refl (goes_on 1 b r) refl
  where
    text : Bool → Bool → List ℕ
    text x y = if x then codes "=" else if y then codes "+" else whole_row r

    by : (x : Bool) → goes_on 0 b r ≡ x → (y : Bool) → goes_on 1 b r ≡ y → Standing (Some b) r
    by true e y f = alike b refl e (ap (λ (z : Bool). text z (goes_on 1 b r)) e)
    by false e true f = onward b refl f (ap₂ text e f)
    by false e false f = whole (ap₂ text e f)

some_once : (a b : Row) (o : Option Row) → o ≡ Some a → o ≡ Some b → a ≡ b
some_once a b o e f = cc

-- two rows after the same row, with the same text
same_row : (before : Option Row) (r s : Row) (u v : List ℕ) → IsSmallRow r → IsSmallRow s → row_after before r ++ u ≡ row_after before s ++ v → (r ≡ s) × (u ≡ v)
same_row before r s u v hr hs e = by (standing before r) (standing before s)
  where
    put : (a b : List ℕ) → row_after before r ≡ a → row_after before s ≡ b → a ++ u ≡ b ++ v
    put a b f g = ap (λ (x : List ℕ). x ++ u) (sym f) ∙ e ∙ ap (λ (x : List ℕ). x ++ v) g

    from : (n : ℕ) (a b : Row) → before ≡ Some a → before ≡ Some b → goes_on n a r ≡ true → goes_on n b s ≡ true → r ≡ s
    from n a b f g p q = row_once n a r s p (ap (λ (x : Row). goes_on n x s) (some_once a b before f g) ∙ q)

    by : Standing before r → Standing before s → (r ≡ s) × (u ≡ v)
    by (alike a f p x) (alike b g q y) = (from 0 a b f g p q, same-tails 0x3d 0x3d u v (put (0x3d ∷ []) (0x3d ∷ []) x y))
    by (onward a f p x) (onward b g q y) = (from 1 a b f g p q, same-tails 0x2b 0x2b u v (put (0x2b ∷ []) (0x2b ∷ []) x y))
    by (whole x) (whole y) = same_whole r s u v hr hs (put (whole_row r) (whole_row s) x y)
    by (alike a f p x) (onward b g q y) = absurd (let z = same-heads 0x3d 0x2b u v (put (0x3d ∷ []) (0x2b ∷ []) x y) in omega (arith, z))
    by (onward a f p x) (alike b g q y) = absurd (let z = same-heads 0x2b 0x3d u v (put (0x2b ∷ []) (0x3d ∷ []) x y) in omega (arith, z))
    by (alike a f p x) (whole y) = absurd (no_whole s v 0x3d u hs (omega arith) (λ z. omega (arith, z)) (λ z. omega (arith, z)) (sym (put (0x3d ∷ []) (whole_row s) x y)))
    by (onward a f p x) (whole y) = absurd (no_whole s v 0x2b u hs (omega arith) (λ z. omega (arith, z)) (λ z. omega (arith, z)) (sym (put (0x2b ∷ []) (whole_row s) x y)))
    by (whole x) (alike b g q y) = absurd (no_whole r u 0x3d v hr (omega arith) (λ z. omega (arith, z)) (λ z. omega (arith, z)) (put (whole_row r) (0x3d ∷ []) x y))
    by (whole x) (onward b g q y) = absurd (no_whole r u 0x2b v hr (omega arith) (λ z. omega (arith, z)) (λ z. omega (arith, z)) (put (whole_row r) (0x2b ∷ []) x y))

-- no row begins with `p`, with which what is told beside the rows does
no_row : (before : Option Row) (r : Row) (u w : List ℕ) → IsSmallRow r → row_after before r ++ u ≡ 0x70 ∷ w → ⊥
no_row before r u w h e = by (standing before r)
  where
    by : Standing before r → ⊥
    by (alike a f p x) = let z = same-heads 0x3d 0x70 u w (ap (λ (y : List ℕ). y ++ u) (sym x) ∙ e) in omega (arith, z)
    by (onward a f p x) = let z = same-heads 0x2b 0x70 u w (ap (λ (y : List ℕ). y ++ u) (sym x) ∙ e) in omega (arith, z)
    by (whole x) = no_whole r u 0x70 w h (omega arith) (λ z. omega (arith, z)) (λ z. omega (arith, z)) (ap (λ (y : List ℕ). y ++ u) (sym x) ∙ e)

same_rows : (before : Option Row) (rs ss : List Row) (u v : List ℕ) → AllByRecursion IsSmallRow rs → AllByRecursion IsSmallRow ss
    → rows_after before rs ++ 0x70 ∷ u ≡ rows_after before ss ++ 0x70 ∷ v → rs ≡ ss
same_rows before [] [] u v hr hs e = refl
same_rows before [] (s ∷ ss) u v hr hs e = absurd (no_row before s _ u hs.0 (sym (append_assoc (row_after before s) (rows_after (Some s) ss) (0x70 ∷ v)) ∙ sym e))
same_rows before (r ∷ rs) [] u v hr hs e = absurd (no_row before r _ v hr.0 (sym (append_assoc (row_after before r) (rows_after (Some r) rs) (0x70 ∷ u)) ∙ e))
same_rows before (r ∷ rs) (s ∷ ss) u v hr hs e =
    let a = rows_after (Some r) rs ++ 0x70 ∷ u in
    let b = rows_after (Some s) ss ++ 0x70 ∷ v in
    let one = same_row before r s a b hr.0 hs.0
    (sym (append_assoc (row_after before r) (rows_after (Some r) rs) (0x70 ∷ u)) ∙ e ∙ append_assoc (row_after before s) (rows_after (Some s) ss) (0x70 ∷ v)) in
    let rest = same_rows (Some r) rs ss u v hr.1 hs.1 (one.1 ∙ ap (λ (x : Row). rows_after (Some x) ss ++ 0x70 ∷ v) (sym one.0)) in
    ap₂ (λ (z : Row) (zs : List Row). z ∷ zs) one.0 rest

-- ---- the data

-- what is told beside the rows begins with `p`
record BeginsWithP (xs : List ℕ) : Type 0 where
  rest : List ℕ
  parts : xs ≡ 0x70 ∷ rest

told_begins : (a : Asked) (log : Log) → BeginsWithP (told_text a log)
unfolding told_text run_text
told_begins a log = record { rest = _; parts = refl }

after_rows : (a : Asked) (log : Log) (rs : List Row) → drop 16 (data_text a log rs) ≡ joined_rows rs ++ 0x70 ∷ ((told_begins a log).rest ++ number_line (codes "end") (length rs))
after_rows a log rs =
    let t = told_begins a log in
    let line = number_line (codes "end") (length rs) in
    append_assoc (joined_rows rs) (told_text a log) line ∙ ap (λ (x : List ℕ). joined_rows rs ++ (x ++ line)) t.parts

pub data_tell : DataTellReports
data_tell a b log other rs ss hr hs e =
    same_rows None rs ss ((told_begins a log).rest ++ number_line (codes "end") (length rs)) ((told_begins b other).rest ++ number_line (codes "end") (length ss)) hr hs
    (sym (after_rows a log rs) ∙ ap (drop 16) e ∙ after_rows b other ss)
