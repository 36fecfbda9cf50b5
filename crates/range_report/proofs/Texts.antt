-- What the line of a moved run tells. Crates above cite `one_range`, `next_sink-is` and `next_source-is`.
use Rattle.std.proofs.Common.{◌≡◌, ℕ, zero, suc, ◌+◌, ◌-◌, ◌<◌, ◌≤◌, ◌==◌, Bool, true, ◌&&◌, List, [], ◌∷◌, ◌++◌, length, get_or, take, drop, refl, sym, ap, ap₂, ◌∙◌, arith, eqb-true, append-nil}
use Rattle.std.specs.Prelude.{if◌then◌else◌}
use Rattle.std.specs.List.{flat_map, list_all}
use Rattle.std.proofs.lemmas.Bool.{and_parts}
use Rattle.std.proofs.lemmas.List.{drop_more}
use Rattle.log_model.specs.declared.CallRecord.{CallRecord}
use Rattle.log_model.specs.Moved.{received, written}
use Rattle.flow_model.specs.declared.SourceByte.{SourceByte}
use Rattle.flow_model.specs.declared.SinkPoint.{SinkPoint}
use Rattle.flow_model.specs.declared.SinkPoint.TheVariants.{Out, At}
use Rattle.report_model.specs.Rows.{Row}
use Rattle.source_ranges.specs.Ranges.{ranges_of}
use Rattle.source_ranges.proofs.Longest.{bytes_from, ranges-front}
use Rattle.range_report.specs.declared.RunKind.TheVariants.{Same, Changed, Shared}
use Rattle.range_report.specs.Runs.{is_next_sink, is_next_source, go_on, has_one, is_moved}
use Rattle.range_report.specs.Text.{byte_of, sources_of, byte_written, byte_received, holds_sources, kind_of}
use Rattle.range_report.specs.RunLaws.{SameHoldsRange}

-- bytes of one range are one range
pub one_range : (d e n : ℕ) → ranges_of (bytes_from d e (suc n)) ≡ record { channel = d; from = e; past = e + suc n } ∷ []
one_range d e n = ap ranges_of (sym (append-nil (bytes_from d e (suc n)))) ∙ ranges-front d e n [] tt

-- two stretches of bytes that are the same at each place
same_slices : (xs ys : List ℕ) (a b n : ℕ) → a + n ≤ length xs → b + n ≤ length ys → ((i : ℕ) → i < n → get_or xs (a + i) 0 ≡ get_or ys (b + i) 0)
    → take n (drop a xs) ≡ take n (drop b ys)
same_slices xs ys a b zero low high each = refl
same_slices xs ys a b (suc n) low high each =
    let p : a + 0 ≡ a = omega arith in
    let q : b + 0 ≡ b = omega arith in
    let first : get_or xs a 0 ≡ get_or ys b 0 =
    ap (λ (i : ℕ). get_or xs i 0) (sym p) ∙ each 0 (omega arith) ∙ ap (λ (i : ℕ). get_or ys i 0) q in
    let rest = same_slices xs ys (a + 1) (b + 1) n (omega arith) (omega arith) (λ i h.
    let s : a + suc i ≡ a + 1 + i = omega arith in
    let t : b + suc i ≡ b + 1 + i = omega arith in
    ap (λ (j : ℕ). get_or xs j 0) (sym s) ∙ each (suc i) (omega arith) ∙ ap (λ (j : ℕ). get_or ys j 0) t) in
    ap (take (suc n)) (drop_more xs a 0 (omega arith))
    ∙ ap₂ (λ (x : ℕ) (zs : List ℕ). x ∷ zs) first rest
    ∙ sym (ap (take (suc n)) (drop_more ys b 0 (omega arith)))

-- ---- a row that is the next

pub next_sink-is : (p q : SinkPoint) → is_next_sink p q ≡ true → ((byte_of p).channel ≡ (byte_of q).channel) × ((byte_of p).offset + 1 ≡ (byte_of q).offset)
next_sink-is (Out a) (Out b) h =
    let parts = and_parts (a.channel == b.channel) (a.offset + 1 == b.offset) h in
    (eqb-true a.channel b.channel parts.0, eqb-true (a.offset + 1) b.offset parts.1)
next_sink-is (Out a) (At q) h = cc
next_sink-is (At p) q h = cc

pub record IsNext (x : SourceByte) (ys : List SourceByte) : Type 0 where
  pub byte : SourceByte
  pub alone : ys ≡ byte ∷ []
  pub channel : x.channel ≡ byte.channel
  pub offset : x.offset + 1 ≡ byte.offset

pub next_source-is : (x : SourceByte) (ys : List SourceByte) → is_next_source (x ∷ []) ys ≡ true → IsNext x ys
next_source-is x [] h = cc
next_source-is x (y ∷ z ∷ ys) h = cc
next_source-is x (y ∷ []) h =
    let parts = and_parts (x.channel == y.channel) (x.offset + 1 == y.offset) h in
    record { byte = y; alone = refl; channel = eqb-true x.channel y.channel parts.0; offset = eqb-true (x.offset + 1) y.offset parts.1 }

-- ---- moved rows

-- their sources are those of one range
sources-moved : (r : Row) (rs : List Row) (x : SourceByte) → r.sources ≡ x ∷ [] → go_on is_next_source (r ∷ rs) ≡ true
    → flat_map (λ (s : Row). s.sources) (r ∷ rs) ≡ bytes_from x.channel x.offset (suc (length rs))
sources-moved r [] x e h = ap (λ (bs : List SourceByte). bs ++ []) e
sources-moved r (s ∷ rs) x e h =
    let rest = go_on is_next_source (s ∷ rs) in
    let outer = and_parts (is_next_sink r.sink s.sink && is_next_source r.sources s.sources) rest h in
    let inner = and_parts (is_next_sink r.sink s.sink) (is_next_source r.sources s.sources) outer.0 in
    let next = next_source-is x s.sources (ap (λ (bs : List SourceByte). is_next_source bs s.sources) (sym e) ∙ inner.1) in
    ap₂ (λ (bs cs : List SourceByte). bs ++ cs) e (sources-moved s rs next.byte next.alone outer.1)
    ∙ ap₂ (λ (c o : ℕ). x ∷ bytes_from c o (suc (length rs))) (sym next.channel) (sym next.offset)

-- where each holds its source, the bytes of the two stretches are the same
bytes-moved : (calls : List CallRecord) (r : Row) (rs : List Row) (x : SourceByte) → r.sources ≡ x ∷ [] → go_on is_next_source (r ∷ rs) ≡ true
    → list_all (holds_sources calls) (r ∷ rs) ≡ true → (i : ℕ) → i < suc (length rs)
    → get_or (written (byte_of r.sink).channel calls) ((byte_of r.sink).offset + i) 0 ≡ get_or (received x.channel calls) (x.offset + i) 0
bytes-moved calls r rs x e h all zero below =
    let p : (byte_of r.sink).offset + 0 ≡ (byte_of r.sink).offset = omega arith in
    let q : x.offset + 0 ≡ x.offset = omega arith in
    let parts = and_parts (holds_sources calls r) (list_all (holds_sources calls) rs) all in
    let test : list_all (λ y. byte_written calls (byte_of r.sink) == byte_received calls y) (x ∷ []) ≡ true =
    ap (list_all (λ y. byte_written calls (byte_of r.sink) == byte_received calls y)) (sym e) ∙ parts.0 in
    let same = eqb-true (byte_written calls (byte_of r.sink)) (byte_received calls x) (and_parts (byte_written calls (byte_of r.sink) == byte_received calls x) true test).0 in
    ap (λ (o : ℕ). get_or (written (byte_of r.sink).channel calls) o 0) p ∙ same
    ∙ ap (λ (o : ℕ). get_or (received x.channel calls) o 0) (sym q)
bytes-moved calls r [] x e h all (suc i) below = absurd (omega arith)
bytes-moved calls r (s ∷ rs) x e h all (suc i) below =
    let rest = go_on is_next_source (s ∷ rs) in
    let outer = and_parts (is_next_sink r.sink s.sink && is_next_source r.sources s.sources) rest h in
    let inner = and_parts (is_next_sink r.sink s.sink) (is_next_source r.sources s.sources) outer.0 in
    let sink = next_sink-is r.sink s.sink inner.0 in
    let next = next_source-is x s.sources (ap (λ (bs : List SourceByte). is_next_source bs s.sources) (sym e) ∙ inner.1) in
    let later = bytes-moved calls s rs next.byte next.alone outer.1 (and_parts (holds_sources calls r) (list_all (holds_sources calls) (s ∷ rs)) all).1 i (omega arith) in
    let p : (byte_of r.sink).offset + suc i ≡ (byte_of s.sink).offset + i = omega (arith, sink.1) in
    let q : next.byte.offset + i ≡ x.offset + suc i = omega (arith, next.offset) in
    ap₂ (λ (c o : ℕ). get_or (written c calls) o 0) sink.0 p ∙ later
    ∙ ap₂ (λ (c o : ℕ). get_or (received c calls) o 0) (sym next.channel) q

-- a moved run has one range
record IsOfOne (r : Row) (rs : List Row) : Type 0 where
  byte : SourceByte
  first : r.sources ≡ byte ∷ []
  steps : go_on is_next_source (r ∷ rs) ≡ true

one_of : (bs : List SourceByte) → (length bs == 1) ≡ true → (x : SourceByte) × (bs ≡ x ∷ [])
one_of [] h = cc
one_of (x ∷ []) h = (x, refl)
one_of (x ∷ y ∷ bs) h = absurd (omega (arith, eqb-true (length (x ∷ y ∷ bs)) 1 h))

is_of_one : (r : Row) (rs : List Row) → is_moved (r ∷ rs) ≡ true → IsOfOne r rs
is_of_one r rs h =
    let parts = and_parts (list_all has_one (r ∷ rs)) (go_on is_next_source (r ∷ rs)) h in
    let one = one_of r.sources (and_parts (has_one r) (list_all has_one rs) parts.0).0 in
    record { byte = one.0; first = one.1; steps = parts.1 }

pub moved-range : (r : Row) (rs : List Row) → is_moved (r ∷ rs) ≡ true → (x : SourceByte) → r.sources ≡ x ∷ []
    → ranges_of (sources_of (r ∷ rs)) ≡ record { channel = x.channel; from = x.offset; past = x.offset + suc (length rs) } ∷ []
moved-range r rs moved x e =
    let parts = and_parts (list_all has_one (r ∷ rs)) (go_on is_next_source (r ∷ rs)) moved in
    ap (λ (b : Bool). ranges_of (if b then flat_map (λ (s : Row). s.sources) (r ∷ rs) else r.sources)) moved
    ∙ ap ranges_of (sources-moved r rs x e parts.1)
    ∙ one_range x.channel x.offset (length rs)

-- ---- the law

-- a run is told as the same where it is moved and each holds its source
record IsTold (calls : List CallRecord) (run : List Row) : Type 0 where
  moved : is_moved run ≡ true
  holds : list_all (holds_sources calls) run ≡ true

told_same : (calls : List CallRecord) (run : List Row) → kind_of calls run ≡ Same → IsTold calls run
told_same calls run h = by (is_moved run) refl (list_all (holds_sources calls) run) refl h
  where
    by : (a : Bool) → is_moved run ≡ a → (b : Bool) → list_all (holds_sources calls) run ≡ b → (if a then (if b then Same else Changed) else Shared) ≡ Same → IsTold calls run
    by true e true f h = record { moved = e; holds = f }
    by a e b f h = cc

pub same_holds_range : SameHoldsRange
same_holds_range calls r rs h =
    let told = told_same calls (r ∷ rs) h in
    let one = is_of_one r rs told.moved in
    let x = one.byte in
    let b = byte_of r.sink in
    let n = suc (length rs) in
    record {
      range = record { channel = x.channel; from = x.offset; past = x.offset + n };
      alone = moved-range r rs told.moved x one.first;
      long = refl;
      same = λ has.
          let p : b.offset + n - b.offset ≡ n = omega arith in
          let q : n ≡ x.offset + n - x.offset = omega arith in
          ap (λ (k : ℕ). take k (drop b.offset (written b.channel calls))) p
          ∙ same_slices (written b.channel calls) (received x.channel calls) b.offset x.offset n has.written has.received
          (bytes-moved calls r rs x one.first one.steps told.holds)
          ∙ ap (λ (k : ℕ). take k (drop x.offset (received x.channel calls))) q;
    }
