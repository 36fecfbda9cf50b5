-- The runs of a report: their bytes were moved, and what is copied isn't told as changed.
use Rattle.std.proofs.Common.{◌≡◌, Bool, true, false, ◌&&◌, cond, ◌==◌, List, [], ◌∷◌, refl, sym, ap, ◌∙◌, eq-eqb, ℕ, zero, suc, ◌+◌, ◌-◌, ◌<◌, ◌≤◌, map, length, subst, arith, pos}
use Rattle.std.specs.Prelude.{if◌then◌else◌, ◌||◌, All, codes}
use Rattle.std.specs.List.{flat_map, list_all, AllByRecursion, range_with_len}
use Rattle.std.proofs.lemmas.Bool.{and_from, and_parts}
use Rattle.std.proofs.lemmas.List.Elements.{recursion_from_All, All-from_recursion, All-weaker, All-head}
use Rattle.std.proofs.lemmas.List.Folds.{list_all-append}
use Rattle.isa.specs.Machine.{State}
use Rattle.log_model.specs.declared.CallRecord.{CallRecord}
use Rattle.log_model.specs.Logs.{Log}
use Rattle.flow_model.specs.declared.SourceByte.{SourceByte}
use Rattle.flow_model.specs.declared.SinkPoint.{SinkPoint}
use Rattle.flow_model.specs.declared.SinkPoint.TheVariants.{Out, At}
use Rattle.report_model.specs.Rows.{Row, rows}
use Rattle.answer_meaning.specs.RunLaws.{IsCopied, NoOrigin, OneOrigin, CopiedRows, byte_at_sink}
use Rattle.range_report.specs.declared.RunKind.TheVariants.{Same, Changed, Shared}
use Rattle.range_report.specs.Runs.{is_output, has_any, output_rows, is_moved, runs, has_one, is_next_sink, is_next_source, same_sources, go_on, is_run}
use Rattle.range_report.specs.Text.{byte_of, byte_written, byte_received, holds_sources, kind_of, sources_of, written_in, received_in}
use Rattle.range_report.specs.RunLaws.{RunsHoldRows, AreLongest, HasBytes, SameHoldsRange}
use Rattle.answer_meaning.specs.RangeMeaning.{CopiedAreUnchanged, MovesAreUnchanged, LinesAreMoved, HoldsSameBytes, SameIsSame}
use Rattle.lists.proofs.Lists.{all-append, all-parts}
use Rattle.log_model.specs.Moved.{received, written}
use Rattle.replay_model.specs.Run.{trace}
use Rattle.answer_meaning.specs.MovedLaws.{WasReceived, WasWritten, IsOfMovedBytes, RowsAreOfMovedBytes}
use Rattle.source_ranges.specs.declared.SourceRange.{SourceRange}
use Rattle.source_ranges.specs.Ranges.{byte_on, bytes_of, ranges_of}
use Rattle.source_ranges.specs.RangeLaws.{AreApart, RangesHoldBytes}
use Rattle.range_report.proofs.Texts.{next_sink-is}
use Rattle.log_model.specs.declared.CallRecord.TheVariants.{Read, Write}

-- a row of an output byte that is copied holds its source
row_holds : (log : Log) (s : State) (sink : SinkPoint) (bs : List SourceByte) → is_output sink ≡ true → IsCopied log (byte_at_sink s log sink) bs
    → list_all (λ x. byte_written log.records (byte_of sink) == byte_received log.records x) bs ≡ true
row_holds log s (At p) bs output copied = cc
row_holds log s (Out b) bs output (NoOrigin none) =
    ap (list_all (λ x. byte_written log.records b == byte_received log.records x)) none
row_holds log s (Out b) bs output (OneOrigin x one same) =
    ap (list_all (λ y. byte_written log.records b == byte_received log.records y)) one
    ∙ and_from (byte_written log.records b == byte_received log.records x) true
    (eq-eqb (byte_written log.records b) (byte_received log.records x) same) refl

rows_hold : (log : Log) (s : State) (rs : List Row) → AllByRecursion (λ r. IsCopied log (byte_at_sink s log r.sink) r.sources) rs
    → list_all (holds_sources log.records) (output_rows rs) ≡ true
rows_hold log s [] h = refl
rows_hold log s (r ∷ rs) h = by (is_output r.sink) refl (has_any r.sources) (rows_hold log s rs h.1)
  where
    by : (o : Bool) → is_output r.sink ≡ o → (a : Bool) → list_all (holds_sources log.records) (output_rows rs) ≡ true
        → list_all (holds_sources log.records) (cond (o && a) (r ∷ output_rows rs) (output_rows rs)) ≡ true
    by true e true rest =
        and_from (holds_sources log.records r) (list_all (holds_sources log.records) (output_rows rs)) (row_holds log s r.sink r.sources e h.0) rest
    by true e false rest = rest
    by false e a rest = rest

module _ (calls : List CallRecord) where
  -- a run whose rows hold their sources isn't changed
  unchanged : (run : List Row) → list_all (holds_sources calls) run ≡ true → kind_of calls run ≡ Changed → ⊥
  unchanged run h changed = by (is_moved run) (ap (λ (b : Bool). if is_moved run then (if b then Same else Changed) else Shared) (sym h) ∙ changed)
    where
      by : (b : Bool) → (if b then (if true then Same else Changed) else Shared) ≡ Changed → ⊥
      by true e = cc
      by false e = cc

  each : (others : List (List Row)) → list_all (holds_sources calls) (flat_map (λ run. run) others) ≡ true
      → AllByRecursion (λ run. kind_of calls run ≡ Changed → ⊥) others
  each [] h = tt
  each (run ∷ rest) h =
      let parts = and_parts (list_all (holds_sources calls) run) (list_all (holds_sources calls) (flat_map (λ run. run) rest))
      (sym (list_all-append (holds_sources calls) run (flat_map (λ run. run) rest)) ∙ h) in
      (unchanged run parts.0, each rest parts.1)

pub copied_are_unchanged : RunsHoldRows → CopiedAreUnchanged
copied_are_unchanged law log s rs copied =
    let kind = λ (run : List Row). kind_of log.records run ≡ Changed → ⊥ in
    All-from_recursion kind (runs (output_rows rs))
    (each log.records (runs (output_rows rs))
    (ap (list_all (holds_sources log.records)) (law (output_rows rs)).rows
    ∙ rows_hold log s rs (recursion_from_All (λ r. IsCopied log (byte_at_sink s log r.sink) r.sources) rs copied)))

pub moves_are_unchanged : RunsHoldRows → CopiedRows → MovesAreUnchanged
moves_are_unchanged law copied log s run q rule located = copied_are_unchanged law log s _ (copied log s run q rule located)

module _ (log : Log) where
  -- ---- rows of output bytes

  record IsMoved (r : Row) : Type 0 where
    output : (byte_of r.sink).offset < length (written (byte_of r.sink).channel log.records)
    sources : AllByRecursion (WasReceived log) r.sources

  output_moved : (p : SinkPoint) → is_output p ≡ true → WasWritten log p → (byte_of p).offset < length (written (byte_of p).channel log.records)
  output_moved (Out b) e h = h
  output_moved (At p) e h = cc

  output_rows_moved : (rs : List Row) → AllByRecursion (IsOfMovedBytes log) rs → AllByRecursion IsMoved (output_rows rs)
  output_rows_moved [] h = tt
  output_rows_moved (r ∷ rs) h = by (output_rows_moved rs h.1) (is_output r.sink) refl (has_any r.sources)
    where
      by : AllByRecursion IsMoved (output_rows rs) → (o : Bool) → is_output r.sink ≡ o → (a : Bool) → AllByRecursion IsMoved (cond (o && a) (r ∷ output_rows rs) (output_rows rs))
      by rest true e true =
          (record { output = output_moved r.sink e h.0.sink; sources = recursion_from_All (WasReceived log) r.sources h.0.sources }, rest)
      by rest true e false = rest
      by rest false e a = rest

  -- ---- what a run wrote

  past_written : (stand : List SourceByte → List SourceByte → Bool) (r : Row) (rs : List Row) → go_on stand (r ∷ rs) ≡ true → AllByRecursion IsMoved (r ∷ rs)
      → (byte_of r.sink).offset + suc (length rs) ≤ length (written (byte_of r.sink).channel log.records)
  past_written stand r [] h all = omega (arith, all.0.output)
  past_written stand r (s ∷ rs) h all =
      let here = is_next_sink r.sink s.sink in
      let outer = and_parts (here && stand r.sources s.sources) (go_on stand (s ∷ rs)) h in
      let next = next_sink-is r.sink s.sink (and_parts here (stand r.sources s.sources) outer.0).0 in
      let later = past_written stand s rs outer.1 all.1 in
      subst (λ (c : ℕ). (byte_of r.sink).offset + suc (suc (length rs)) ≤ length (written c log.records)) (sym next.0) (omega (arith, next.1, later))

  run_written : (r : Row) (rs : List Row) → is_run (r ∷ rs) ≡ true → AllByRecursion IsMoved (r ∷ rs)
      → (byte_of r.sink).offset + suc (length rs) ≤ length (written (byte_of r.sink).channel log.records)
  run_written r rs h all = by (list_all has_one (r ∷ rs)) (go_on is_next_source (r ∷ rs)) refl h
    where
      by : (a b : Bool) → go_on is_next_source (r ∷ rs) ≡ b → ((a && b) || go_on same_sources (r ∷ rs)) ≡ true
          → (byte_of r.sink).offset + suc (length rs) ≤ length (written (byte_of r.sink).channel log.records)
      by true true e h = past_written is_next_source r rs e all
      by true false e h = past_written same_sources r rs h all
      by false b e h = past_written same_sources r rs h all

  -- ---- what was received at its ranges

  all_sources : (rs : List Row) → AllByRecursion IsMoved rs → AllByRecursion (WasReceived log) (flat_map (λ (s : Row). s.sources) rs)
  all_sources [] h = tt
  all_sources (r ∷ rs) h = all-append (WasReceived log) r.sources (flat_map (λ (s : Row). s.sources) rs) h.0.sources (all_sources rs h.1)

  run_sources : (r : Row) (rs : List Row) → AllByRecursion IsMoved (r ∷ rs) → AllByRecursion (WasReceived log) (sources_of (r ∷ rs))
  run_sources r rs h = by (is_moved (r ∷ rs))
    where
      by : (b : Bool) → AllByRecursion (WasReceived log) (cond b (flat_map (λ (s : Row). s.sources) (r ∷ rs)) r.sources)
      by true = all_sources (r ∷ rs) h
      by false = h.0.sources

  -- the last of bytes that were received
  last_received : (c a n : ℕ) → AllByRecursion (WasReceived log) (map (byte_on c) (range_with_len a (suc n))) → a + suc n ≤ length (received c log.records)
  last_received c a zero h = omega (arith, h.0)
  last_received c a (suc n) h = let later = last_received c (a + 1) n h.1 in omega (arith, later)

  range_received : (r : SourceRange) → r.from < r.past → AllByRecursion (WasReceived log) (bytes_of r) → r.past ≤ length (received r.channel log.records)
  range_received r some h = by (r.past - r.from) refl h
    where
      by : (n : ℕ) → r.past - r.from ≡ n → AllByRecursion (WasReceived log) (map (byte_on r.channel) (range_with_len r.from n)) → r.past ≤ length (received r.channel log.records)
      by zero e h = absurd (omega (arith, some, e))
      by (suc n) e h = let last = last_received r.channel r.from n h in omega (arith, some, e, last)

  ranges_received : (rs : List SourceRange) → AreApart rs → AllByRecursion (WasReceived log) (flat_map bytes_of rs) → AllByRecursion (λ r. r.past ≤ length (received r.channel log.records)) rs
  ranges_received [] apart h = tt
  ranges_received (r ∷ rs) apart h =
      let parts = all-parts (WasReceived log) (bytes_of r) (flat_map bytes_of rs) h in
      (range_received r apart.0 parts.0, ranges_received rs apart.2 parts.1)

  -- ---- the lines

  line_moved : RangesHoldBytes → (r : Row) (rs : List Row) → is_run (r ∷ rs) ≡ true → AllByRecursion IsMoved (r ∷ rs) → All (HasBytes log.records (r ∷ rs)) (ranges_of (sources_of (r ∷ rs)))
  line_moved hold r rs h all =
      let bs = sources_of (r ∷ rs) in
      let of_bytes = hold bs in
      let there = ranges_received (ranges_of bs) of_bytes.apart (subst (AllByRecursion (WasReceived log)) (sym of_bytes.bytes) (run_sources r rs all)) in
      All-weaker (λ (x : SourceRange). x.past ≤ length (received x.channel log.records)) (HasBytes log.records (r ∷ rs))
      (λ x past. record { written = run_written r rs h all; received = past }) (ranges_of bs)
      (All-from_recursion (λ (x : SourceRange). x.past ≤ length (received x.channel log.records)) (ranges_of bs) there)

  line_same : SameHoldsRange → (r : Row) (rs : List Row) → All (HasBytes log.records (r ∷ rs)) (ranges_of (sources_of (r ∷ rs)))
      → kind_of log.records (r ∷ rs) ≡ Same → HoldsSameBytes log.records (r ∷ rs)
  line_same law r rs moved told =
      let holds = law log.records r rs told in
      let one = subst (All (HasBytes log.records (r ∷ rs))) holds.alone moved in
      record { range = holds.range; alone = holds.alone; long = holds.long; same = holds.same (All-head (HasBytes log.records (r ∷ rs)) holds.range [] one) }

  -- what is true of each run of moved rows is true of all
  each_run : (Q : List Row → Type 0) → ((r : Row) (rs : List Row) → is_run (r ∷ rs) ≡ true → AllByRecursion IsMoved (r ∷ rs) → Q (r ∷ rs))
      → (others : List (List Row)) → AreLongest others → AllByRecursion IsMoved (flat_map (λ run. run) others) → AllByRecursion Q others
  each_run Q one [] longest h = tt
  each_run Q one ([] ∷ rest) longest h = absurd longest
  each_run Q one ((r ∷ rs) ∷ rest) longest h =
      let parts = all-parts IsMoved (r ∷ rs) (flat_map (λ (run : List Row). run) rest) h in
      (one r rs longest.0 parts.0, each_run Q one rest longest.2 parts.1)

  all_runs : RunsHoldRows → (Q : List Row → Type 0) → ((r : Row) (rs : List Row) → is_run (r ∷ rs) ≡ true → AllByRecursion IsMoved (r ∷ rs) → Q (r ∷ rs))
      → (rs : List Row) → All (IsOfMovedBytes log) rs → All Q (runs (output_rows rs))
  all_runs law Q one rs h =
      let hold = law (output_rows rs) in
      let moved = output_rows_moved rs (recursion_from_All (IsOfMovedBytes log) rs h) in
      All-from_recursion Q (runs (output_rows rs))
      (each_run Q one (runs (output_rows rs)) hold.longest (subst (AllByRecursion IsMoved) (sym hold.rows) moved))

pub lines_moved : RunsHoldRows → RangesHoldBytes → RowsAreOfMovedBytes → LinesAreMoved
lines_moved held hold moved log s run q =
    all_runs log held (λ run. All (HasBytes log.records run) (ranges_of (sources_of run))) (line_moved log hold) (rows q (trace s log)) (moved log s run q)

pub same_is_same : RunsHoldRows → RangesHoldBytes → SameHoldsRange → RowsAreOfMovedBytes → SameIsSame
same_is_same held hold same moved log s run q =
    all_runs log held (λ run. kind_of log.records run ≡ Same → HoldsSameBytes log.records run)
    (λ r rs h all. line_same log same r rs (line_moved log hold r rs h all)) (rows q (trace s log)) (moved log s run q)

-- ---- rows that no run has: why the laws speak of the rows of a run

-- "A" and a zero are read on channel 0, and "A" written on channel 1
abbrev calls : List CallRecord
calls = Read 2 (0 ∷ 0 ∷ 2 ∷ []) (pos 2) (0x41 ∷ 0 ∷ []) ∷ Write 5 (1 ∷ 0 ∷ 1 ∷ []) (pos 1) (codes "A") ∷ []

-- offset o of channel 1, from offset o of channel 0
abbrev moved : ℕ → Row
moved o = record { sink = Out (record { channel = 1; offset = o }); sources = byte_on 0 o ∷ [] }

abbrev two_rows : List Row
two_rows = moved 0 ∷ moved 1 ∷ []

-- the second output byte wasn't written: the line would be told with `=`, and yet the sides differ
sides_differ : (runs two_rows ≡ two_rows ∷ [])
    × (kind_of calls two_rows ≡ Same)
    × (written_in calls two_rows ≡ 0x41 ∷ [])
    × (received_in calls (record { channel = 0; from = 0; past = 2 }) ≡ 0x41 ∷ 0 ∷ [])
sides_differ = (refl, refl, refl, refl)
