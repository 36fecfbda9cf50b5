use Rattle.std.proofs.Common.{◌≡◌, ℕ, suc, ◌+◌, ◌-◌, ◌≤◌, true, List, [], ◌∷◌, ◌++◌, sym, ap, ap₂, ◌∙◌, arith}
use Rattle.std.proofs.lemmas.Bool.{and_left, and_right, and_from}
use Rattle.flow_model.specs.declared.SourceByte.{SourceByte}
use Rattle.flow_model.specs.declared.SinkByte.{SinkByte}
use Rattle.flow_model.specs.declared.SinkPoint.TheVariants.{Out}
use Rattle.report_model.specs.Rows.{Row}
use Rattle.source_ranges.specs.Ranges.{byte_on}
use Rattle.range_report.specs.Runs.{is_next_sink, is_next_source}
use Rattle.range_report.proofs.Texts.{next_sink-is, next_source-is}
use Rattle.range_report.specs.OpenRuns.{row_of, row, moved_rows}
use Rattle.range_report.proofs.Rows.{moved-test, moved-push}
use Rattle.range_report.proofs.runs.moved_with.Goals as goal
use Rattle.range_report.proofs.runs.moved_with.Goals.{then-not-sink_follows-via-then-not-sink_follows, then-not-sink_follows-via-else-not-sink_follows+then-not-source_follows}

-- the rows with the next one
longer : (first byte : SinkByte) (source : SourceByte) (sources : List SourceByte) (n : ℕ) → 2 ≤ n
    → is_next_sink (Out (record { channel = first.channel; offset = first.offset + (n - 1) })) (Out byte) ≡ true
    → is_next_source (byte_on source.channel (source.offset + (n - 1)) ∷ []) sources ≡ true
    → moved_rows first.channel first.offset source.channel source.offset (n + 1)
    ≡ moved_rows first.channel first.offset source.channel source.offset n ++ row byte sources ∷ []
longer first byte source sources n low next same =
    let is = next_sink-is (Out (record { channel = first.channel; offset = first.offset + (n - 1) })) (Out byte) next in
    let from = next_source-is (byte_on source.channel (source.offset + (n - 1))) sources same in
    let e : n + 1 ≡ suc n = omega arith in
    let sink : first.offset + n ≡ byte.offset = omega (arith, is.1) in
    let there : source.offset + n ≡ from.byte.offset = omega (arith, from.offset) in
    ap (moved_rows first.channel first.offset source.channel source.offset) e
    ∙ sym (moved-push first.channel source.channel first.offset source.offset n)
    ∙ ap (λ (r : Row). moved_rows first.channel first.offset source.channel source.offset n ++ r ∷ [])
    (ap₂ (λ (c o : ℕ). row_of c o (byte_on source.channel (source.offset + n) ∷ [])) is.0 sink
    ∙ ap (row byte) (ap₂ (λ (d e : ℕ). byte_on d e ∷ []) from.channel there ∙ sym from.alone))

pub returns-then-not-sink_follows : goal.returns-then-not-sink_follows
returns-then-not-sink_follows c =
    let m = c.args.run in
    let next = is_next_sink (Out (record { channel = m.first.channel; offset = m.first.offset + (m.length - 1) })) (Out c.args.byte) in
    let same = is_next_source (byte_on m.source.channel (m.source.offset + (m.length - 1)) ∷ []) c.args.sources.now in
    moved-test m.first.channel m.first.offset m.source.channel m.source.offset m.length (m.length - 1) (row c.args.byte c.args.sources.now)
    (omega (arith, c.requires.0)) (omega (arith, c.requires.0))
    ∙ elim c.then-not-sink_follows.branch [
      | then-not-sink_follows-via-then-not-sink_follows w ↦ and_left next same (sym c.sink_follows.ensures.next ∙ w.if-not-sink_follows.true)
      | then-not-sink_follows-via-else-not-sink_follows+then-not-source_follows w ↦ and_right next same (sym w.source_follows.ensures ∙ w.if-not-source_follows.true)
    ]

pub returns : goal.returns
returns c =
    let m = c.args.run in
    let next = is_next_sink (Out (record { channel = m.first.channel; offset = m.first.offset + (m.length - 1) })) (Out c.args.byte) in
    let same = is_next_source (byte_on m.source.channel (m.source.offset + (m.length - 1)) ∷ []) c.args.sources.now in
    let goes : next ≡ true = sym c.sink_follows.ensures.next ∙ c.if-not-sink_follows.false in
    let from : same ≡ true = sym c.source_follows.ensures ∙ c.if-not-source_follows.false in
    record {
      goes_on =
          moved-test m.first.channel m.first.offset m.source.channel m.source.offset m.length (m.length - 1) (row c.args.byte c.args.sources.now)
          (omega (arith, c.requires.0)) (omega (arith, c.requires.0))
          ∙ and_from next same goes from;
      rows = longer m.first c.args.byte m.source c.args.sources.now m.length c.requires.0 goes from;
      fits = (omega (arith, c.requires.0), omega (arith, c.sink_follows.ensures.few c.if-not-sink_follows.false));
    }
