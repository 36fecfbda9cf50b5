use Rattle.std.proofs.Common.{◌≡◌, ℕ, suc, ◌+◌, ◌-◌, ◌≤◌, true, List, [], ◌∷◌, ◌++◌, sym, ap, ap₂, ◌∙◌, arith}
use Rattle.std.proofs.lemmas.Bool.{and_left, and_right, and_from, false≢true}
use Rattle.flow_model.specs.declared.SourceByte.{SourceByte}
use Rattle.flow_model.specs.declared.SinkByte.{SinkByte}
use Rattle.flow_model.specs.declared.SinkPoint.TheVariants.{Out}
use Rattle.report_model.specs.Rows.{Row}
use Rattle.range_report.specs.Runs.{is_next_sink, same_sources}
use Rattle.range_report.proofs.Texts.{next_sink-is}
use Rattle.range_report.specs.OpenRuns.{row_of, row, shared_rows}
use Rattle.range_report.proofs.Rows.{shared-test, shared-push, same-sources, differ, agree}
use Rattle.range_report.proofs.runs.shared_with.Goals as goal
use Rattle.range_report.proofs.runs.shared_with.Goals.{then-not-sink_follows-via-then-not-sink_follows, then-not-sink_follows-via-else-not-sink_follows+then-not-equals}

-- the rows with the next one
longer : (first byte : SinkByte) (own sources : List SourceByte) (n : ℕ) → 2 ≤ n
    → is_next_sink (Out (record { channel = first.channel; offset = first.offset + (n - 1) })) (Out byte) ≡ true → same_sources own sources ≡ true
    → shared_rows first.channel first.offset own (n + 1) ≡ shared_rows first.channel first.offset own n ++ row byte sources ∷ []
longer first byte own sources n low next same =
    let is = next_sink-is (Out (record { channel = first.channel; offset = first.offset + (n - 1) })) (Out byte) next in
    let e : n + 1 ≡ suc n = omega arith in
    let offset : first.offset + n ≡ byte.offset = omega (arith, is.1) in
    ap (shared_rows first.channel first.offset own) e ∙ sym (shared-push first.channel own first.offset n)
    ∙ ap (λ (r : Row). shared_rows first.channel first.offset own n ++ r ∷ [])
    (ap₂ (λ (c o : ℕ). row_of c o own) is.0 offset ∙ ap (row byte) (same-sources own sources same))

pub returns-then-not-sink_follows : goal.returns-then-not-sink_follows
returns-then-not-sink_follows c =
    let first = c.args.first in
    let next = is_next_sink (Out (record { channel = first.channel; offset = first.offset + (c.args.length - 1) })) (Out c.args.byte) in
    let same = same_sources c.args.own.now c.args.sources.now in
    shared-test first.channel first.offset c.args.own.now c.args.length (c.args.length - 1) (row c.args.byte c.args.sources.now)
    (omega (arith, c.requires.0)) (omega (arith, c.requires.0))
    ∙ elim c.then-not-sink_follows.branch [
      | then-not-sink_follows-via-then-not-sink_follows w ↦ and_left next same (sym c.sink_follows.ensures.next ∙ w.if-not-sink_follows.true)
      | then-not-sink_follows-via-else-not-sink_follows+then-not-equals w ↦
          and_right next same (differ c.args.own.now c.args.sources.now (λ e. false≢true (sym w.if-not-equals.true ∙ w.equals.ensures.1 e)))
    ]

pub returns : goal.returns
returns c =
    let first = c.args.first in
    let next = is_next_sink (Out (record { channel = first.channel; offset = first.offset + (c.args.length - 1) })) (Out c.args.byte) in
    let same = same_sources c.args.own.now c.args.sources.now in
    let goes : next ≡ true = sym c.sink_follows.ensures.next ∙ c.if-not-sink_follows.false in
    let alike : same ≡ true = agree c.args.own.now c.args.sources.now (c.equals.ensures.0 c.if-not-equals.false) in
    record {
      goes_on =
          shared-test first.channel first.offset c.args.own.now c.args.length (c.args.length - 1) (row c.args.byte c.args.sources.now)
          (omega (arith, c.requires.0)) (omega (arith, c.requires.0))
          ∙ and_from next same goes alike;
      rows = longer first c.args.byte c.args.own.now c.args.sources.now c.args.length c.requires.0 goes alike;
      fits = (omega (arith, c.requires.0), omega (arith, c.sink_follows.ensures.few c.if-not-sink_follows.false));
    }
