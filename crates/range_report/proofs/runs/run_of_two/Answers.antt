use Rattle.std.proofs.Common.{◌≡◌, ℕ, ◌+◌, Bool, true, false, ◌&&◌, ◌||◌, [], ◌∷◌, refl, sym, ap, ap₂, ◌∙◌, arith}
use Rattle.std.proofs.lemmas.Bool.{and_from, and_right, or_right, false≢true}
use Rattle.flow_model.specs.declared.SinkPoint.TheVariants.{Out}
use Rattle.report_model.specs.Rows.{Row}
use Rattle.range_report.specs.Runs.{is_next_sink, is_next_source, same_sources}
use Rattle.range_report.proofs.Texts.{next_sink-is}
use Rattle.range_report.specs.OpenRuns.{row_of, row}
use Rattle.range_report.proofs.Rows.{one-is_run, same-sources, differ, agree}
use Rattle.range_report.proofs.runs.run_of_two.Goals as goal

pub returns : goal.returns
returns c =
    let first = c.args.first in
    let byte = c.args.byte in
    let own = c.args.own.now in
    let sources = c.args.sources.now in
    let zero : first.offset + 0 ≡ first.offset = omega arith in
    let next : is_next_sink (Out first) (Out byte) ≡ true =
    ap (λ (o : ℕ). is_next_sink (Out (record { channel = first.channel; offset = o })) (Out byte)) (sym zero)
    ∙ sym c.sink_follows.ensures.next ∙ c.if-not-sink_follows.false in
    let same : same_sources own sources ≡ true = agree own sources (c.equals.ensures.0 c.if-not-equals.false) in
    let is = next_sink-is (Out first) (Out byte) next in
    record {
      goes_on =
          one-is_run first.channel first.offset own (row byte sources)
          ∙ and_from (is_next_sink (Out first) (Out byte)) (is_next_source own sources || same_sources own sources) next
          (or_right (is_next_source own sources) (same_sources own sources) same);
      rows = ap (λ (r : Row). row first own ∷ r ∷ []) (ap₂ (λ (c o : ℕ). row_of c o own) is.0 is.1 ∙ ap (row byte) (same-sources own sources same));
      fits = (omega arith, omega arith);
    }

pub returns-then-not-equals : goal.returns-then-not-equals
returns-then-not-equals c =
    let first = c.args.first in
    let own = c.args.own.now in
    let sources = c.args.sources.now in
    let next = is_next_sink (Out first) (Out c.args.byte) in
    one-is_run first.channel first.offset own (row c.args.byte sources)
    ∙ ap₂ (λ (m s : Bool). next && (m || s)) c.in_default.ensures (differ own sources (λ e. false≢true (sym c.if-not-equals.true ∙ c.equals.ensures.1 e)))
    ∙ and_right next false refl
