use Rattle.std.proofs.Common.{◌≡◌, ◌∙◌, ap, subst, ℕ, List, [], ◌∷◌, ◌++◌}
use Rattle.std.specs.List.{flat_map}
use Rattle.flow_model.specs.declared.SinkPoint.{SinkPoint}
use Rattle.report_model.specs.Text.{source_text, point_text}
use Rattle.source_ranges.specs.Ranges.{bytes_of}
use Rattle.source_ranges.proofs.Kept.{bytes-ranges}
use Rattle.outer_io.proofs.PiecesLemmas.{puts-fault, puts-then}
use Rattle.sink_collect.specs.Waiting.{waiting}
use Rattle.sink_collect.proofs.Waiting.{waiting_laws}
use Rattle.sink_collect.proofs.writing.add_row.Goals as goal

pub returns-in_err-add_point : goal.returns-in_err-add_point
returns-in_err-add_point g c =
    let row = c.args.row.now in
    let laws = (waiting_laws g.P.Pieces.putting g.met.P.Pieces.laws) in
    let point = subst (λ (sink : SinkPoint). (waiting g.P.Pieces.putting).part (c.args.place.now, c.args.text.now) (point_text sink) (c.add_point.new.place, c.add_point.new.text)) c.sink.ensures c.in_err-add_point.ensures in
    puts-fault (waiting g.P.Pieces.putting) _ (c.args.place.now, c.args.text.now) (c.add_point.new.place, c.add_point.new.text) _ c.from_residual.result c.from_residual.ensures.1
    (laws.part_first (c.args.place.now, c.args.text.now) (c.add_point.new.place, c.add_point.new.text) (point_text row.sink ++ flat_map source_text row.sources) (10 ∷ []) (laws.part_first (c.args.place.now, c.args.text.now) (c.add_point.new.place, c.add_point.new.text) (point_text row.sink) (flat_map source_text row.sources) point))

pub returns-in_err-add_ranges : goal.returns-in_err-add_ranges
returns-in_err-add_ranges g c =
    let row = c.args.row.now in
    let laws = (waiting_laws g.P.Pieces.putting g.met.P.Pieces.laws) in
    let names : flat_map source_text (flat_map bytes_of c.ranges-2.result.now) ≡ flat_map source_text row.sources =
    ap (λ bs. flat_map source_text bs) (ap (flat_map bytes_of) c.ranges-2.ensures.value ∙ bytes-ranges c.sources.result.now ∙ c.sources.ensures.value) in
    let point = subst (λ (sink : SinkPoint). (waiting g.P.Pieces.putting).whole (c.args.place.now, c.args.text.now) (point_text sink) (c.add_point.new.place, c.add_point.new.text)) c.sink.ensures c.in_ok-add_point.ensures in
    let part = subst (λ (text : List ℕ). (waiting g.P.Pieces.putting).part (c.add_point.new.place, c.add_point.new.text) text (c.add_ranges.new.place, c.add_ranges.new.text)) names c.in_err-add_ranges.ensures in
    puts-fault (waiting g.P.Pieces.putting) _ (c.args.place.now, c.args.text.now) (c.add_ranges.new.place, c.add_ranges.new.text) _ c.from_residual-in_err-add_ranges.result c.from_residual-in_err-add_ranges.ensures.1
    (laws.part_first (c.args.place.now, c.args.text.now) (c.add_ranges.new.place, c.add_ranges.new.text) (point_text row.sink ++ flat_map source_text row.sources) (10 ∷ [])
    (laws.part_then (c.args.place.now, c.args.text.now) (c.add_point.new.place, c.add_point.new.text) (c.add_ranges.new.place, c.add_ranges.new.text) (point_text row.sink) (flat_map source_text row.sources) point part))

pub returns : goal.returns
returns g c =
    let row = c.args.row.now in
    let laws = (waiting_laws g.P.Pieces.putting g.met.P.Pieces.laws) in
    let names : flat_map source_text (flat_map bytes_of c.ranges-2.result.now) ≡ flat_map source_text row.sources =
    ap (λ bs. flat_map source_text bs) (ap (flat_map bytes_of) c.ranges-2.ensures.value ∙ bytes-ranges c.sources.result.now ∙ c.sources.ensures.value) in
    let point = subst (λ (sink : SinkPoint). (waiting g.P.Pieces.putting).whole (c.args.place.now, c.args.text.now) (point_text sink) (c.add_point.new.place, c.add_point.new.text)) c.sink.ensures c.in_ok-add_point.ensures in
    let whole = subst (λ (text : List ℕ). (waiting g.P.Pieces.putting).whole (c.add_point.new.place, c.add_point.new.text) text (c.add_ranges.new.place, c.add_ranges.new.text)) names c.in_ok-add_ranges.ensures in
    puts-then (waiting g.P.Pieces.putting) laws (c.args.place.now, c.args.text.now) (c.add_ranges.new.place, c.add_ranges.new.text) (c.add_line_feed.new.place, c.add_line_feed.new.text) (point_text row.sink ++ flat_map source_text row.sources) (10 ∷ []) c.add_line_feed.result
    (laws.whole_then (c.args.place.now, c.args.text.now) (c.add_point.new.place, c.add_point.new.text) (c.add_ranges.new.place, c.add_ranges.new.text) (point_text row.sink) (flat_map source_text row.sources) point whole) c.add_line_feed.ensures
