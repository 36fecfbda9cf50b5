use Rattle.std.proofs.Common.{◌≡◌, ◌∙◌, ap, ap₂, sym, subst, ℕ, List}
use Rattle.std.specs.List.{flat_map}
use Rattle.std.proofs.lemmas.List.{take_all}
use Rattle.flow_model.specs.declared.SinkPoint.{SinkPoint}
use Rattle.source_ranges.specs.declared.SourceRange.{SourceRange}
use Rattle.source_ranges.specs.Ranges.{bytes_of}
use Rattle.outer_io.proofs.PiecesLemmas.{puts-fault, puts-some}
use Rattle.sink_collect.specs.Reaching.{line_of}
use Rattle.sink_collect.proofs.Putting.{lines_of, lines_of_ranges}
use Rattle.sink_collect.proofs.writing.put_reaches.Goals as goal

pub returns-in_err-put_range_reach : goal.returns-in_err-put_range_reach
returns-in_err-put_range_reach g c =
    let putting = g.P.Pieces.putting in
    let reaches = c.args.reaches.now in
    let reach = c.reach-item.result in
    let lines : flat_map (line_of c.sinks.result.now) (bytes_of c.range.result) ≡ lines_of reach =
    ap₂ (λ (sinks : List SinkPoint) (r : SourceRange). flat_map (line_of sinks) (bytes_of r)) c.sinks.ensures c.range.ensures in
    puts-fault putting _ c.args.place.now c.put_range_reach.new.place _ c.from_residual.result c.from_residual.ensures.1
    (subst (λ (text : List ℕ). putting.part c.args.place.now text c.put_range_reach.new.place) (sym (lines_of_ranges reaches))
    (puts-some putting g.met.P.Pieces.laws lines_of reaches c.loop-reach.reach-index reach c.args.place.now c.loop-reach.place c.put_range_reach.new.place
    c.loop-reach-test.true c.reach-item.is c.loop-reach.invariant
    (subst (λ (text : List ℕ). putting.part c.loop-reach.place text c.put_range_reach.new.place) lines c.in_err-put_range_reach.ensures)))

pub returns : goal.returns
returns g c =
    let reaches = c.args.reaches.now in
    subst (λ (text : List ℕ). g.P.Pieces.putting.whole c.args.place.now text c.loop-reach.place)
    (ap (flat_map lines_of) (take_all c.loop-reach.reach-index reaches c.loop-reach-test.false) ∙ sym (lines_of_ranges reaches))
    c.loop-reach.invariant
